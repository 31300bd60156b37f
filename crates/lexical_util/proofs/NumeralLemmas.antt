-- Lemmas on reading a numeral digit by digit.
use Rattle.std.proofs.Common.{rules, ◌≡◌, ℕ, ◌+◌, ◌*◌, ◌^◌, ◌<◌, ◌≤◌, true, IsTrue, List, length, map, take, get_or, nat_lt, sym, ap, ◌∙◌, arith, Some}
use Rattle.std.specs.Int.Digits.{number_from_digits}
use Rattle.std.specs.List.{AllPass}
use Rattle.std.proofs.Math.Nat.{pow-le-pow_left, pow-le-pow_right}
use Rattle.std.proofs.lemmas.Bool.Decides.{nat_tests}
use Rattle.std.proofs.lemmas.Bool.{ltb-true}
use Rattle.std.proofs.lemmas.Int.Digits.{number_lt, number_push}
use Rattle.std.proofs.lemmas.List.{length-map, length-take, map_more, take_all}
use Rattle.std.proofs.lemmas.List.Elements.{All-map, All-more, recursion_from_All}
use Rattle.std.proofs.lemmas.List.Sums.{AllPass-from_list_all, list_all-from_AllPass}
use Rattle.std.proofs.lemmas.Option.{cond_some}
use Rattle.lexical_base.specs.Digits.{byte_value, digit_of, numeral}
use Rattle.lexical_util.specs.Additions.Numeral.{is_digit_of_radix, is_numeral}

-- `NumeralParts radix most digits` holds if `digits` are 1 to `most` digits of `radix`.
pub record NumeralParts (radix most : ℕ) (digits : List ℕ) : Type 0 where
  pub some : 1 ≤ length digits
  pub few : length digits ≤ most
  pub all_digits : AllPass (is_digit_of_radix radix) digits

pub numeral_parts : (radix most : ℕ) (digits : List ℕ) → IsTrue (is_numeral radix most digits) → NumeralParts radix most digits
numeral_parts radix most digits test = search (rules, AllPass-from_list_all)

pub numeral_from : (radix most : ℕ) (digits : List ℕ) → NumeralParts radix most digits → IsTrue (is_numeral radix most digits)
numeral_from radix most digits parts =
    let all = list_all-from_AllPass (is_digit_of_radix radix) digits parts.all_digits in grind (arith, nat_tests)

-- `HasRead radix digits count number` holds if the first `count` of `digits` are digits of `radix` and write `number`.
pub record HasRead (radix : ℕ) (digits : List ℕ) (count number : ℕ) : Type 0 where
  pub sum : number ≡ numeral radix (take count digits)
  pub all_digits : AllPass (is_digit_of_radix radix) (take count digits)

-- If at most 32 digits of a radix of at most 16 are read, then their number fits 128 bits.
pub HasRead-fits : (radix : ℕ) (digits : List ℕ) (count number : ℕ) → HasRead radix digits count number → radix ≤ 16 → count ≤ 32 → number < 2 ^ 128
HasRead-fits radix digits count number read low few =
    let values = map byte_value (take count digits) in
    let below : numeral radix (take count digits) < radix ^ length values =
    number_lt radix values (recursion_from_All (λ d. d < radix) values (All-map (λ d. d < radix) byte_value
    (take count digits) (λ k d inside. ltb-true _ _ (read.all_digits k d inside)))) in
    let short : length values ≤ 32 = omega (arith, length-map (take count digits) byte_value, length-take count digits) in
    let power : 16 ^ length values ≤ 16 ^ 32 = pow-le-pow_right (omega arith) short in
    omega (arith, read.sum, below, pow-le-pow_left low (length values), power)

-- If `count` digits are read and the next byte is a digit, then `count + 1` digits are read.
pub HasRead-next : (radix : ℕ) (digits : List ℕ) (count number digit : ℕ) → HasRead radix digits count number → count < length digits
    → Some digit ≡ digit_of (get_or digits count 0) radix → HasRead radix digits (count + 1) (number * radix + digit)
HasRead-next radix digits count number digit before inside read =
    let byte = get_or digits count 0 in
    let is : (nat_lt (byte_value byte) radix ≡ true) × (byte_value byte ≡ digit) =
    cond_some (nat_lt (byte_value byte) radix) (byte_value byte) digit (sym read) in
    record {
      sum = rw (before.sum, ← is.1) (sym (ap (number_from_digits radix) (map_more byte_value digits count 0 inside)
          ∙ number_push radix (map byte_value (take count digits)) (byte_value byte)));
      all_digits = All-more (λ b. is_digit_of_radix radix b ≡ true) digits count 0 inside before.all_digits is.0;
    }

-- If all digits are read, then the bytes are a numeral, and the number is its value.
pub HasRead-whole : (radix most : ℕ) (digits : List ℕ) (count number : ℕ) → HasRead radix digits count number
    → length digits ≤ count → 1 ≤ length digits → length digits ≤ most → IsTrue (is_numeral radix most digits) × (number ≡ numeral radix digits)
HasRead-whole radix most digits count number read done some few = search (rules, take_all, numeral_from)

-- `reading` are the lemmas that the loop of `read_numeral` needs.
pub ruleset reading = (HasRead-fits, HasRead-next)
