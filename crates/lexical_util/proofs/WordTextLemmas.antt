-- Lemmas on the loop of `word_text`, and on the only text with a given form and value.
use Rattle.std.proofs.Common.{rules, ◌≡◌, ℕ, zero, suc, ◌+◌, ◌-◌, ◌*◌, ◌/◌, ◌%◌, ◌^◌, ◌<◌, ◌==◌, ◌&&◌, Bool, true, not, IsTrue, bytes_eq, List, [], ◌∷◌, ◌++◌}
use Rattle.std.proofs.Common.{map, take, drop, length, codes, replicate, slice_index_or, refl, sym, ap, ◌∙◌, subst, arith, cond, inl, inr, nat_lt, unwrap_or}
use Rattle.std.proofs.Common.{Some, None}
use Rattle.std.specs.Int.Digits.{number_from_digits_after}
use Rattle.std.specs.List.{All, position_or_len}
use Rattle.std.proofs.Math.ListN.{set}
use Rattle.std.proofs.Math.Nat.{pow-suc, div-div-eq-div-mul}
use Rattle.std.proofs.lemmas.Bool.{agree_below_at, and_from, and_parts, cases_Bool, cond-false, eqb-true, ltb-true, not-true}
use Rattle.std.proofs.lemmas.Nat.{same_from_place}
use Rattle.std.proofs.lemmas.Slice.Eq.{bytes_eq-Decides}
use Rattle.std.proofs.lemmas.List.{drop-set, take-set-le, length-set, take-append-drop}
use Rattle.std.proofs.lemmas.List.Sums.{AllPass-from_list_all, list_all-from_AllPass, passes_at_first}
use Rattle.std.proofs.lemmas.List.Elements.{All-cons, All-head, All-nil, All-tail, All-weaker}
use Rattle.lexical_base.specs.Digits.{digit_characters, is_lowercase, uppercase, byte_value}
use Rattle.lexical_base.proofs.ValueLemmas.{byte_value-digit_character}
use Rattle.lexical_util.specs.Additions.Numeral.{is_digit_of_radix}
use Rattle.lexical_util.specs.Additions.WordText.{hex, hex_digits, IsPrintedForm, digit_at, last_digits, printed}
use Rattle.lexical_util.proofs.NumeralLemmas.{numeral_from, numeral_parts}

-- `is_printed_digit byte` is true if `byte` is a hexadecimal digit and not a lowercase letter.
abbrev is_printed_digit : ℕ → Bool
is_printed_digit byte = is_digit_of_radix 16 byte && not (is_lowercase byte)

-- `IsUppercase byte` holds if `byte` is a hexadecimal digit and not a lowercase letter.
abbrev IsUppercase : ℕ → Type 0
IsUppercase byte = IsTrue (is_printed_digit byte)

is_digit_of_radix-uppercase : (byte : ℕ) → IsUppercase byte → is_digit_of_radix 16 byte ≡ true
is_digit_of_radix-uppercase byte printed = (and_parts (is_digit_of_radix 16 byte) (not (is_lowercase byte)) printed).0

not_lowercase : (byte : ℕ) → IsUppercase byte → not (is_lowercase byte) ≡ true
not_lowercase byte printed = (and_parts (is_digit_of_radix 16 byte) (not (is_lowercase byte)) printed).1

-- A hexadecimal digit that is not a lowercase letter is the digit character of its value.
digit_character-byte_value : (byte : ℕ) → IsUppercase byte → slice_index_or digit_characters (byte_value byte) 0 ≡ byte
unfolding byte_value
digit_character-byte_value byte printed =
    let test : ℕ → Bool = λ character. character == uppercase byte in
    let i = position_or_len test digit_characters in
    let same : uppercase byte ≡ byte = cond-false _ _ _ (not-true _ (not_lowercase byte printed)) in
    elim (cases_Bool (nat_lt i 36)) [
      | inl found ↦
          let is : byte_value byte ≡ i = ap (λ truth. unwrap_or (cond truth (Some i) None) 255) found in
          rw is (eqb-true _ _ (passes_at_first test digit_characters 0 (ltb-true _ _ found)) ∙ same)
      | inr missing ↦
          let is : byte_value byte ≡ 255 = ap (λ truth. unwrap_or (cond truth (Some i) None) 255) missing in
          absurd (omega (arith, is, ltb-true _ _ (is_digit_of_radix-uppercase byte printed)))
    ]

-- The digit character of a value below 16 is not a lowercase letter.
IsUppercase-digit_character : (digit : ℕ) → digit < 16 → IsUppercase (slice_index_or digit_characters digit 0)
unfolding byte_value
IsUppercase-digit_character digit small = agree_below_at (λ d. is_printed_digit (slice_index_or digit_characters d 0)) (λ _. true) 16 digit refl small

-- `HasWritten word rest count text` holds if the last `count` digits of `word` are at the end of `text`, and `rest` is
-- the number of the other digits.
pub record HasWritten (word rest count : ℕ) (text : List ℕ) : Type 0 where
  pub long : length text ≡ 34
  pub prefix : take 2 text ≡ codes "0x"
  pub left : rest ≡ word / 16 ^ count
  pub digits : drop (34 - count) text ≡ last_digits count word

-- The loop begins with a text in which no digit is written.
pub HasWritten-none : (word : ℕ) → HasWritten word word 0 (48 ∷ 120 ∷ replicate 32 48)
unfolding last_digits
HasWritten-none word = record { long = refl; prefix = refl; left = omega arith; digits = refl }

-- If `count` digits are written, then storing the next digit writes `count + 1` digits.
pub HasWritten-next : (word rest count byte : ℕ) (text : List ℕ) → HasWritten word rest count text → count < 32
    → byte ≡ slice_index_or digit_characters (rest % 16) 0 → HasWritten word (rest / 16) (count + 1) (set text (33 - count) byte)
unfolding last_digits
HasWritten-next word rest count byte text before few digit =
    let inside : 33 - count < length text = omega (arith, before.long) in
    let at : 34 - (count + 1) ≡ 33 - count = omega arith in
    let behind : 33 - count + 1 ≡ 34 - count = omega arith in
    let more : count + 1 ≡ suc count = omega arith in
    let split : drop (33 - count) (set text (33 - count) byte) ≡ byte ∷ drop (34 - count) text =
    drop-set text (33 - count) byte inside ∙ ap (λ i. byte ∷ drop i text) behind in
    record {
      long = length-set text (33 - count) byte ∙ before.long;
      prefix = take-set-le 2 text (33 - count) byte (omega arith) ∙ before.prefix;
      left = rw (before.left, more, pow-suc 16 count) (div-div-eq-div-mul word (16 ^ count) 16);
      digits = rw (at, more, split, digit, before.left, before.digits) refl;
    }

-- If all 32 digits are written, then the text is the printed text of the word.
pub printed-written : (word rest : ℕ) (text : List ℕ) → HasWritten word rest 32 text → text ≡ printed word
printed-written word rest text done = sym (take-append-drop 2 text) ∙ (λ i. done.prefix i ++ done.digits i)

last_digits-length : (count number : ℕ) → length (last_digits count number) ≡ count
unfolding last_digits
last_digits-length zero number = refl
last_digits-length (suc count) number = ap suc (last_digits-length count number)

last_digits-uppercase : (count number : ℕ) → All IsUppercase (last_digits count number)
unfolding last_digits
last_digits-uppercase zero number = All-nil IsUppercase
last_digits-uppercase (suc count) number = All-cons IsUppercase (digit_at number count) (last_digits count number)
    (IsUppercase-digit_character (number / 16 ^ count % 16) (omega arith)) (last_digits-uppercase count number)

-- The last digits of a number, after the number of its other digits, write the whole number.
last_digits-numeral : (count number : ℕ) → number_from_digits_after 16 (number / 16 ^ count) (map byte_value (last_digits count number)) ≡ number
unfolding last_digits
last_digits-numeral zero number = omega arith
last_digits-numeral (suc count) number =
    let left : number / 16 ^ count / 16 ≡ number / (16 ^ count * 16) = div-div-eq-div-mul number (16 ^ count) 16 in
    let digit : byte_value (digit_at number count) ≡ number / 16 ^ count % 16 = byte_value-digit_character (number / 16 ^ count % 16) (omega arith) in
    let front : number / 16 ^ suc count * 16 + byte_value (digit_at number count) ≡ number / 16 ^ count = rw (pow-suc 16 count, digit, ← left) (omega arith) in
    subst (λ n. number_from_digits_after 16 n (map byte_value (last_digits count number)) ≡ number) (sym front) (last_digits-numeral count number)

-- The printed text of a word has the printed form.
pub IsPrintedForm-printed : (word : ℕ) → IsPrintedForm (printed word)
IsPrintedForm-printed word = search (rules, last_digits-length, last_digits-uppercase, numeral_from, All-weaker, is_digit_of_radix-uppercase, list_all-from_AllPass, not_lowercase)

-- The printed text of a word has the word as its value.
pub hex-printed : (word : ℕ) → word < 2 ^ 128 → hex (printed word) ≡ word
hex-printed word fits =
    let none : word / 16 ^ 32 ≡ 0 = omega (arith, fits) in
    subst (λ n. number_from_digits_after 16 n (map byte_value (last_digits 32 word)) ≡ word) none (last_digits-numeral 32 word)

-- If two lists of uppercase digits of the same length, after two numbers, write the same number, then the lists are
-- equal, and so are the two numbers.
numeral-injective : (xs ys : List ℕ) (m n : ℕ) → length xs ≡ length ys → All IsUppercase xs → All IsUppercase ys
    → number_from_digits_after 16 m (map byte_value xs) ≡ number_from_digits_after 16 n (map byte_value ys) → (m ≡ n) × (xs ≡ ys)
numeral-injective [] [] m n long all all' same = (same, refl)
numeral-injective [] (y ∷ ys) m n long all all' same = absurd (omega arith)
numeral-injective (x ∷ xs) [] m n long all all' same = absurd (omega arith)
numeral-injective (x ∷ xs) (y ∷ ys) m n long all all' same =
    let first = All-head IsUppercase x xs all in
    let first' = All-head IsUppercase y ys all' in
    let rest = numeral-injective xs ys (m * 16 + byte_value x) (n * 16 + byte_value y) (omega arith)
    (All-tail IsUppercase x xs all) (All-tail IsUppercase y ys all') same in
    let parts = same_from_place m (byte_value x) n (byte_value y) 16 (ltb-true _ _ (is_digit_of_radix-uppercase x first))
    (ltb-true _ _ (is_digit_of_radix-uppercase y first')) rest.0 in
    let here : x ≡ y = sym (digit_character-byte_value x first) ∙ ap (λ v. slice_index_or digit_characters v 0) parts.1 ∙ digit_character-byte_value y first' in
    (parts.0, λ i. here i ∷ rest.1 i)

-- A text of the printed form begins with `0x`, and uppercase digits follow.
form_prefix : (text : List ℕ) → IsPrintedForm text → take 2 text ≡ codes "0x"
form_prefix text form = (bytes_eq-Decides (take 2 text) (codes "0x")).0 (and_parts (bytes_eq (take 2 text) (codes "0x")) _ form.word).0

form_digits : (text : List ℕ) → IsPrintedForm text → All IsUppercase (hex_digits text)
form_digits text form k d inside = search (rules, and_parts, bytes_eq, numeral_parts, AllPass-from_list_all, and_from)

-- If two texts of the printed form have the same value, then they are equal.
pub IsPrintedForm-unique : (s t : List ℕ) → IsPrintedForm s → IsPrintedForm t → hex s ≡ hex t → s ≡ t
IsPrintedForm-unique s t form form' same = search (rules, numeral-injective, form_digits, form_prefix, take-append-drop)
