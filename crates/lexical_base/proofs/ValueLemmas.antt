-- Lemmas on the value of a byte, by ranges of bytes, and on the byte of a value.
use Rattle.std.proofs.Common.{rules, ◌≡◌, ℕ, ◌+◌, ◌-◌, ◌%◌, ◌<◌, ◌≤◌, ◌==◌, ◌⊎◌, ◌↔◌, max, Bool, true, false, ◌||◌, nat_lt, if◌then◌else◌, IsTrue, IsSome, None}
use Rattle.std.proofs.Common.{Some, slice_get, slice_index_or, refl, arith}
use Rattle.std.proofs.lemmas.Option.{slice_get-get_or}
use Rattle.std.proofs.lemmas.Bool.{agree_below, agree_below_at, eqb-true}
use Rattle.std.proofs.lemmas.Bool.Decides.{nat_tests}
use Rattle.lexical_base.specs.Digits.{byte_value, digit_characters, digit_of, digits_of, is_lowercase}

-- If two functions agree at each number below n, then they agree at a given number below n.
pub same_at : (f g : ℕ → ℕ) (n k : ℕ) → agree_below (λ i. f i == g i) (λ _. true) n ≡ true → k < n → f k ≡ g k
same_at f g n k all below = eqb-true _ _ (agree_below_at (λ i. f i == g i) (λ _. true) n k all below)

-- `value_by_range byte` is the value of `byte`, by ranges of bytes.
abbrev pub value_by_range : ℕ → ℕ
value_by_range byte = if nat_lt byte 48 then 255 else if nat_lt byte 58 then byte - 48
    else if nat_lt byte 65 then 255 else if nat_lt byte 91 then byte - 55
    else if nat_lt byte 97 then 255 else if nat_lt byte 123 then byte - 87 else 255

-- The value of a byte is its value by ranges.
pub value_is : (byte : ℕ) → byte < 256 → byte_value byte ≡ value_by_range byte
unfolding byte_value
value_is byte below = same_at byte_value value_by_range 256 byte refl below

-- The value of a byte is either below 36 or 255.
pub byte_value-cases : (byte : ℕ) → byte < 256 → (byte_value byte < 36) ⊎ (byte_value byte ≡ 255)
byte_value-cases byte below = search (rules, value_is)

IsSome-if : (b : Bool) (x : ℕ) → IsSome (if b then Some x else None) ↔ IsTrue b
IsSome-if b x = grind arith

-- A byte has a digit value in a radix if and only if it is a digit of that radix.
pub digit_of-digits_of : (byte radix : ℕ) → byte < 256 → radix < 256 → IsSome (digit_of byte radix) ↔ IsTrue (digits_of radix byte)
digit_of-digits_of byte radix fits radix_fits = search (rules, byte_value-cases, nat_lt, IsSome-if)

-- The digits of two radixes together are the digits of the larger one.
pub digit_of-larger : (byte first second : ℕ) → byte < 256 → first < 256 → second < 256 →
    IsSome (digit_of byte (max first second)) ↔ IsTrue (digits_of first byte || digits_of second byte)
digit_of-larger byte first second fits first_fits second_fits = search (rules, byte_value-cases, nat_lt, IsSome-if)

-- `digit_laws` are what `digit_facts` states.
pub ruleset digit_laws = (byte_value-cases, digit_of-digits_of, digit_of-larger)

-- In a radix up to 10, if a byte minus 48, modulo 256, is below the radix, then it is the value of the byte. Otherwise
-- the value of the byte is not below the radix.
pub small_digit : (byte radix : ℕ) → byte < 256 → radix ≤ 10 → ((byte + 208) % 256 < radix → byte_value byte ≡ (byte + 208) % 256)
    × (radix ≤ (byte + 208) % 256 → radix ≤ byte_value byte)
small_digit byte radix fits small = search (rules, value_is)

-- `values` are the lemmas on values that the proof of `digit_to_char_const` needs.
pub ruleset values = (value_is, nat_tests)

-- Each index below 36 has a digit character.
pub digit_character-get : (digit : ℕ) → digit < 36 → slice_get digit_characters digit ≡ Some (slice_index_or digit_characters digit 0)
digit_character-get digit below = slice_get-get_or digit_characters digit 0 below

-- `character_by_range digit` is the character of `digit`, by cases.
abbrev character_by_range : ℕ → ℕ
character_by_range digit = if nat_lt digit 10 then 48 + digit else 55 + digit

-- The digit characters from index 10 on are the uppercase letters.
pub character_is_letter : (digit byte : ℕ) → 10 ≤ digit → digit < 36 → byte ≡ 55 + digit → slice_get digit_characters digit ≡ Some byte
character_is_letter digit byte large below is =
    let same : character_by_range digit ≡ byte = grind (arith, nat_tests) in
    rw (digit_character-get digit below, (same_at (λ d. slice_index_or digit_characters d 0) character_by_range 36 digit refl below), same) refl

-- The value of the digit character at an index is that index.
pub byte_value-digit_character : (digit : ℕ) → digit < 36 → byte_value (slice_index_or digit_characters digit 0) ≡ digit
unfolding byte_value
byte_value-digit_character digit below = same_at (λ d. byte_value (slice_index_or digit_characters d 0)) (λ d. d) 36 digit refl below

-- In every radix above an index, the digit character at that index has the index as its value.
pub digit_of-digit_character : (digit : ℕ) → digit < 36 → (radix : ℕ) → digit < radix → digit_of (slice_index_or digit_characters digit 0) radix ≡ Some digit
digit_of-digit_character digit below radix in_radix = rw (byte_value-digit_character digit below) (grind (arith, nat_tests))

-- No digit character is a lowercase letter.
pub digit_character-uppercase : (digit : ℕ) → digit < 36 → is_lowercase (slice_index_or digit_characters digit 0) ≡ false
digit_character-uppercase digit below = agree_below_at (λ d. is_lowercase (slice_index_or digit_characters d 0)) (λ _. false) 36 digit refl below
