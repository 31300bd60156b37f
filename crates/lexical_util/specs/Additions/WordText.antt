-- The text of a format word (`0x` and hexadecimal digits), for `parse_word` and `word_text`.
use Rattle.std.specs.Prelude.{◌≡◌, ℕ, zero, suc, ◌/◌, ◌%◌, ◌^◌, ◌==◌, ◌+◌, min, Bool, ◌&&◌, not, IsTrue, if◌then◌else◌}
use Rattle.std.specs.Prelude.{Option, None, Some, Result, Ok, Err, List, [], ◌∷◌, ◌++◌, length, take, drop}
use Rattle.std.specs.Prelude.{slice_get, slice_index, codes, bytes_eq}
use Rattle.std.specs.Bool.{then_some}
use Rattle.std.specs.List.{list_all, prefix_len}
use Rattle.lexical_base.specs.Digits.{digit_characters, is_lowercase, numeral}
use Rattle.lexical_base.specs.declared.error.Error.{Error}
use Rattle.lexical_base.specs.declared.error.Error.TheVariants as errors
use Rattle.lexical_util.specs.Additions.Numeral.{is_digit_of_radix, is_numeral}

-- `hex_digits text` is the part of `text` after `0x`.
abbrev pub hex_digits : List ℕ → List ℕ
hex_digits text = drop 2 text

-- `hex text` is the number that the hexadecimal digits of `text` after `0x` represent.
abbrev pub hex : List ℕ → ℕ
hex text = numeral 16 (hex_digits text)

-- `is_word_text text` is true if `text` is `0x` and 1 to 32 hexadecimal digits of either case.
abbrev pub is_word_text : List ℕ → Bool
is_word_text text = bytes_eq (take 2 text) (codes "0x") && is_numeral 16 32 (hex_digits text)

-- `word_from_text text` is `Some word` if `text` represents `word`, and `None` if it is not the text of a word.
abbrev pub word_from_text : List ℕ → Option ℕ
word_from_text text = then_some (is_word_text text) (hex text)

-- `IsWordText text` holds if `text` is the text of a word.
abbrev pub IsWordText : List ℕ → Type 0
IsWordText text = IsTrue (is_word_text text)

-- `first_misfit text` is the index of the first byte of `text` that does not fit: a byte that is not `0` at 0, not `x`
-- at 1, or not a digit after that, or the 33rd digit. It is the length of `text` if each byte fits.
abbrev pub first_misfit : List ℕ → ℕ
first_misfit text =
    if bytes_eq (take 2 text) (codes "0x") then 2 + min (prefix_len (is_digit_of_radix 16) (hex_digits text)) 32
    else if bytes_eq (take 1 text) (codes "0") then 1 else 0

-- `misfit_error index byte` is the error of a text whose first misfit is `byte` at `index`. It is `Overflow` if `byte`
-- is a 33rd digit, `InvalidDigit` if it is any other byte, and `Empty` if the text ends at `index`.
abbrev pub misfit_error : ℕ → Option ℕ → Error
misfit_error index None = errors.Empty index
misfit_error index (Some byte) =
    if (index == 34) && is_digit_of_radix 16 byte then errors.Overflow index else errors.InvalidDigit index

-- `word_error text` is the error of `text`, which is not the text of a word.
abbrev pub word_error : List ℕ → Error
word_error text = misfit_error (first_misfit text) (slice_get text (first_misfit text))

-- `parsed_word text` is `Ok word` if `text` represents `word`, and the error of `text` if it is not the text of a word.
abbrev pub parsed_word : List ℕ → Result ℕ Error
parsed_word text = if is_word_text text then Ok (hex text) else Err (word_error text)

-- `IsPrintedForm text` holds if `text` is the text of a word with 32 digits and has no lowercase letter among them.
pub record IsPrintedForm (text : List ℕ) : Type 0 where
  pub word : IsWordText text
  pub full : length (hex_digits text) ≡ 32
  pub uppercase : IsTrue (list_all (λ digit. not (is_lowercase digit)) (hex_digits text))

-- `digit_at number position` is the hexadecimal digit of `number` at `position`, counted from 0 at the right.
abbrev pub digit_at : ℕ → ℕ → ℕ
digit_at number position = slice_index digit_characters (number / 16 ^ position % 16)

-- `last_digits count number` lists the last `count` hexadecimal digits of `number`.
unfoldable pub last_digits : ℕ → ℕ → List ℕ
last_digits zero number = []
last_digits (suc count) number = digit_at number count ∷ last_digits count number

-- `printed word` is the text of `word` in printed form: `0x` followed by 32 hexadecimal digits.
abbrev pub printed : ℕ → List ℕ
printed word = codes "0x" ++ last_digits 32 word
