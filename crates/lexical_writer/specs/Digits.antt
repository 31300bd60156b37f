-- How digits are written: in which case, and in which groups.
use Rattle.std.specs.Prelude.{ℕ, ◌-◌, ◌%◌, ◌==◌, ◌&&◌, nat_le, nat_lt, Bool, false, if◌then◌else◌, List}
use Rattle.std.specs.Prelude.{[], ◌∷◌, ◌++◌, length, replicate, slice_index, Option, Some, None, option_to_list}
use Rattle.std.specs.Char.{to_ascii_lowercase}
use Rattle.std.specs.Int.Digits.{digits_of, number_from_digits}
use Rattle.lexical_util.specs.Digits.{digit_characters}
use Rattle.lexical_number.specs.Number.{digits_in, number}
use Rattle.lexical_writer.specs.declared.run.Pattern.{Pattern}
use Rattle.lexical_writer.specs.declared.run.Run.{Run}
use Rattle.lexical_writer.specs.declared.run.Source.{Source}
use Rattle.lexical_writer.specs.declared.run.Source.TheVariants as sources

-- `character lowercase digit` is the character of `digit`: `0` to `9`, and then `A` to `Z`, or `a` to `z` if `lowercase` is true.
abbrev pub character : Bool → ℕ → ℕ
character lowercase digit =
    if lowercase then to_ascii_lowercase (slice_index digit_characters digit) else slice_index digit_characters digit

-- `at_least least digits` is `digits` with as many zeros before them as make their number `least`, if it is less.
abbrev pub at_least : ℕ → List ℕ → List ℕ
at_least least digits = replicate (least - length digits) 0 ++ digits

-- `values_of radix source` lists the digits of `source` in `radix`. The number 0 has none.
abbrev pub values_of : ℕ → Source → List ℕ
values_of radix (sources.Bytes bytes) = digits_in radix bytes.now
values_of radix (sources.Number number) = digits_of radix number
values_of radix (sources.Least number least) = at_least least (digits_of radix number)
values_of radix (sources.Padded padded) = replicate padded.before 0 ++ (digits_in radix padded.digits.now ++ replicate padded.after 0)

-- `size_of radix source` is the number that the digits of `source` represent in `radix`.
abbrev pub size_of : ℕ → Source → ℕ
size_of radix (sources.Bytes bytes) = number radix bytes.now
size_of radix (sources.Number number) = number
size_of radix (sources.Least number least) = number
size_of radix (sources.Padded padded) = number_from_digits radix (values_of radix (sources.Padded padded))

-- `begins_decimal digits` is true if the first of `digits` is below 10, so that its character is not a letter.
abbrev pub begins_decimal : List ℕ → Bool
begins_decimal [] = false
begins_decimal (digit ∷ digits) = nat_lt digit 10

-- `ends_group pattern left` is true if a group ends where `left` digits are left: those of the last group, and of whole groups before it.
abbrev pub ends_group : Pattern → ℕ → Bool
ends_group pattern left =
    nat_lt 0 left && (nat_lt 0 pattern.higher && (nat_le pattern.last left && (left - pattern.last) % pattern.higher == 0))

-- `no_groups lowercase` is the pattern of digits without separators.
abbrev pub no_groups : Bool → Pattern
no_groups lowercase = record { last = 0; higher = 0; separator = 0; lowercase = lowercase }

-- `only_if condition byte` is `byte` if `condition` is true, and absent otherwise.
abbrev pub only_if : Bool → ℕ → Option ℕ
only_if condition byte = if condition then Some byte else None

-- `grouped pattern digits` has the characters of `digits`, with a separator where a group ends.
abbrev pub grouped : Pattern → List ℕ → List ℕ
grouped pattern [] = []
grouped pattern (digit ∷ digits) = character pattern.lowercase digit
    ∷ option_to_list (only_if (ends_group pattern (length digits)) pattern.separator) ++ grouped pattern digits

-- `separated pattern left` is the separator where a group ends.
abbrev pub separated : Pattern → ℕ → List ℕ
separated pattern left = option_to_list (only_if (ends_group pattern left) pattern.separator)

-- `grouped_front pattern left digits` has the characters of `digits`, which are the first of `left` digits, with a separator where a group ends.
abbrev pub grouped_front : Pattern → ℕ → List ℕ → List ℕ
grouped_front pattern left [] = []
grouped_front pattern left (digit ∷ digits) =
    character pattern.lowercase digit ∷ separated pattern (left - 1) ++ grouped_front pattern (left - 1) digits

-- `run_digits run` lists the digits that are written of `run`, and `run_text run` is what is written.
abbrev pub run_digits : Run → List ℕ
run_digits run = at_least run.least (values_of run.radix run.source)

abbrev pub run_text : Run → List ℕ
run_text run = grouped run.pattern (run_digits run)
