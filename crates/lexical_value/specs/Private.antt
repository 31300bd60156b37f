-- Quotients of whole numbers, and numbers that are known.
use Rattle.std.specs.Prelude.{ℕ, Bool, true, false, ◌≡◌, ◌<◌, ◌≤◌, ◌+◌, ◌*◌, ◌^◌}
use Rattle.lexical_number.specs.declared.numeral.Magnitude.{Magnitude}
use Rattle.lexical_number.specs.declared.numeral.Magnitude.TheVariants as magnitudes
use Rattle.lexical_value.specs.declared.scaled.Quotient.{Quotient}
use Rattle.lexical_value.specs.declared.scaled.Quotient.TheVariants as quotients

-- `IsQuotient num den quotient` holds if `quotient` is `num` over `den`, a number of at least 90 bits below it, or that it is not whole.
abbrev pub IsQuotient : ℕ → ℕ → Quotient → Type 0
IsQuotient num den (quotients.Whole size) = size * den ≡ num
IsQuotient num den (quotients.Above least) = (least * den < num) × (2 ^ 90 ≤ least + 1)
IsQuotient num den quotients.Broken = (size : ℕ) → size * den ≡ num → ⊥

-- `is_word magnitude` is true if `magnitude` is the number itself, and not its digits.
abbrev pub is_word : Magnitude → Bool
is_word (magnitudes.Word word) = true
is_word (magnitudes.Digits bytes radix) = false
