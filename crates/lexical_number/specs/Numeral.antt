-- Numbers with a sign, as values of an integer type.
use Rattle.std.specs.Prelude.{ℕ, ◌-◌, ◌^◌, ◌≤◌, Bool, if◌then◌else◌, ℤ, pos, neg_ℤ}
use Rattle.lexical_number.specs.Number.{number}
use Rattle.lexical_number.specs.declared.numeral.Magnitude.TheVariants as magnitudes
use Rattle.lexical_number.specs.declared.numeral.Magnitude.{Magnitude}
use Rattle.lexical_number.specs.declared.numeral.Numeral.{Numeral}

-- `with_sign negative n` is `-n` if `negative` is true, and `n` otherwise.
abbrev pub with_sign : Bool → ℕ → ℤ
with_sign negative n = if negative then neg_ℤ (pos n) else pos n

-- `size_of numeral` is the number of `numeral` without its sign, itself or by its digits.
abbrev pub magnitude_size : Magnitude → ℕ
magnitude_size (magnitudes.Word word) = word
magnitude_size (magnitudes.Digits bytes radix) = number radix bytes.now

abbrev pub size_of : Numeral → ℕ
size_of numeral = magnitude_size numeral.magnitude

-- `value_of numeral` is the integer that the sign and the digits of `numeral` represent.
abbrev pub value_of : Numeral → ℤ
value_of numeral = with_sign numeral.negative (size_of numeral)

-- `Fits least largest numeral` holds if the value of `numeral` is between `-least` and `largest`.
abbrev pub Fits : ℕ → ℕ → Numeral → Type 0
Fits least largest numeral = size_of numeral ≤ (if numeral.negative then least else largest)

-- `Range T` states which integers the values of the type `T` are: `value` of each, from `-least` to `largest`.
pub record Range (T : Type 0) : Type 0 where
  pub value : T → ℤ
  pub least : ℕ
  pub largest : ℕ

-- `unsigned k` is the range of the integers of `k` bits without a sign.
abbrev pub unsigned : ℕ → Range ℕ
unsigned k = record { value = pos; least = 0; largest = 2 ^ k - 1 }

-- `signed k` is the range of the integers of `k` bits, one of which is the sign.
abbrev pub signed : ℕ → Range ℤ
signed k = record { value = λ z. z; least = 2 ^ (k - 1); largest = 2 ^ (k - 1) - 1 }
