-- Lemmas that a record is determined by its flags and bytes.
use Rattle.lexical_flags.proofs.Common.{ℕ, ◌≡◌, arith, Flag, Byte, Record}
use Rattle.lexical_flags.specs.Layout as layout

-- Two records with the same flags and bytes are equal.
pub record_same : (r s : Record) → ((f : Flag) → r.flag f ≡ s.flag f) → ((b : Byte) → r.byte b ≡ s.byte b) → r ≡ s
record_same r s same_flags same_bytes = λ i. record { flag = λ f. same_flags f i; byte = λ b. same_bytes b i }

-- If two functions of bytes agree for each of the six bytes, then they agree for every byte.
pub bytes_same : (p q : Byte → ℕ) → p layout.digit_separator ≡ q layout.digit_separator
    → p layout.base_prefix ≡ q layout.base_prefix → p layout.base_suffix ≡ q layout.base_suffix
    → p layout.mantissa_radix ≡ q layout.mantissa_radix → p layout.exponent_base ≡ q layout.exponent_base
    → p layout.exponent_radix ≡ q layout.exponent_radix → (b : Byte) → p b ≡ q b
bytes_same p q separator prefix suffix radix base exponent b = grind arith
