-- What laws on literals state: the roles of the bytes of each part, and texts with two readings.
use Rattle.std.specs.Prelude.{ℕ, ◌≡◌, ◌==◌, ◌&&◌, ◌||◌, Bool, not, IsTrue, List}
use Rattle.std.specs.List.{AllByRecursion}
use Rattle.lexical_util.specs.Ascii.{ByteSet}
use Rattle.lexical_util.specs.Roles.{signs}
use Rattle.lexical_util.specs.declared.format_flags.Part.{Part}
use Rattle.lexical_util.specs.declared.format_flags.Part.TheVariants as parts
use Rattle.lexical_literal.specs.Notation.{Notation}
use Rattle.lexical_literal.specs.Literal.{Literal, Reads, may_begin}
use Rattle.lexical_literal.specs.declared.syntax.Condition.{Condition}
use Rattle.lexical_literal.specs.declared.syntax.Condition.TheVariants as conditions

-- `AllIn A bytes` holds if each of `bytes` is in `A`.
abbrev pub AllIn : ByteSet → List ℕ → Type 0
AllIn A bytes = AllByRecursion (λ byte. IsTrue (A byte)) bytes

-- `refuses_first C digit` is true if one of the conditions `C` does not let a literal begin with `digit`, which is not 0.
abbrev pub refuses_first : (Condition → Bool) → ℕ → Bool
refuses_first C digit = C conditions.LeadingZero || (C conditions.DecimalFirstDigit && not (may_begin conditions.DecimalFirstDigit digit))

-- `run_byte m part` is the set of the digits of `part` and of the separator.
abbrev pub run_byte : Notation → Part → ByteSet
run_byte m part byte = m.digit part byte || m.separator byte

-- `prefix_byte m` is the set of the zero of a prefix and of the prefix.
abbrev pub prefix_byte : Notation → ByteSet
prefix_byte m byte = (byte == 48) || m.prefix byte

-- `PartsHaveRoles m l` holds if each byte of a part of `l` has the role of this part, or is the zero of a prefix.
pub record PartsHaveRoles (m : Notation) (l : Literal) : Type 0 where
  pub sign : AllIn signs l.sign
  pub prefix : AllIn (prefix_byte m) l.prefix
  pub integer : AllIn (run_byte m parts.Integer) l.integer
  pub point : AllIn m.point l.point
  pub fraction : AllIn (run_byte m parts.Fraction) l.fraction
  pub exponent_character : AllIn m.exponent_character l.exponent_character
  pub exponent_sign : AllIn signs l.exponent_sign
  pub exponent : AllIn (run_byte m parts.Exponent) l.exponent
  pub suffix : AllIn m.suffix l.suffix

-- `HasTwoReadings m text` holds if `text` is a literal with two different lists of parts.
pub record HasTwoReadings (m : Notation) (text : List ℕ) : Type 0 where
  pub first : Literal
  pub second : Literal
  pub reads_first : Reads m first text
  pub reads_second : Reads m second text
  pub differ : first ≡ second → ⊥
