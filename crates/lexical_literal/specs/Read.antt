-- A literal that was read.
use Rattle.std.specs.Prelude.{ℕ, ◌++◌}
use Rattle.lexical_util.specs.Layout.{Byte}
use Rattle.lexical_util.specs.Layout as layout
use Rattle.lexical_util.specs.Record.{effective}
use Rattle.lexical_literal.specs.Literal.{Literal}
use Rattle.lexical_literal.specs.declared.kind.FloatKind.TheVariants as floats
use Rattle.lexical_literal.specs.declared.kind.FloatLimits.TheVariants as limits
use Rattle.lexical_literal.specs.declared.kind.IntegerKind.TheVariants as integers
use Rattle.lexical_literal.specs.declared.kind.Kind.{Kind}
use Rattle.lexical_number.specs.Number.{number}

-- `Read` has the word of the format by which a literal was read, its parts, its kind, and the number of bytes of the opening before it.
pub record Read : Type 0 where
  pub format : ℕ
  pub literal : Literal
  pub kind : Kind
  pub opened : ℕ

-- `exact` is the kind of literals that are worth the number that they represent.
abbrev pub exact : Kind
exact = record { integers = integers.Exact; floats = floats.Nearest; limits = limits.None }

-- `mantissa b l` is the number of the integer and fraction digits of `l` together in a format with the bytes `b`.
abbrev pub mantissa : (Byte → ℕ) → Literal → ℕ
mantissa b l = number (b layout.mantissa_radix) (l.integer ++ l.fraction)

-- `exponent b l` is the number of the exponent digits of `l`.
abbrev pub exponent : (Byte → ℕ) → Literal → ℕ
exponent b l = number (effective (b layout.exponent_radix) (b layout.mantissa_radix)) l.exponent
