-- Kinds that have a possible number of bits.
use Rattle.std.specs.Prelude.{◌≤◌, ⊤}
use Rattle.lexical_literal.specs.declared.kind.IntegerKind.{IntegerKind}
use Rattle.lexical_literal.specs.declared.kind.IntegerKind.TheVariants as integers

-- `HasBits kind` holds if the number of bits of `kind`, if it has one, is from 1 to 64, or to 128 if numbers do not wrap.
abbrev pub HasBits : IntegerKind → Type 0
HasBits integers.Exact = ⊤
HasBits (integers.Signed bits) = (1 ≤ bits) × (bits ≤ 128)
HasBits (integers.Unsigned bits) = (1 ≤ bits) × (bits ≤ 128)
HasBits (integers.Wraps bits) = (1 ≤ bits) × (bits ≤ 64)
HasBits (integers.WrapsModulo bits) = (1 ≤ bits) × (bits ≤ 64)
