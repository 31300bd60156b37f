-- Digit groups: how many digits are between the separators of an integer, and how many may be there.
use Rattle.std.specs.Prelude.{ℕ, Bool, true, ◌+◌, ◌==◌, ◌&&◌, nat_le, nat_lt, if◌then◌else◌, List, [], ◌∷◌}
use Rattle.lexical_util.specs.Ascii.{ByteSet}
use Rattle.lexical_literal.specs.Notation.{Notation}
use Rattle.lexical_literal.specs.declared.syntax.Condition.TheVariants as conditions

-- `group_sizes S n bytes` lists how many of `bytes` are before, between and behind those that are in `S`, with `n` added to the first number.
abbrev pub group_sizes : ByteSet → ℕ → List ℕ → List ℕ
group_sizes S n [] = n ∷ []
group_sizes S n (byte ∷ bytes) = if S byte then n ∷ group_sizes S 0 bytes else group_sizes S (n + 1) bytes

-- `higher m` is the number of digits of a group before the last one.
abbrev pub higher : Notation → ℕ
higher m = if m.number conditions.HigherGroupSize == 0 then m.number conditions.IntegerGroupSize else m.number conditions.HigherGroupSize

-- `rest_fits m counts` is true if groups behind the first may have `counts` digits: the last as many as a group has, and each other `higher m`.
abbrev pub rest_fits : Notation → List ℕ → Bool
rest_fits m [] = true
rest_fits m (count ∷ []) = count == m.number conditions.IntegerGroupSize
rest_fits m (count ∷ next ∷ counts) = count == higher m && rest_fits m (next ∷ counts)

-- `all_fit m counts` is true if all groups may have `counts` digits. The first of several may have fewer than others, and a single one any number.
abbrev pub all_fit : Notation → List ℕ → Bool
all_fit m (count ∷ next ∷ counts) = nat_lt 0 count && nat_le count (higher m) && rest_fits m (next ∷ counts)
all_fit m _ = true

-- `is_grouped m run` is true if `run` has no separators, or has them between groups of the right sizes.
abbrev pub is_grouped : Notation → List ℕ → Bool
is_grouped m run = all_fit m (group_sizes m.separator 0 run)
