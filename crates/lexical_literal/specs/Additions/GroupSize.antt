-- What has been read of the digit groups of an integer, and which bytes may follow.
use Rattle.std.specs.Prelude.{ℕ, ◌≡◌, ◌↔◌, Bool, true, false, not, ◌+◌, ◌==◌, ◌&&◌, ◌||◌, nat_le, nat_lt, if◌then◌else◌, List, [], ◌∷◌, Option, Some, None}
use Rattle.std.specs.List.{list_any}
use Rattle.lexical_util.specs.Layout as layout
use Rattle.lexical_util.specs.Layout.{Flag}
use Rattle.lexical_util.specs.declared.feature_format.roles.Role.{Role}
use Rattle.lexical_util.specs.declared.feature_format.roles.Role.TheVariants as roles
use Rattle.lexical_util.specs.declared.format_flags.Part.{Part}
use Rattle.lexical_util.specs.declared.format_flags.Part.TheVariants as parts
use Rattle.lexical_literal.specs.Cause.{Allows, is_one_of}
use Rattle.lexical_literal.specs.Groups.{higher}
use Rattle.lexical_literal.specs.Notation.{Notation, notation_of}
use Rattle.lexical_literal.specs.Additions.Causes.{IsWeaker, lets}
use Rattle.lexical_literal.specs.Additions.Step.{part_of, role_at}
use Rattle.lexical_literal.specs.declared.group_size.Group.{Group}
use Rattle.lexical_literal.specs.declared.step.Summary.{Summary}
use Rattle.lexical_literal.specs.declared.syntax.Condition.{Condition}
use Rattle.lexical_literal.specs.declared.syntax.Condition.TheVariants as conditions
use Rattle.lexical_literal.specs.declared.syntax.Grammar.{Grammar}

-- THE NOTATION WITHOUT SIZES OF GROUPS

-- `with_rules m flag condition` is `m` with just the flags for which `flag` is true, and the conditions for which `condition` is true.
abbrev pub with_rules : Notation → (Flag → Bool) → (Condition → Bool) → Notation
with_rules m flag condition = record m { flag = flag; condition = condition }

-- `is_size c` is true if the condition `c` is on sizes of groups.
abbrev pub is_size : Condition → Bool
is_size conditions.IntegerGroupSize = true
is_size conditions.HigherGroupSize = true
is_size _ = false

-- `has_sizes m` is true if a condition of `m` is on groups, and `has_size m part` if it is on groups of `part`.
abbrev pub has_sizes : Notation → Bool
has_sizes m = m.condition conditions.IntegerGroupSize

abbrev pub has_size : Notation → Part → Bool
has_size m parts.Integer = has_sizes m
has_size m _ = false

-- `makes_empty f` is true if the flag `f` allows an empty group in the integer.
abbrev pub makes_empty : Flag → Bool
makes_empty f = is_one_of (layout.integer_leading_digit_separator ∷ layout.integer_trailing_digit_separator
    ∷ layout.integer_consecutive_digit_separator ∷ []) f

-- `is_idle m f` is true if the flag `f` allows an empty group where a condition of `m` refuses it.
abbrev pub is_idle : Notation → Flag → Bool
is_idle m f = makes_empty f && has_sizes m

-- `unsized m` is `m` without conditions on groups, and without the flags that these make idle.
abbrev pub unsized : Notation → Notation
unsized m = with_rules m (λ f. not (is_idle m f) && m.flag f) (λ c. not (is_size c) && m.condition c)

-- `steps_of g` is the notation by which the steps of the grammar `g` are made.
abbrev pub steps_of : Grammar → Notation
steps_of g = unsized (notation_of g)

-- THE GROUP THAT IS BEING READ

-- `most m` is the number of digits that a group behind a separator has at most.
abbrev pub most : Notation → ℕ
most m = if nat_lt (higher m) (m.number conditions.IntegerGroupSize) then m.number conditions.IntegerGroupSize else higher m

-- `follows m g role` is true if a byte with the role `role` may follow the group `g` of an integer whose groups have sizes. If it has
-- no role, or none follows, the integer ends.
abbrev pub follows : Notation → Group → Option Role → Bool
follows m g (Some roles.Digit) = not g.separated || nat_lt g.digits (most m)
follows m g (Some roles.Separator) = if g.separated then g.digits == higher m else nat_lt 0 g.digits && nat_le g.digits (higher m)
follows m g _ = not g.separated || g.digits == m.number conditions.IntegerGroupSize

-- `group_allows m g role` is true if a byte with the role `role` may follow the group `g`.
abbrev pub group_allows : Notation → Group → Option Role → Bool
group_allows m g role = not (has_size m g.part) || follows m g role

-- `next_part part role` is the part after a byte with the role `role`.
abbrev pub next_part : Part → Option Role → Part
next_part part (Some roles.Point) = parts.Fraction
next_part part (Some roles.Exponent) = parts.Exponent
next_part part _ = part

-- `grown g role` is the group after a byte with the role `role`.
abbrev pub grown : Group → Option Role → Group
grown g (Some roles.Digit) = record g { digits = g.digits + 1 }
grown g (Some roles.Separator) = record { part = g.part; separated = true; digits = 0 }
grown g role = record { part = next_part g.part role; separated = false; digits = 0 }

-- `grow m g role` is the group after a byte with the role `role`, or `None` if it may not follow. Without sizes, it stays the same.
abbrev pub grow : Notation → Group → Option Role → Option Group
grow m g role = if not (has_sizes m) then Some g else (if group_allows m g role then Some (grown g role) else None)

-- `group_after m g text` is the group after the bytes of `text`, or `None` if a byte may not follow.
abbrev pub group_after : Notation → Option Group → List ℕ → Option Group
group_after m g [] = g
group_after m None (byte ∷ text) = None
group_after m (Some g) (byte ∷ text) = group_after m (grow m g (role_at m g.part byte)) text

-- `first_group` is the group before any byte.
abbrev pub first_group : Group
first_group = record { part = parts.Integer; separated = false; digits = 0 }

-- `role_next m part next` is the role of the byte `next` in `part`, if there is one.
abbrev pub role_next : Notation → Part → Option ℕ → Option Role
role_next m part None = None
role_next m part (Some byte) = role_at m part byte

-- `goes m s g next` is true if the byte `next` may follow, or if a literal has been read, where `next` is `None`.
abbrev pub goes : Notation → Summary → Group → Option ℕ → Bool
goes m s g next = lets (unsized m) s next && group_allows m g (role_next m g.part next)

-- `IsReadOf m s g front` holds if what may follow `s` and `g` is what is allowed after `front`, with fewer requirements too, and if `s`
-- is in the part that `front` ends in, unless a suffix has been read.
pub record IsReadOf (m : Notation) (s : Summary) (g : Group) (front : List ℕ) : Type 0 where
  pub decides : (next : Option ℕ) (A : Flag → Bool) (D : Condition → Bool) → IsWeaker m A D
      → (goes (with_rules m A D) s g next ≡ true) ↔ Allows (with_rules m A D) front next
  pub part : s.ended ≡ false → part_of s.stage
      ≡ (if list_any m.exponent_character front then parts.Exponent else (if list_any m.point front then parts.Fraction else parts.Integer))
