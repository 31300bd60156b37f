-- What decides the cause of a refusal, computed from what has been read.
use Rattle.std.specs.Prelude.{ℕ, ◌&&◌, ◌||◌, IsTrue, not, if◌then◌else◌, Bool, true, false, Option, Some, None, is_some}
use Rattle.lexical_util.specs.Ascii.{ByteSet}
use Rattle.lexical_util.specs.Layout.{Flag, separators_in}
use Rattle.lexical_util.specs.Roles.{signs}
use Rattle.lexical_util.specs.declared.feature_format.roles.Role.{Role}
use Rattle.lexical_util.specs.declared.feature_format.roles.Role.TheVariants as roles
use Rattle.lexical_util.specs.declared.format_flags.Part.{Part}
use Rattle.lexical_util.specs.declared.format_flags.Part.TheVariants as parts
use Rattle.lexical_literal.specs.Cause.{is_one_of, requirement_flags}
use Rattle.lexical_literal.specs.Notation.{Notation}
use Rattle.lexical_literal.specs.Additions.Step.{has_digit, is_complete, part_of, role_at, step}
use Rattle.lexical_literal.specs.declared.span.ByteKind.{ByteKind}
use Rattle.lexical_literal.specs.declared.span.ByteKind.TheVariants as kinds
use Rattle.lexical_literal.specs.declared.cause.Place.{Place}
use Rattle.lexical_literal.specs.declared.cause.Place.TheVariants as places
use Rattle.lexical_literal.specs.declared.syntax.Condition.{Condition}
use Rattle.lexical_literal.specs.declared.step.Stage.{Stage}
use Rattle.lexical_literal.specs.declared.step.Summary.{Summary}

-- `lets m s next` is true if the byte `next` may follow, or if a literal has been read, where `next` is `None`.
abbrev pub lets : Notation → Summary → Option ℕ → Bool
lets m s None = is_complete m s
lets m s (Some byte) = is_some (step m s byte)

-- `kind_set m kind` is the set of the bytes of `kind`.
abbrev pub kind_set : Notation → ByteKind → ByteSet
kind_set m kinds.Digit byte = m.digit parts.Integer byte
kind_set m kinds.NotDigit byte = not (m.digit parts.Integer byte)
kind_set m kinds.Separator byte = m.separator byte
kind_set m kinds.NotSeparator byte = not (m.separator byte)
kind_set m kinds.Body byte = not (m.separator byte || signs byte)

-- `is_separator role` is true if `role` is that of digit separators.
abbrev pub is_separator : Option Role → Bool
is_separator (Some roles.Separator) = true
is_separator _ = false

-- `is_at_gap m s next` is true if the byte `next` is a separator, or follows one.
abbrev pub is_at_gap : Notation → Summary → Option ℕ → Bool
is_at_gap m s None = s.gap
is_at_gap m s (Some byte) = s.gap || is_separator (role_at m (part_of s.stage) byte)

-- `IsWeaker m A D` holds if the flags for which `A` is true require no more than those of `m`, and are no less otherwise, and
-- if each condition for which `D` is true is one of `m`.
pub record IsWeaker (m : Notation) (A : Flag → Bool) (D : Condition → Bool) : Type 0 where
  pub no_more : (f : Flag) → IsTrue (A f && is_one_of requirement_flags f) → IsTrue (m.flag f)
  pub no_less : (f : Flag) → IsTrue (m.flag f) → IsTrue (A f || is_one_of requirement_flags f)
  pub conditions : (c : Condition) → IsTrue (D c) → IsTrue (m.condition c)

-- `place_of m part stage gap role` is where `m` does not allow a separator at `stage` of `part`, before a byte with the role `role`.
abbrev pub place_of : Notation → Part → Stage → Bool → Option Role → Place
place_of m part stage gap role =
    if (gap && not (m.flag (separators_in part).consecutive)) && is_separator role then places.Consecutive
    else (if has_digit stage then places.AfterDigit else places.BeforeDigits)
