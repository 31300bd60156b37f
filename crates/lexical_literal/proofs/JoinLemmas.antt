-- What has been read where one part ends and the next one begins.
use Rattle.lexical_literal.proofs.Common.{HasRoles, IsAt, IsBegun, IsOpened, IsReadOn, List, Notation, Piece, Reading, Stage, Stopped, after_point, ap, arith}
use Rattle.lexical_literal.proofs.Common.{at_stage, awaits_integer, counts_of, cuts_of, false, get_or, has_digit, integer_counts, is_free, length, part_of}
use Rattle.lexical_literal.proofs.Common.{piece_number, refl, set, subst, takes, true, ℕ, ◌+◌, ◌-◌, ◌<◌, ◌∙◌, ◌≡◌}
use Rattle.lexical_literal.specs.Additions.Scan.{IsSign, behind_sign, has_first}
use Rattle.lexical_util.specs.declared.feature_format.roles.Role.TheVariants as roles
use Rattle.lexical_util.specs.declared.format_flags.Part.TheVariants as parts
use Rattle.lexical_literal.specs.declared.step.Piece.TheVariants as pieces
use Rattle.lexical_literal.specs.declared.step.Stage.TheVariants as stages
use Rattle.lexical_literal.specs.declared.syntax.Condition.TheVariants as conditions
use Rattle.lexical_literal.proofs.CountLemmas.{count_more, count_prefix}
use Rattle.lexical_literal.proofs.ScanLemmas.{read_free, read_prefix, read_zero}
use Rattle.lexical_literal.proofs.WalkLemmas.{is_role}

-- Stages behind a sign.
begun_behind : (sign : ℕ) → awaits_integer (behind_sign parts.Integer sign) ≡ true
begun_behind sign = grind arith

module _ (m : Notation) (text : List ℕ) where
  -- Bytes of one part, which has none yet, are read.
  at_more : (at next : Stopped) (p : Piece) (counts : List ℕ) (n : ℕ) → next.size - at.size ≡ n → length counts ≡ 9 → get_or counts (piece_number p) 0 ≡ 0
      → IsReadOn m text at p next → IsAt m text at (cuts_of counts) → IsAt m text next (cuts_of (set counts (piece_number p) n))
  at_more at next p counts n more nine none on is =
      let sum : get_or counts (piece_number p) 0 + (next.size - at.size) ≡ n = omega (arith, none, more) in
      subst (IsAt m text next) (count_more counts nine p (next.size - at.size) ∙ ap (λ n. cuts_of (set counts (piece_number p) n)) sum)
      (on.reads (cuts_of counts) is)

  -- The sign of the mantissa.
  pub sign_at : (sign : ℕ) → IsSign m text parts.Integer 0 sign → IsAt m text (at_stage sign (behind_sign parts.Integer sign))
      (cuts_of (integer_counts sign 0 0))
  sign_at sign is = grind arith

  -- Without a base prefix.
  pub opened : (sign : ℕ) → IsSign m text parts.Integer 0 sign → m.condition conditions.BasePrefix ≡ false → has_first m text sign ≡ true
      → IsOpened m text sign 0 (behind_sign parts.Integer sign)
  opened sign is free first = grind arith

  -- Behind a base prefix.
  pub opened_prefix : HasRoles m → (sign : ℕ) → IsSign m text parts.Integer 0 sign → sign + 1 < length text → get_or text sign 0 ≡ 48
      → m.prefix (get_or text (sign + 1) 0) ≡ true → IsOpened m text sign 2 stages.Prefixed
  opened_prefix h sign is inside naught prefix = record {
    at = subst (IsAt m text (at_stage (sign + 2) stages.Prefixed)) (λ j other. count_prefix sign other j)
        (read_prefix m text h sign (behind_sign parts.Integer sign) inside naught prefix (begun_behind sign) is.signed _ (sign_at sign is));
    signed = refl;
    first = grind arith;
    none = refl;
    inside = refl;
  }

  -- A required base prefix is missing, and its zero may be there.
  pub zero_only : HasRoles m → (sign : ℕ) → IsSign m text parts.Integer 0 sign → sign < length text → get_or text sign 0 ≡ 48
      → IsBegun m text (at_stage (sign + 1) stages.Bare)
  zero_only h sign is inside naught =
      ((read_zero m text h sign (behind_sign parts.Integer sign) inside naught (begun_behind sign) is.signed).reads _ (sign_at sign is)).begun

  -- The digits of the integer.
  pub integer_at : (sign prefix : ℕ) (first : Stage) → IsOpened m text sign prefix first → (size : ℕ) (stage : Stage)
      → IsReadOn m text (at_stage (sign + prefix) first) pieces.Integer (at_stage size stage)
      → IsAt m text (at_stage size stage) (cuts_of (integer_counts sign prefix (size - (sign + prefix))))
  integer_at sign prefix first is size stage on = at_more _ _ pieces.Integer (integer_counts sign prefix 0) (size - (sign + prefix)) refl refl refl on is.at

  -- The digits of the fraction.
  pub fraction_at : (s : Reading) (from size : ℕ) (first begun stage : Stage) (at : Stopped) → s.fraction ≡ 0 → begun ≡ first → at ≡ at_stage size stage
      → IsAt m text (at_stage from first) (cuts_of (counts_of s 0 0 0 0)) → IsReadOn m text (at_stage from begun) pieces.Fraction (at_stage size stage)
      → IsAt m text at (cuts_of (counts_of (record s { fraction = size - from }) 0 0 0 0))
  fraction_at s from size first begun stage at none same end is on =
      rw (end) (at_more _ _ pieces.Fraction (counts_of s 0 0 0 0) (size - from) refl refl none (rw (same) at on) is)

  -- The sign and the digits of the exponent.
  pub exponent_at : (s : Reading) (size sign end : ℕ) (first stage : Stage) (at : Stopped) → first ≡ behind_sign parts.Exponent sign → at ≡ at_stage end stage
      → IsAt m text (at_stage size stages.Mark) (cuts_of (counts_of s 1 0 0 0)) → IsSign m text parts.Exponent size sign
      → IsReadOn m text (at_stage (size + sign) first) pieces.Exponent (at_stage end stage)
      → IsAt m text at (cuts_of (counts_of s 1 sign (end - (size + sign)) 0))
  exponent_at s size sign end first stage at same last is signed on =
      rw (last) (at_more _ _ pieces.Exponent (counts_of s 1 sign 0 0) (end - (size + sign)) refl refl refl (rw (same) at on)
      (at_more (at_stage size stages.Mark) _ pieces.ExponentSign (counts_of s 1 0 0 0) sign (omega arith) refl refl signed.on is))

  module _ (h : HasRoles m) where
    -- The decimal point.
    pub point_at : (s : Reading) (size : ℕ) (stage : Stage) → s.point ≡ 0 → size < length text → m.point (get_or text size 0) ≡ true
        → takes m (at_stage size stage).read false roles.Point ≡ true → is_free m stage ≡ true
        → IsAt m text (at_stage size stage) (cuts_of (counts_of s 0 0 0 0))
        → IsAt m text (at_stage (size + 1) (after_point (has_digit stage))) (cuts_of (counts_of (record s { point = 1 }) 0 0 0 0))
    point_at s size stage none inside point taken free is = let b = get_or text size 0 in
        subst (IsAt m text (at_stage (size + 1) (after_point (has_digit stage))))
        (count_more (counts_of s 0 0 0 0) refl pieces.Point 1 ∙ ap (λ n. cuts_of (counts_of (record s { point = n + 1 }) 0 0 0 0)) none)
        (read_free m text h (part_of stage) (at_stage size stage) roles.Point refl (λ same. cc) inside
        (is_role m (part_of stage) b h roles.Point (λ same. cc) point) refl taken free _ is)

    -- The exponent character.
    pub mark_at : (s : Reading) (size : ℕ) (stage : Stage) → size < length text → m.exponent_character (get_or text size 0) ≡ true
        → takes m (at_stage size stage).read false roles.Exponent ≡ true → is_free m stage ≡ true
        → IsAt m text (at_stage size stage) (cuts_of (counts_of s 0 0 0 0)) → IsAt m text (at_stage (size + 1) stages.Mark) (cuts_of (counts_of s 1 0 0 0))
    mark_at s size stage inside mark taken free is = let b = get_or text size 0 in
        subst (IsAt m text (at_stage (size + 1) stages.Mark)) (count_more (counts_of s 0 0 0 0) refl pieces.ExponentCharacter 1)
        (read_free m text h (part_of stage) (at_stage size stage) roles.Exponent refl (λ same. cc) inside
        (is_role m (part_of stage) b h roles.Exponent (λ same. cc) mark) refl taken free _ is)

    -- The suffix.
    pub suffix_at : (s : Reading) (a b c : ℕ) (at : Stopped) → at.size < length text → m.suffix (get_or text at.size 0) ≡ true
        → at.read.ended ≡ false → takes m at.read false roles.Suffix ≡ true → is_free m at.read.stage ≡ true → IsAt m text at (cuts_of (counts_of s a b c 0))
        → IsAt m text (record { size = at.size + 1; read = record at.read { ended = true } }) (cuts_of (counts_of s a b c 1))
    suffix_at s a b c at inside suffix going taken free is = let byte = get_or text at.size 0 in
        subst (IsAt m text (record { size = at.size + 1; read = record at.read { ended = true } })) (count_more (counts_of s a b c 0) refl pieces.Suffix 1)
        (read_free m text h (part_of at.read.stage) at roles.Suffix refl (λ same. cc) inside
        (is_role m (part_of at.read.stage) byte h roles.Suffix (λ same. cc) suffix) going taken free _ is)
