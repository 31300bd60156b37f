-- The bytes to show for a text that is refused are of the text.
use Rattle.lexical_literal.proofs.Common.{ByteSet, Condition, Flag, Grammar, IsRefusal, List, Marks, None, Notation, Option, ReadErrorKind, Refusal, Some, []}
use Rattle.lexical_literal.proofs.Common.{arith, common_steps, get_or, if◌then◌else◌, index_behind, length, length-take-le, marks_of, notation_of}
use Rattle.lexical_literal.proofs.Common.{position_or_len, slice_get, shown, slice_get_within, subst, sym, take, take_more, ℕ, ◌+◌, ◌∷◌, ◌≡◌, ◌≤◌}
use Rattle.lexical_literal.specs.Cause.{wrong_end}
use Rattle.lexical_util.specs.declared.error.Error.{Error}
use Rattle.std.proofs.Math.Seq.{take-length}
use Rattle.lexical_literal.proofs.CauseLemmas.{behind_more}

module _ (A : ByteSet) where
  pub behind_within : (text : List ℕ) → index_behind A text ≤ length text
  behind_within [] = omega arith
  behind_within (b ∷ text) = let more = behind_within text in grind arith

  -- The last byte decides.
  pub behind_last : (text : List ℕ) (k : ℕ) → length text ≡ k + 1
      → index_behind A text ≡ (if A (get_or text k 0) then length text else index_behind A (take k text))
  behind_last text k size = grind (arith, common_steps, length-take-le, take-length, take_more, behind_more)

  first_within : (text : List ℕ) → position_or_len A text ≤ length text
  first_within [] = omega arith
  first_within (b ∷ text) = let more = first_within text in grind arith

-- `AreMarks k` holds if the indexes of `k` are of its text, and the first digit is before the last byte that is no separator.
record AreMarks (k : Marks) : Type 0 where
  exponent : k.exponent ≤ k.size
  first : k.first ≤ k.run
  run : k.run ≤ k.size
  group : k.group ≤ k.size

are_marks : (m : Notation) (front : List ℕ) → AreMarks (marks_of m front)
are_marks m front = grind (arith, behind_within, first_within, length-take-le)

-- `IsIn size shown` holds if the bytes to show do not end before they begin, and end in a text of `size` bytes.
abbrev IsIn : ℕ → ℕ × ℕ × Error → Type 0
IsIn size shown = (shown.0 ≤ shown.1) × (shown.1 ≤ size)

module _ (m : Notation) (k : Marks) (are : AreMarks k) (next : Option ℕ) where
  by_kind : (kind : ReadErrorKind) (f : Flag) (c : Option Condition) → IsIn (wrong_end k next) (shown m k next kind f c)
  by_kind x0 f c = grind arith

-- The bytes to show for an error of a text.
pub span_within : (g : Grammar) (text : List ℕ) (error : Refusal) → IsRefusal (notation_of g) text error
    → IsIn (length text) (error.start, error.end, error.code)
span_within g text error is =
    let k = marks_of (notation_of g) (take error.valid_up_to text) in
    let span = subst (IsIn (wrong_end k error.byte)) (sym is.shown)
    (by_kind (notation_of g) k (are_marks (notation_of g) (take error.valid_up_to text)) error.byte error.kind _ _) in
    let end = within error.byte is.byte in (span.0, omega (arith, span.1, end)) where
      within : (next : Option ℕ) → next ≡ slice_get text error.valid_up_to → wrong_end (marks_of (notation_of g) (take error.valid_up_to text)) next
          ≤ length text
      within None same = omega (arith, length-take-le error.valid_up_to text is.valid_up_to.within, is.valid_up_to.within)
      within (Some byte) same = omega (
        arith,
        length-take-le error.valid_up_to text is.valid_up_to.within,
        slice_get_within text error.valid_up_to byte (sym same),
      )
