-- A refusal has one cause, and a text has one refusal.
use Rattle.lexical_literal.proofs.Common.{Bool, Condition, Flag, IsCause, IsRefusal, IsUnmet, IsValidUpTo, List, None, Notation, Option, Part, ReadErrorKind}
use Rattle.lexical_literal.proofs.Common.{Refusal, Some, ap, arith, bit, first_unmet, flag_bits, has, if◌then◌else◌, is_at, kept, lowest, marks_of, nat_tests}
use Rattle.lexical_literal.proofs.Common.{raw, slice_get, shown, subst, sum_by, sym, tail_of, take, true, ℕ, ◌<◌, ◌^◌, ◌↔◌, ◌∙◌, ◌≡◌, ◌≤◌}
use Rattle.lexical_literal.specs.Cause.{IsSeparator, SameBlame}
use Rattle.std.proofs.Math.Nat.{le_antisymm}
use Rattle.lexical_util.specs.Layout.{flags}
use Rattle.lexical_literal.specs.declared.cause.Place.{Place}
use Rattle.lexical_literal.specs.declared.cause.ReadErrorKind.TheVariants as causes

-- A flag allows separators at one place of one part.
same_at : (x y : Place) (p q : Part) (f : Flag) → is_at x p f ≡ true → is_at y q f ≡ true → (x ≡ y) × (p ≡ q)
same_at x y p q f first second = (grind (arith, nat_tests), grind (arith, nat_tests))

-- Two truth values that are equivalent to one fact are the same.
same_truth : {X : Type 0} (a b : Bool) → (a ≡ true) ↔ X → (b ≡ true) ↔ X → a ≡ b
same_truth x0 b one two = grind arith

module _ (m : Notation) (front : List ℕ) (a b : Flag → Bool) where
  separators : (byte : ℕ) (p q : Part) (x y : Place) → IsSeparator m front byte p x a → IsSeparator m front byte q y b
      → SameBlame (causes.Separator p x) (causes.Separator q y) a b
  separators byte p q x y one two =
      let flags = λ (f : Flag). same_truth (a f) (b f) (one.each f) (two.each f) in
      let same = same_at x y p q one.some.0 (one.at _ one.some.1) (two.at _ (sym (flags one.some.0) ∙ one.some.1)) in
      record { kind = λ j. causes.Separator (same.1 j) (same.0 j); flags = flags }

  pub one_cause : (next : Option ℕ) (kind other : ReadErrorKind) → IsCause m front next kind a → IsCause m front next other b → SameBlame kind other a b
  one_cause None kind other one two = grind (arith, same_truth)
  one_cause (Some byte) causes.Requirement other one two = grind (arith, same_truth)
  one_cause (Some byte) (causes.Separator p x) (causes.Separator q y) one two = separators byte p q x y one two
  one_cause (Some byte) (causes.Separator p x) causes.Requirement one two = absurd (one.refused two.allowed)
  one_cause (Some byte) (causes.Separator p x) (causes.Missing q) one two = absurd two
  one_cause (Some byte) (causes.Separator p x) other one two = absurd (two.no_separator one.some.0 ((one.each one.some.0).0 one.some.1))
  one_cause (Some byte) causes.Case other one two = grind (arith, same_truth)
  one_cause (Some byte) causes.Byte other one two = grind (arith, same_truth)
  one_cause (Some byte) (causes.Missing p) other one two = absurd one

-- Two masks of flags alone are the same if they have the same flags.
one_mask : (a b : ℕ) → a ≡ sum_by (flag_bits (raw a)) flags → b ≡ sum_by (flag_bits (raw b)) flags → ((f : Flag) → (raw a).flag f ≡ (raw b).flag f) → a ≡ b
one_mask a b one two same = one ∙ (λ j. sum_by (λ f. if same f j then 2 ^ bit f else 0) flags) ∙ sym two

module _ (m : Notation) (text : List ℕ) where
  no_longer : (i k : ℕ) → IsValidUpTo m text i → IsValidUpTo m text k → k ≤ i
  no_longer i k one two = let longer = λ (below : i < k). one.no_longer k below two.within two.front in grind arith

  pub one_refusal : (a b : Refusal) → IsRefusal m text a → IsRefusal m text b → a ≡ b
  one_refusal a b one two =
      let size = le_antisymm (no_longer b.valid_up_to a.valid_up_to two.valid_up_to one.valid_up_to)
      (no_longer a.valid_up_to b.valid_up_to one.valid_up_to two.valid_up_to) in
      let other = subst (λ n. IsCause m (take n text) (slice_get text n) b.kind (raw b.mask).flag) (sym size) two.cause in
      let same = one_cause m _ _ _ (slice_get text a.valid_up_to) a.kind b.kind one.cause other in
      let mask = one_mask a.mask b.mask one.mask two.mask same.flags in
      let has_same = λ (c : Condition). same_truth (has a.conditions c) (has b.conditions c) (one.conditions c)
      (subst (λ n. (has b.conditions c ≡ true) ↔ IsUnmet m (take n text) (slice_get text n) c) (sym size) (two.conditions c)) in
      let unmet = one.numbers ∙ (λ j. kept (λ c. has_same c j) m.number) ∙ sym two.numbers in
      let byte = one.byte ∙ ap (slice_get text) size ∙ sym two.byte in
      let shown = one.shown
      ∙ (λ j. shown m (marks_of m (take (size j) text)) (byte j) (same.kind j) (lowest (mask j)) (first_unmet (mask j) (unmet j))) ∙ sym two.shown in
      λ j. record {
        valid_up_to = size j;
        byte = byte j;
        tail = (one.tail ∙ ap (tail_of text) size ∙ sym two.tail) j;
        kind = same.kind j;
        mask = mask j;
        conditions = unmet j;
        start = (shown j).0;
        end = (shown j).1;
        code = (shown j).2;
      }
