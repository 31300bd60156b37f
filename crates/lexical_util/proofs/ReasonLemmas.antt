-- Lemmas that the reasons of a word explain which rules it breaks, and that options have a reason if they do not fit.
use Rattle.std.proofs.Common.{ℕ, ◌≡◌, ◌↔◌, ◌==◌, ◌&&◌, ◌⊎◌, inl, inr, Bool, IsFalse, option_map, Option, None, Some, List, [], ◌∷◌, ◌++◌, map, flat_map, refl}
use Rattle.std.proofs.Common.{ap, sym, subst, ◌∙◌, arith}
use Rattle.std.proofs.Math.Bool.{or-false}
use Rattle.std.specs.Prelude.{IfSome}
use Rattle.std.specs.Bool.{then_some}
use Rattle.std.specs.List.{AllByRecursion, list_any}
use Rattle.std.proofs.lemmas.Bool.{eqb-true, eq-eqb}
use Rattle.std.proofs.lemmas.Bool.Decides.{nat_tests}
use Rattle.std.proofs.lemmas.Option.{same_Some, none-some}
use Rattle.lexical_flags.specs.Layout as layout
use Rattle.lexical_flags.specs.Record.{Record, raw, effective}
use Rattle.lexical_flags.specs.Roles.{cased, Disjoint, AreDisjoint, format_roles, exponent, point}
use Rattle.lexical_flags.specs.Rules.{IsRadix, IsPunctuation, Holds, Lawful, rules_in_order, Shape, shape_of, Meets, radix_in_range, absent_or_punctuation}
use Rattle.lexical_flags.specs.Rules.{roles_differ, not_both, position_allowed, reserved_zero}
use Rattle.lexical_flags.specs.Options.{OptionsFit}
use Rattle.lexical_flags.specs.declared.format_flags.rule.Rule.{Rule}
use Rattle.lexical_flags.specs.declared.format_flags.rule.Rule.TheVariants as rules
use Rattle.lexical_flags.proofs.RuleLemmas.{Holds-from_lawful, Lawful-from_all}
use Rattle.lexical_flags.proofs.ReservedBits.{reserved_bits as reserved_clean}
use Rattle.lexical_util.specs.Additions.FieldEdits.{flag_setter}
use Rattle.lexical_util.specs.Additions.Reasons.{is_set, named, role, if_present, out_of_range, not_punctuation, clash, both_set}
use Rattle.lexical_util.specs.Additions.Reasons.{byte_in, causes_of, punctuation_in, slots_of, followers, reason_of, reasons_of, options_causes}
use Rattle.lexical_util.specs.Additions.Reasons.{options_reasons_of, Breaks, EachReason, NoReason}
use Rattle.lexical_util.specs.declared.reasons.Byte.TheVariants as bytes
use Rattle.lexical_util.specs.declared.reasons.NamedByte.{NamedByte}
use Rattle.lexical_util.specs.declared.reasons.Cause.{Cause}
use Rattle.lexical_util.specs.declared.reasons.Reason.{Reason}
use Rattle.lexical_util.proofs.ListingLemmas.{setter_alone}

-- CAUSES

-- `NoCause list` holds if `list` has no cause.
abbrev NoCause : List (Option Cause) → Type 0
NoCause list = AllByRecursion (λ o. o ≡ None) list

-- There is no cause if and only if what it contradicts holds: a radix is in range, a byte is absent or has no cause, a
-- byte is punctuation, two roles are disjoint, a test is false.
in_range : (b : NamedByte) → IsRadix b.value ↔ (out_of_range b ≡ None)
in_range b = grind (arith, nat_tests)

absent_or : (b : NamedByte) (o : Option Cause) → ((b.value ≡ 0) ⊎ (o ≡ None)) ↔ (if_present b o ≡ None)
absent_or b o = grind (arith, nat_tests)

punctuation : (r : Record) (b : NamedByte) → IsPunctuation r b.value ↔ (not_punctuation r b ≡ None)
unfolding IsPunctuation
punctuation r b = grind (arith, nat_tests)

apart : (r : Record) (a b : NamedByte) → Disjoint (role r a) (role r b) ↔ (clash r a b ≡ None)
unfolding Disjoint
apart r a b = grind arith

none_if : (b : Bool) (c : Cause) → IsFalse b ↔ (then_some b c ≡ None)
none_if b c = grind arith

-- The flag of a setter is set if and only if the setter's test says so.
set_is : (r : Record) (f : layout.Flag) → is_set r (flag_setter f) ≡ r.flag f
set_is r f = ap (list_any r.flag) (setter_alone f) ∙ or-false _

-- The roles of the punctuation of a format are those that `format_roles` has.
roles_are : (r : Record) → map (role r) (punctuation_in r) ≡ format_roles r
roles_are r = grind (arith, nat_tests, set_is)

-- A byte clashes with none of some bytes if and only if its role is disjoint from theirs.
clashes : (r : Record) (a : NamedByte) (bs : List NamedByte) → AllByRecursion (Disjoint (role r a)) (map (role r) bs) ↔ NoCause (map (clash r a) bs)
clashes r a [] = (λ h. tt, λ h. tt)
clashes r a (b ∷ bs) =
    let one = apart r a b in
    let rest = clashes r a bs in (λ h. (one.0 h.0, rest.0 h.1), λ h. (one.1 h.0, rest.1 h.1))

-- RULES

-- `Own shape word` holds if `word` is as `shape` demands, or if the byte that `shape` names is absent.
abbrev Own : Shape → ℕ → Type 0
Own (radix_in_range layout.mantissa_radix) word = IsRadix ((raw word).byte layout.mantissa_radix)
Own (radix_in_range b) word = ((raw word).byte b ≡ 0) ⊎ IsRadix ((raw word).byte b)
Own shape word = Meets shape word

-- A list of one cause is empty if and only if there is no cause.
one : (D : Type 0) (o : Option Cause) → D ↔ (o ≡ None) → D ↔ NoCause (o ∷ [])
one D o h = (λ d. (h.0 d, tt), λ none. h.1 none.0)

-- A word is as a shape demands if and only if there is no cause.
own_causes : (shape : Shape) (word : ℕ) → Own shape word ↔ NoCause (causes_of shape word)
own_causes (radix_in_range layout.mantissa_radix) word = one _ _ (in_range _)
own_causes (radix_in_range b) word =
    let byte = byte_in (raw word) b in
    let range = in_range byte in
    let present = absent_or byte (out_of_range byte) in one _ _ (grind arith)
own_causes (absent_or_punctuation b) word =
    let byte = byte_in (raw word) b in
    let free = punctuation (raw word) byte in
    let present = absent_or byte (not_punctuation (raw word) byte) in one _ _ (grind arith)
own_causes roles_differ word =
    let r = raw word in
    subst (λ roles. AreDisjoint roles ↔ NoCause (causes_of roles_differ word)) (roles_are r) (let byte = byte_in r in
    let first = clashes r (byte layout.digit_separator) (byte layout.base_prefix ∷ byte layout.base_suffix ∷ []) in
    let second = clashes r (byte layout.base_prefix) (byte layout.base_suffix ∷ []) in (
      λ all. let a = first.0 all.0 in let b = second.0 all.1.0 in (a.0, (a.1.0, b)),
      λ none. (first.1 (none.0, (none.1.0, tt)), (second.1 none.1.1, (tt, tt))),
    ))
own_causes (not_both a b) word =
    let r = raw word in
    one _ _ (subst (λ t. IsFalse t ↔ (both_set r (flag_setter a) (flag_setter b) ≡ None)) (λ i. set_is r a i && set_is r b i) (none_if _ _))
own_causes (position_allowed part) word = one _ _ (none_if _ _)
own_causes reserved_zero word = let clean = reserved_clean word in one _ _ (grind arith)

-- The mantissa radix is used in place of itself.
effective_self : (n : ℕ) → effective n n ≡ n
effective_self n = grind (arith, nat_tests)

-- A radix that is used is absent or in range, and one that is absent or in range is in range where it is used, unless
-- it is absent and the mantissa radix is out of range.
used_radix : (n m : ℕ) → IsRadix (effective n m) → (n ≡ 0) ⊎ IsRadix n
used_radix n m radix = grind (arith, nat_tests)

effective_radix : (n m : ℕ) → (n ≡ 0 → IsRadix m) → (n ≡ 0) ⊎ IsRadix n → IsRadix (effective n m)
effective_radix n m follows own = grind (arith, nat_tests)

-- If a word satisfies a rule, then it is as the shape of the rule demands, or the byte of the rule is absent.
own_demand : (rule : Rule) (word : ℕ) → Holds rule word → Own (shape_of rule) word
unfolding Holds
own_demand rule word h = grind (arith, nat_tests, effective_self, used_radix)

-- REASONS

-- `Explains r rule q` holds if a reason for which `r` breaks `rule` is also one for which it breaks `q`.
abbrev Explains : Record → Rule → Rule → Type 0
Explains r rule q = (Some rule ≡ Some q) ⊎ (((followers r (Some rule)).0 ≡ Some q) ⊎ ((followers r (Some rule)).1 ≡ Some q))

-- If a rule is explained by another one and holds, then the own demand of the other one holds.
explained : (word : ℕ) (rule q : Rule) → Explains (raw word) rule q → Holds q word → Own (shape_of rule) word
unfolding Holds
explained word rule q given holds = grind (arith, nat_tests, same_Some, eqb-true, none-some)

-- `reasons_for r rule list` has the reasons for the causes in `list`.
abbrev reasons_for : Record → Rule → List (Option Cause) → List (Option Reason)
reasons_for r rule list = map (option_map (reason_of r (Some rule))) list

-- There are no causes for `rule` if their reasons break no rule that `rule` explains.
no_causes : (r : Record) (rule q : Rule) → Explains r rule q → (list : List (Option Cause))
    → EachReason (λ s. Breaks s q → ⊥) (reasons_for r rule list) → NoCause list
no_causes r rule q explains [] all = tt
no_causes r rule q explains (None ∷ list) all = (refl, no_causes r rule q explains list all.1)
no_causes r rule q explains (Some c ∷ list) all = absurd (all.0 explains)

-- No reason breaks a rule that `rule` explains if there are no causes then.
no_breaks : (r : Record) (rule q : Rule) (list : List (Option Cause)) → (Explains r rule q → NoCause list)
    → EachReason (λ s. Breaks s q → ⊥) (reasons_for r rule list)
no_breaks r rule q [] none = tt
no_breaks r rule q (None ∷ list) none = (tt, no_breaks r rule q list (λ e. let own = none e in own.1))
no_breaks r rule q (Some c ∷ list) none = (λ e. let own = none e in none-some c (sym own.0), no_breaks r rule q list (λ e. let own = none e in own.1))

-- There are no causes if and only if there are no reasons for them.
no_reasons : (f : Cause → Reason) (list : List (Option Cause)) → NoCause list ↔ NoReason (map (option_map f) list)
no_reasons f [] = (λ none. tt, λ none. tt)
no_reasons f (o ∷ list) = let rest = no_reasons f list in grind arith

-- A property of the slots of each rule is a property of all slots.
join : (P : Option Reason → Type 0) (xs ys : List (Option Reason)) → AllByRecursion P xs → AllByRecursion P ys → AllByRecursion P (xs ++ ys)
join P [] ys first second = second
join P (x ∷ xs) ys first second = (first.0, join P xs ys first.1 second)

of_rules : (P : Option Reason → Type 0) (word : ℕ) → ((rule : Rule) → AllByRecursion P (slots_of word rule))
    → (list : List Rule) → AllByRecursion P (flat_map (slots_of word) list)
of_rules P word each [] = tt
of_rules P word each (rule ∷ list) = join P (slots_of word rule) _ (each rule) (of_rules P word each list)

-- A word satisfies a rule if and only if it does not break it because of one of its reasons.
pub by_rules : (word : ℕ) (rule : Rule) → Holds rule word ↔ EachReason (λ r. Breaks r rule → ⊥) (reasons_of word)
unfolding Holds
by_rules word q = (
  λ holds. of_rules (λ o. IfSome o (λ r. Breaks r q → ⊥)) word (λ rule. no_breaks (raw word) rule q _
      (λ explains. (own_causes (shape_of rule) word).0 (explained word rule q explains holds))) rules_in_order,
  met q,
) where
  own_slots : (P : Reason → Type 0) → EachReason P (reasons_of word) → (rule : Rule) → EachReason P (slots_of word rule)
  own_slots P all rules.PunctuationDiffers = (assumption all, (assumption all, (assumption all, tt)))
  own_slots P all _ = (assumption all, tt)

  own : (rule q : Rule) → Explains (raw word) rule q → EachReason (λ r. Breaks r q → ⊥) (reasons_of word) → Own (shape_of rule) word
  own rule q explains fine = (own_causes (shape_of rule) word).1 (no_causes (raw word) rule q explains _ (own_slots _ fine rule))

  zero_is : {q : Rule} {n : ℕ} → n ≡ 0 → then_some (n == 0) q ≡ Some q
  zero_is {q} zero = ap (λ t. then_some t q) (eq-eqb _ 0 zero)

  met : (q : Rule) → EachReason (λ r. Breaks r q → ⊥) (reasons_of word) → Holds q word
  met rules.MantissaRadixInRange fine = subst IsRadix (sym (effective_self _)) (own rules.MantissaRadixInRange _ (inl refl) fine)
  met rules.ExponentBaseInRange fine = effective_radix _ _ (λ zero. own rules.MantissaRadixInRange rules.ExponentBaseInRange (inr (inl (zero_is zero))) fine)
      (own rules.ExponentBaseInRange _ (inl refl) fine)
  met rules.ExponentRadixInRange fine = effective_radix _ _ (λ zero. own rules.MantissaRadixInRange rules.ExponentRadixInRange (inr (inr (zero_is zero))) fine)
      (own rules.ExponentRadixInRange _ (inl refl) fine)
  met q fine = own q q (inl refl) fine

-- Without reasons, each reason has every property.
without : (P : Reason → Type 0) (list : List (Option Reason)) → NoReason list → EachReason P list
without P [] none = tt
without P (o ∷ list) none = (grind arith, without P list none.1)

-- A word is lawful if and only if it has no reason.
pub no_reason : (word : ℕ) → Lawful word ↔ NoReason (reasons_of word)
no_reason word = (
  λ lawful. of_rules (λ o. o ≡ None) word (λ rule. (no_reasons (reason_of (raw word) (Some rule)) _).0
      ((own_causes (shape_of rule) word).0 (own_demand rule word (Holds-from_lawful rule word lawful)))) rules_in_order,
  λ none. Lawful-from_all word (λ rule. (by_rules word rule).1 (without _ (reasons_of word) none)),
)

-- OPTIONS

-- Options fit a word if and only if they have no reason.
pub options_fit : (word e p : ℕ) → OptionsFit word e p ↔ NoReason (options_reasons_of word e p)
options_fit word e p =
    let reasons = no_reasons (reason_of (raw word) None) (options_causes word e p) in (λ fit. reasons.0 (causes fit), λ none. fits (reasons.1 none)) where
      r : Record
      r = raw word

      x : NamedByte
      x = named bytes.ExponentCharacter e

      y : NamedByte
      y = named bytes.DecimalPoint p

      role_is : role r x ≡ exponent r e
      role_is = λ i. cased (set_is r layout.case_sensitive_exponent i) e

      new : (a : NamedByte) → AllByRecursion (Disjoint (role r a)) (format_roles r) ↔ NoCause (map (clash r a) (punctuation_in r))
      new a = subst (λ roles. AllByRecursion (Disjoint (role r a)) roles ↔ NoCause (map (clash r a) (punctuation_in r))) (roles_are r)
          (clashes r a (punctuation_in r))

      causes : OptionsFit word e p → NoCause (options_causes word e p)
      causes fit =
          let own = (new x).0 (subst (λ A. AllByRecursion (Disjoint A) (format_roles r)) (sym role_is) fit.exponent_is_new) in (
            (punctuation r x).0 fit.exponent_is_punctuation,
            (
              (punctuation r y).0 fit.point_is_punctuation,
              ((apart r x y).0 (subst (λ A. Disjoint A (point p)) (sym role_is) fit.apart), (own.0, (own.1.0, (own.1.1.0, (new y).0 fit.point_is_new)))),
            ),
          )

      fits : NoCause (options_causes word e p) → OptionsFit word e p
      fits (free_x, (free_y, (far, (a, (b, (c, rest)))))) = record {
        exponent_is_punctuation = (punctuation r x).1 free_x;
        point_is_punctuation = (punctuation r y).1 free_y;
        apart = subst (λ A. Disjoint A (point p)) role_is ((apart r x y).1 far);
        exponent_is_new = subst (λ A. AllByRecursion (Disjoint A) (format_roles r)) role_is ((new x).1 (a, (b, (c, tt))));
        point_is_new = (new y).1 rest;
      }
