-- Lemmas on normal forms: the words that are their own normal form, what a normal form keeps, and when two are equal.
use Rattle.std.proofs.Common.{rules, ◌≡◌, ℕ, ◌<◌, ◌^◌, Bool, cond, IsTrue, arith, refl, sym, ap, ◌∙◌, subst, List, [], sum_by, if◌then◌else◌}
use Rattle.std.specs.List.{list_any}
use Rattle.std.proofs.lemmas.Bool.{cond-true}
use Rattle.std.proofs.lemmas.Bool.Decides.{nat_tests}
use Rattle.std.proofs.lemmas.List.Elements.{All-nil}
use Rattle.lexical_flags.specs.Layout.{Flag, Byte, bit, flags, digit_separator_flags, IsClean}
use Rattle.lexical_flags.specs.Layout as layout
use Rattle.lexical_flags.specs.Record.{Record, raw, trim, fill, pack, word_of, effective, separator_allowed, SeparatorAllowedOrAbsent}
use Rattle.lexical_util.proofs.Lower.{kept_same, trimmed_unused}
use Rattle.lexical_builder.specs.Writes.{Write, IsLegal, after}
use Rattle.lexical_util.proofs.EditLemmas.{edited-fields, edited-clean, edited-only}
use Rattle.lexical_util.specs.Edits.{edited}
use Rattle.lexical_util.specs.Groups.{any_flag, bits_of}
use Rattle.lexical_util.specs.NormalForm.{normal_form_of, SameFormat, IsNormal}

-- If two tests are equal for each flag, then they are equal for a list of flags.
pub list_any_same : (p q : Flag → Bool) (fs : List Flag) → ((f : Flag) → p f ≡ q f) → list_any p fs ≡ list_any q fs
list_any_same p q fs h = λ i. list_any (λ f. h f i) fs

-- If two conditions are equal, and the separators are equal if the condition holds, then the kept separators are equal.
pub use_same : (p q : Bool) (x y : ℕ) → p ≡ q → (IsTrue p → x ≡ y) → cond p x 0 ≡ cond q y 0
use_same p q x y e h = grind (arith, nat_tests)

-- If two conditions are equal and the kept separators are equal, then the separators are equal if the condition holds.
pub used_same : (p q : Bool) (x y : ℕ) → p ≡ q → cond p x 0 ≡ cond q y 0 → IsTrue p → x ≡ y
used_same p q x y e h t = grind (arith, nat_tests)

-- If two records are equivalent, then they are equal after they are filled and trimmed.
pub trim-same_format : (R S : Record) → SameFormat R S → trim (fill R) ≡ trim (fill S)
trim-same_format R S s = λ i. record { flag = λ f. s.flags f i; byte = λ b. on_byte b i } where
  on_byte : (b : Byte) → (trim (fill R)).byte b ≡ (trim (fill S)).byte b
  on_byte b =
      let allowed = list_any_same R.flag S.flag digit_separator_flags s.flags in
      let r = R.byte layout.digit_separator in
      let t = S.byte layout.digit_separator in
      let used = use_same (separator_allowed R) (separator_allowed S) r t allowed s.digit_separator in
      grind arith

-- If two records are equal after they are filled and trimmed, then they are equivalent.
pub SameFormat-from_trim : (R S : Record) → trim (fill R) ≡ trim (fill S) → SameFormat R S
SameFormat-from_trim R S e =
    let flags_agree : (f : Flag) → R.flag f ≡ S.flag f = λ f. ap (λ (T : Record). T.flag f) e in
    record {
      flags = flags_agree;
      base_prefix = ap (λ (T : Record). T.byte layout.base_prefix) e;
      base_suffix = ap (λ (T : Record). T.byte layout.base_suffix) e;
      mantissa_radix = ap (λ (T : Record). T.byte layout.mantissa_radix) e;
      exponent_base = ap (λ (T : Record). T.byte layout.exponent_base) e;
      exponent_radix = ap (λ (T : Record). T.byte layout.exponent_radix) e;
      digit_separator = used_same (separator_allowed R) (separator_allowed S) (R.byte layout.digit_separator) (S.byte layout.digit_separator)
          (list_any_same R.flag S.flag digit_separator_flags flags_agree) (ap (λ (T : Record). T.byte layout.digit_separator) e);
    }

-- The normal form is the word into which the filled record packs.
pub normal_form-is : (w : ℕ) → normal_form_of w ≡ pack (fill (raw w))
unfolding after
normal_form-is w = refl

-- If two words are equivalent, then their normal forms are equal.
pub normal_same : (a b : ℕ) → SameFormat (raw a) (raw b) → normal_form_of a ≡ normal_form_of b
normal_same a b s = normal_form-is a ∙ ap word_of (trim-same_format (raw a) (raw b) s) ∙ sym (normal_form-is b)

-- The fields of a normal form are the fields of the word, filled and trimmed.
pub raw_normal : (w : ℕ) → raw (normal_form_of w) ≡ trim (fill (raw w))
unfolding after
raw_normal w = edited-fields w [] (All-nil IsLegal)

-- If the normal forms of two words are equal, then the words are equivalent.
pub same_from_normal : (a b : ℕ) → normal_form_of a ≡ normal_form_of b → SameFormat (raw a) (raw b)
same_from_normal a b e = SameFormat-from_trim (raw a) (raw b) (sym (raw_normal a) ∙ ap raw e ∙ raw_normal b)

effective_again : (own radix : ℕ) → effective own radix ≡ effective (effective own radix) radix
effective_again own radix = grind (arith, nat_tests)

-- If filling does not change an absent byte, then the radix is 0.
pub unfilled : (own radix : ℕ) → effective own radix ≡ own → own ≡ 0 → radix ≡ 0
unfilled own radix e z = grind (arith, nat_tests)

-- If a byte is absent only when the radix is 0, then filling does not change it.
pub full : (own radix : ℕ) → (own ≡ 0 → radix ≡ 0) → effective own radix ≡ own
full own radix h = grind (arith, nat_tests)

-- A record is equivalent to itself after it is filled and trimmed.
pub SameFormat-normal : (R : Record) → SameFormat R (trim (fill R))
SameFormat-normal R = search (rules, effective_again, cond-true)

module _ (w : ℕ) where
  pub clean_normal : IsClean (normal_form_of w)
  clean_normal = edited-clean w [] (All-nil IsLegal)

  -- No other clean word has the fields of the normal form.
  pub normal_only : (u : ℕ) → u < 2 ^ 128 → IsClean u → raw u ≡ trim (fill (raw w)) → u ≡ normal_form_of w
  unfolding after
  normal_only = edited-only w [] (All-nil IsLegal)

  pub normal_keeps : SameFormat (raw w) (raw (normal_form_of w))
  normal_keeps = subst (λ (S : Record). SameFormat (raw w) S) (sym (raw_normal w)) (SameFormat-normal (raw w))

  pub normal_again : normal_form_of (normal_form_of w) ≡ normal_form_of w
  normal_again = sym (normal_same w (normal_form_of w) normal_keeps)

  pub normal_from_fixed : normal_form_of w ≡ w → IsNormal w
  normal_from_fixed e =
      let R : Record = raw w in
      let fields : trim (fill R) ≡ R = sym (raw_normal w) ∙ ap raw e in
      record {
        clean = subst IsClean e clean_normal;
        separator_used = trimmed_unused (separator_allowed R) (R.byte layout.digit_separator) (ap (λ (S : Record). S.byte layout.digit_separator) (sym fields));
        exponent_base = unfilled (R.byte layout.exponent_base) (R.byte layout.mantissa_radix) (ap (λ (S : Record). S.byte layout.exponent_base) fields);
        exponent_radix = unfilled (R.byte layout.exponent_radix) (R.byte layout.mantissa_radix) (ap (λ (S : Record). S.byte layout.exponent_radix) fields);
      }

  pub fixed_from_normal : w < 2 ^ 128 → IsNormal w → normal_form_of w ≡ w
  fixed_from_normal fits n = sym (normal_only w fits n.clean (λ i. record { flag = (raw w).flag; byte = λ b. on_byte b i })) where
    on_byte : (b : Byte) → (raw w).byte b ≡ (trim (fill (raw w))).byte b
    on_byte layout.digit_separator = sym (kept_same (separator_allowed (raw w)) ((raw w).byte layout.digit_separator) n.separator_used)
    on_byte layout.exponent_base = sym (full ((raw w).byte layout.exponent_base) ((raw w).byte layout.mantissa_radix) n.exponent_base)
    on_byte layout.exponent_radix = sym (full ((raw w).byte layout.exponent_radix) ((raw w).byte layout.mantissa_radix) n.exponent_radix)
    on_byte _ = refl

  pub groups_normal : (fs : List Flag) → any_flag w fs ≡ any_flag (normal_form_of w) fs
  unfolding any_flag
  groups_normal fs = list_any_same (raw w).flag (raw (normal_form_of w)).flag fs normal_keeps.flags

  pub flags_normal : (fs : List Flag) → bits_of w fs ≡ bits_of (normal_form_of w) fs
  unfolding bits_of
  flags_normal fs = λ i. sum_by (λ f. if normal_keeps.flags f i then 2 ^ bit f else 0) fs

-- If the separator of a record is allowed or absent, then the trimmed and filled record is the filled record.
filled_again : (R : Record) → SeparatorAllowedOrAbsent R → fill (trim (fill R)) ≡ fill R
filled_again R used = λ i. record { flag = R.flag; byte = λ b. on_byte b i } where
  on_byte : (b : Byte) → (fill (trim (fill R))).byte b ≡ (fill R).byte b
  on_byte b = let kept = kept_same (separator_allowed R) (R.byte layout.digit_separator) used in grind (arith, nat_tests)

-- If the separator of a word is allowed or absent, then edits of its normal form and of the word give the same word.
pub edited-normal : (w : ℕ) (L : List Write) → SeparatorAllowedOrAbsent (raw w) → edited (normal_form_of w) L ≡ edited w L
edited-normal w L used = ap (λ S. pack (after (fill S) L)) (raw_normal w) ∙ ap (λ S. pack (after S L)) (filled_again (raw w) used)
