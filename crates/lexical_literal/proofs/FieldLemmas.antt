-- What the fields of a grammar tell of the word of its format.
use Rattle.lexical_literal.proofs.Common.{IsUsual, None, Some, Condition, Conditions, [], ◌∷◌, ◌-◌, ◌||◌, and_parts, eqb-true, has, is_same, kept, number_of}
use Rattle.lexical_literal.proofs.Common.{IsTrue, allowed_ascii, Bool, Flag, Part, Record, ap, arith, bit, bit_and, effective_exponent_radix}
use Rattle.lexical_literal.proofs.Common.{exponent_character_of, false, false≢true, if◌then◌else◌, inl, inr, lacks_options, length, mod-lt, nat_tests}
use Rattle.lexical_literal.proofs.Common.{not, notation_of, point_of, radix_of, raw, refl, subst, sym, true, used_separator, ℕ, ◌%◌, ◌&&◌, ◌<◌, ◌==◌}
use Rattle.lexical_literal.proofs.Common.{◌^◌, ◌∙◌, ◌≡◌, all_conditions}
use Rattle.lexical_flags.proofs.FlagBits.{flag_test, mask_test}
use Rattle.lexical_flags.proofs.Packing.{low_flag, raw-fields, word-fields}
use Rattle.lexical_flags.proofs.RecordLemmas.{record_same}
use Rattle.lexical_util.specs.Layout.{Byte}
use Rattle.lexical_util.specs.Layout as layout
use Rattle.lexical_util.specs.declared.format_flags.Part.TheVariants as parts
use Rattle.lexical_util.specs.NormalForm.{IsNormal}
use Rattle.lexical_util.specs.Record.{SeparatorAllowedOrAbsent, bytes_of, effective_exponent_base, record_of, word_from}
use Rattle.lexical_util.specs.Unfoldable.{cased, IsPunctuation, Lawful}
use Rattle.lexical_literal.specs.Additions.Fields.{AreFields, byte_of, options_if, worded}
use Rattle.lexical_literal.specs.Additions.Scan.{IsDecimal, are_usual}
use Rattle.lexical_util.specs.Rules.{IsRadix}
use Rattle.lexical_util.specs.Options.{OptionsFit}
use Rattle.lexical_literal.specs.Syntax.{IsSyntax, contradiction, fault}
use Rattle.lexical_literal.specs.Notation.{no_conditions}
use Rattle.lexical_literal.specs.Worded.{Worded}
use Rattle.lexical_literal.specs.declared.syntax.Condition.TheVariants as conditions
use Rattle.lexical_literal.proofs.NumberLemmas.{is_kept, none_of_all}
use Rattle.lexical_literal.specs.declared.syntax.Grammar.TheInside.{Inside}
use Rattle.std.proofs.Common.{◌/◌}
use Rattle.std.proofs.lemmas.Nat.{and_mask, pow_pos}

place_bit : (n : ℕ) → not (bit_and n 1 == 0) ≡ (n % 2 == 1)
place_bit n = let mask = and_mask n 1 in let small = mod-lt n (pow_pos 1) in grind (arith, nat_tests)

-- The tests of bytes that are equal, and of others.
pub tested : (m n : ℕ) → m ≡ n → (m == n) ≡ true
tested m n is = grind (arith, nat_tests)

pub untested : (m n : ℕ) → (m ≡ n → ⊥) → (m == n) ≡ false
untested m n other = grind (arith, nat_tests)

-- A byte that is not absent.
pub none_if : {X : Type 0} (n m : ℕ) (x : X) → n ≡ m → (n ≡ 0 → ⊥) → None ≡ (if m == 0 then Some x else None)
none_if n m x same some = ap (λ (t : Bool). if t then Some x else None) (sym (untested m 0 (λ is. some (same ∙ is))))

-- A separator that no flag allows is absent.
separator_by : (r : Record) (own : ℕ) → r.byte layout.digit_separator ≡ own → SeparatorAllowedOrAbsent r → (b : ℕ)
    → ((b == own) && not (b == 0)) ≡ used_separator r b
unfolding cased
separator_by r own is (inl allowed) b = grind (arith, nat_tests)
separator_by r own is (inr absent) b = grind (arith, nat_tests)

module _ (a : Inside) (g : Worded) (h : AreFields a) (same : worded a ≡ g) where
  -- The record of the word has the flags and the bytes of the fields.
  pub record_is : record_of a.flags (byte_of a) ≡ raw g.word
  record_is = sym (raw-fields a.flags (byte_of a) h.flags h.bytes) ∙ ap (λ (g : Worded). raw g.word) same

  pub flag_is : (f : Flag) → (raw a.flags).flag f ≡ (raw g.word).flag f
  flag_is f = ap (λ (r : Record). r.flag f) record_is

  pub byte_is : (b : Byte) → byte_of a b ≡ (raw g.word).byte b
  byte_is b = ap (λ (r : Record). r.byte b) record_is

  -- The test of a flag by its mask.
  pub has_is : (f : Flag) (mask : ℕ) → 2 ^ bit f ≡ mask → not (bit_and a.flags mask == 0) ≡ (raw g.word).flag f
  has_is f mask is = subst (λ m. not (bit_and a.flags m == 0) ≡ (raw g.word).flag f) is (flag_test a.flags (bit f) ∙ flag_is f)

  -- The test of a flag by its number.
  pub place_is : (n : ℕ) (f : Flag) → n ≡ bit f → not (bit_and (a.flags / 2 ^ n) 1 == 0) ≡ (raw g.word).flag f
  place_is n f is = place_bit (a.flags / 2 ^ n) ∙ ap (λ k. a.flags / 2 ^ k % 2 == 1) is ∙ flag_is f

  -- The separator is absent if no flag allows one.
  pub separator_is : (b : ℕ) → ((b == a.separator) && not (b == 0)) ≡ (notation_of g).separator b
  separator_is b = separator_by (record_of a.flags (byte_of a)) a.separator refl h.separator b ∙ ap (λ r. used_separator r b) record_is

  pub prefix_is : (b : ℕ) → cased ((raw g.word).flag layout.case_sensitive_base_prefix) a.prefix b ≡ (notation_of g).prefix b
  prefix_is b = ap (λ n. cased ((raw g.word).flag layout.case_sensitive_base_prefix) n b) (byte_is layout.base_prefix)

  pub suffix_is : (b : ℕ) → cased ((raw g.word).flag layout.case_sensitive_base_suffix) a.suffix b ≡ (notation_of g).suffix b
  suffix_is b = ap (λ n. cased ((raw g.word).flag layout.case_sensitive_base_suffix) n b) (byte_is layout.base_suffix)

  pub whole_is : (a.point == 0) ≡ lacks_options g.options
  whole_is = subst (λ (g : Worded). (a.point == 0) ≡ lacks_options g.options) same (grind (arith, nat_tests))

  pub point_is : (b : ℕ) → ((b == a.point) && not (b == 0)) ≡ point_of g.options b
  unfolding cased
  point_is b = subst (λ (g : Worded). ((b == a.point) && not (b == 0)) ≡ point_of g.options b) same (grind (arith, nat_tests))

  pub exponent_is : (b : ℕ)
      → cased ((raw g.word).flag layout.case_sensitive_exponent) a.exponent b ≡ exponent_character_of (raw g.word) g.options b
  unfolding cased
  exponent_is b = subst (λ (i : Worded). cased ((raw g.word).flag layout.case_sensitive_exponent) a.exponent b
      ≡ exponent_character_of (raw g.word) i.options b) same (let none = h.exponent in grind (arith, nat_tests))

-- The radixes of a syntax are between 2 and 36.
pub radix_fits : (g : Worded) (part : Part) (radix : ℕ) → radix ≡ radix_of (raw g.word) part → IsSyntax g → IsRadix radix
unfolding Lawful
radix_fits g parts.Exponent radix same is = subst IsRadix (sym same) is.lawful.exponent_radix
radix_fits g _ radix same is = subst IsRadix (sym same) is.lawful.mantissa_radix

-- The fields with the flags of the word `w` and other conditions, and without a separator.
module _ (a : Inside) (h : AreFields a) (w : ℕ) (k : Conditions) (all : length k.numbers ≡ length all_conditions) where
  abbrev pub other : Inside
  other = record a { flags = w % 2 ^ 64; separator = 0; conditions = k }

  other_fit : (b : Byte) → byte_of other b < 2 ^ 8
  other_fit x0 = let fit = h.bytes x0 in grind arith

  pub other_fields : AreFields other
  other_fields = record {
    flags = mod-lt w (pow_pos 64);
    bytes = other_fit;
    base = h.base;
    radix = h.radix;
    separator = inr refl;
    exponent = h.exponent;
    conditions = all;
  }

  pub other_flag : (f : Flag) → (raw (worded other).word).flag f ≡ (raw w).flag f
  other_flag f = sym (flag_is other (worded other) other_fields refl f) ∙ low_flag w f

-- The options of a syntax that has any.
pub none_zero : (w e p : ℕ) → OptionsFit w e p → p ≡ 0 → ⊥
unfolding IsPunctuation
none_zero w e p fit is = false≢true (subst (λ n. IsTrue (allowed_ascii n)) is fit.point_is_punctuation.0)

pub some_options : (e p : ℕ) → (p ≡ 0 → ⊥) → options_if e p ≡ Some (record { exponent = e; point = p })
some_options e p some = ap (λ (t : Bool). if t then None else Some (record { exponent = e; point = p })) (untested p 0 some)

-- No conditions contradict no format.
pub none_contradicted : (r : Record) → contradiction r no_conditions ≡ None
unfolding fault
none_contradicted r = refl

-- The fields of a word in normal form are fields, and the word is made of them.
module _ (w : ℕ) (fits : w < 2 ^ 128) (normal : IsNormal w) where
  base_normal : effective_exponent_base (raw w) ≡ bytes_of w layout.exponent_base
  base_normal = grind (arith, nat_tests, normal.exponent_base)

  radix_normal : effective_exponent_radix (raw w) ≡ bytes_of w layout.exponent_radix
  radix_normal = grind (arith, nat_tests, normal.exponent_radix)

  module _ (a : Inside) (flags : a.flags ≡ w % 2 ^ 64) (radix : a.exponent_radix ≡ effective_exponent_radix (raw w))
      (base : a.exponent_base ≡ effective_exponent_base (raw w)) (mantissa : a.radix ≡ bytes_of w layout.mantissa_radix)
      (suffix : a.suffix ≡ bytes_of w layout.base_suffix) (prefix : a.prefix ≡ bytes_of w layout.base_prefix)
      (separator : a.separator ≡ bytes_of w layout.digit_separator) where
    bytes : (b : Byte) → byte_of a b ≡ bytes_of w b
    bytes layout.digit_separator = separator
    bytes layout.base_prefix = prefix
    bytes layout.base_suffix = suffix
    bytes layout.mantissa_radix = mantissa
    bytes layout.exponent_base = base ∙ base_normal
    bytes layout.exponent_radix = radix ∙ radix_normal

    word_is : word_from a.flags (byte_of a) ≡ w
    word_is = (λ i. word_from (flags i) (λ b. bytes b i)) ∙ word-fields w fits normal.clean.below_prefix

    pub worded_is : worded a ≡ record { word = w; options = options_if a.exponent a.point; conditions = a.conditions }
    worded_is = λ i. record { word = word_is i; options = options_if a.exponent a.point; conditions = a.conditions }

    fields_are : record_of a.flags (byte_of a) ≡ raw w
    fields_are = record_same _ _ (λ f. ap (λ n. (raw n).flag f) flags ∙ low_flag w f) bytes

    pub are_fields : (a.point ≡ 0 → a.exponent ≡ 0) → length a.conditions.numbers ≡ length all_conditions → AreFields a
    are_fields none all = record {
      flags = subst (λ n. n < 2 ^ 64) (sym flags) (mod-lt w (pow_pos 64));
      bytes = λ b. subst (λ n. n < 2 ^ 8) (sym (bytes b)) (mod-lt _ (pow_pos 8));
      base = ap effective_exponent_base fields_are ∙ base_normal ∙ sym (bytes layout.exponent_base);
      radix = ap effective_exponent_radix fields_are ∙ radix_normal ∙ sym (bytes layout.exponent_radix);
      separator = subst SeparatorAllowedOrAbsent (sym fields_are) normal.separator_used;
      exponent = none;
      conditions = all;
    }

-- The numbers of a usual syntax are those of `NegativeSign`.
off : (b : Bool) → not b ≡ true → b ≡ false
off b is = grind arith

pub usual_kept : (c : Conditions) → length c.numbers ≡ length all_conditions → are_usual c ≡ true → c ≡ kept (is_same conditions.NegativeSign) (number_of c)
usual_kept c all usual = is_kept (is_same conditions.NegativeSign) (number_of c) c all each where
  each : (d : Condition) → number_of c d ≡ (if is_same conditions.NegativeSign d then number_of c d else 0)
  each d = let none = none_of_all (λ d. has c d && not (is_same conditions.NegativeSign d)) (off _ usual) d in grind (arith, nat_tests)

unset : (n : ℕ) → (raw n).flag layout.required_mantissa_sign ≡ false → (raw n).flag layout.required_exponent_notation ≡ false
    → n - bit_and n 0x4020 ≡ n
unset n sign notation =
    let none : not (bit_and n 0x4020 == 0) ≡ false = mask_test (layout.required_mantissa_sign ∷ layout.required_exponent_notation ∷ []) n refl
    ∙ (λ i. sign i || (notation i || false)) in grind (arith, nat_tests)

pub decimal_of : (g : Worded) → IsUsual g → IsDecimal (raw g.word)
decimal_of g usual parts.Exponent = grind (arith, and_parts, eqb-true)
decimal_of g usual _ = eqb-true _ 10 (and_parts _ _ usual).0

-- A usual grammar has the fields that are given to it.
module _ (a : Inside) (g : Worded) (h : AreFields a) (same : worded a ≡ g) (usual : IsUsual g) where
  pub usual_fields : (k : Conditions) → k ≡ kept (is_same conditions.NegativeSign) (number_of a.conditions)
      → record a { radix = 10; exponent_base = 10; exponent_radix = 10; prefix = 0; flags = a.flags - bit_and a.flags 0x4020; conditions = k } ≡ a
  usual_fields k only =
      let from-radix = and_parts _ _ usual in let from-base = and_parts _ _ from-radix.1 in let from-exponent = and_parts _ _ from-base.1 in
      let from-prefix = and_parts _ _ from-exponent.1 in let from-sign = and_parts _ _ from-prefix.1 in let from-notation = and_parts _ _ from-sign.1 in
      let byte : (b : Byte) (n : ℕ) → (bytes_of g.word b == n) ≡ true → n ≡ byte_of a b = λ b n is. sym (byte_is a g h same b ∙ eqb-true _ n is) in
      let radix = byte layout.mantissa_radix 10 from-radix.0 in let base = byte layout.exponent_base 10 from-base.0 in
      let exponent = byte layout.exponent_radix 10 from-exponent.0 in let prefix = byte layout.base_prefix 0 from-prefix.0 in
      let flags = unset a.flags (flag_is a g h same layout.required_mantissa_sign ∙ off _ from-sign.0)
      (flag_is a g h same layout.required_exponent_notation ∙ off _ from-notation.0) in
      let conditions = only ∙ sym (usual_kept a.conditions h.conditions
      (ap (λ (g : Worded). are_usual g.conditions) same ∙ from-notation.1)) in
      λ i. record a { radix = radix i; exponent_base = base i; exponent_radix = exponent i; prefix = prefix i; flags = flags i; conditions = conditions i }
