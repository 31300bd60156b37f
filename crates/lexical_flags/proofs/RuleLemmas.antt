-- Lemmas that a word is lawful if and only if it satisfies every rule, and that it has one error.
use Rattle.lexical_flags.proofs.Common.{◌≡◌, ℕ, ◌≢◌, ◌↔◌, inl, inr, Bool, true, arith, nat_tests, Error, Success, IsClean, Record, raw, AreDisjoint, digits}
use Rattle.lexical_flags.proofs.Common.{signs, format_roles, five_roles, Rule, IsAbsentOrPunctuation}
use Rattle.std.proofs.lemmas.List.Elements.{recursion_from_All}
use Rattle.lexical_base.specs.declared.error.Error.TheVariants.{InvalidFlags}
use Rattle.lexical_flags.specs.Roles.{Disjoint, cased}
use Rattle.lexical_flags.specs.Rules.{IsTextOrNone, IsPunctuation, Holds, IsErrorOf, Lawful, flag_rules}
use Rattle.lexical_flags.specs.Layout as layout
use Rattle.lexical_flags.specs.declared.format_flags.rule.Rule.TheVariants as rules
use Rattle.lexical_flags.proofs.RoleLemmas.{Disjoint-digits-cased, Disjoint-signs-cased, Disjoint-digits-signs, not_in}

-- If a byte is absent or punctuation, and not 0, then it is punctuation.
present : (r : Record) (byte : ℕ) → IsAbsentOrPunctuation r byte → byte ≢ 0 → IsPunctuation r byte
present r byte (inl none) some = absurd (some none)
present r byte (inr free) some = free

-- A byte that is absent or punctuation is absent or allowed ASCII.
IsAbsentOrPunctuation-text : (r : Record) (byte : ℕ) → IsAbsentOrPunctuation r byte → IsTextOrNone byte
unfolding IsPunctuation
IsAbsentOrPunctuation-text r byte is = grind arith

-- If a byte is absent or allowed ASCII, and its role is disjoint from the digits and the signs, then the byte is absent
-- or punctuation.
IsAbsentOrPunctuation-from : (r : Record) (counts : Bool) (byte : ℕ) → IsTextOrNone byte → Disjoint (digits r) (cased counts byte)
    → Disjoint signs (cased counts byte) → IsAbsentOrPunctuation r byte
unfolding IsPunctuation
IsAbsentOrPunctuation-from r counts byte text digits_apart signs_apart = grind (arith, nat_tests, not_in, digits, signs)

-- A lawful word satisfies every rule.
pub Holds-from_lawful : (rule : Rule) (word : ℕ) → Lawful word → Holds rule word
unfolding Holds Lawful
Holds-from_lawful rules.MantissaRadixInRange word h = let radix = h.mantissa_radix in grind (arith, nat_tests)
Holds-from_lawful rules.ExponentBaseInRange word h = h.exponent_base
Holds-from_lawful rules.ExponentRadixInRange word h = h.exponent_radix
Holds-from_lawful rules.DigitSeparatorIsPunctuation word h =
    let pairs = h.roles in
    IsAbsentOrPunctuation-from (raw word) true _ h.digit_separator (assumption pairs) (assumption pairs)
Holds-from_lawful rules.BasePrefixIsPunctuation word h =
    let pairs = h.roles in
    IsAbsentOrPunctuation-from (raw word) ((raw word).flag layout.case_sensitive_base_prefix) _ h.base_prefix (assumption pairs) (assumption pairs)
Holds-from_lawful rules.BaseSuffixIsPunctuation word h =
    let pairs = h.roles in
    IsAbsentOrPunctuation-from (raw word) ((raw word).flag layout.case_sensitive_base_suffix) _ h.base_suffix (assumption pairs) (assumption pairs)
Holds-from_lawful rules.PunctuationDiffers word h = let pairs = h.roles in let others = pairs.1 in others.1
Holds-from_lawful rules.ReservedBitsAreZero word h = h.clean
Holds-from_lawful _ word h = let flags = h.flags in assumption flags

-- If separator, prefix and suffix are absent or punctuation, and differ, then the five roles are disjoint.
five_apart : (r : Record) → IsAbsentOrPunctuation r (r.byte layout.digit_separator)
    → IsAbsentOrPunctuation r (r.byte layout.base_prefix) → IsAbsentOrPunctuation r (r.byte layout.base_suffix)
    → AreDisjoint (format_roles r) → AreDisjoint (five_roles r)
unfolding IsPunctuation
five_apart r separator prefix suffix own = grind (arith, nat_tests, Disjoint-digits-signs, digits, Disjoint-digits-cased, present, signs, Disjoint-signs-cased)

-- A word that satisfies every rule is lawful.
pub Lawful-from_all : (word : ℕ) → ((rule : Rule) → Holds rule word) → Lawful word
unfolding Holds Lawful
Lawful-from_all word h =
    let r : Record = raw word in
    let separator : IsAbsentOrPunctuation r (r.byte layout.digit_separator) = h rules.DigitSeparatorIsPunctuation in
    let prefix : IsAbsentOrPunctuation r (r.byte layout.base_prefix) = h rules.BasePrefixIsPunctuation in
    let suffix : IsAbsentOrPunctuation r (r.byte layout.base_suffix) = h rules.BaseSuffixIsPunctuation in
    record {
      mantissa_radix = let radix = h rules.MantissaRadixInRange in grind (arith, nat_tests);
      exponent_base = h rules.ExponentBaseInRange;
      exponent_radix = h rules.ExponentRadixInRange;
      flags = recursion_from_All (λ rule. Holds rule word) flag_rules (λ i d inside. h _);
      digit_separator = IsAbsentOrPunctuation-text r _ separator;
      base_prefix = IsAbsentOrPunctuation-text r _ prefix;
      base_suffix = IsAbsentOrPunctuation-text r _ suffix;
      roles = five_apart r separator prefix suffix (h rules.PunctuationDiffers);
      clean = h rules.ReservedBitsAreZero;
    }

-- A word has one error.
pub one_error : (word : ℕ) (a b : Error) → IsErrorOf word a → IsErrorOf word b → a ≡ b
unfolding IsErrorOf
one_error word a b h k = grind arith

-- Words that satisfy the same rules have the same error.
pub IsErrorOf-same : (v w : ℕ) → ((rule : Rule) → Holds rule v ↔ Holds rule w) → (error : Error) → IsErrorOf v error ↔ IsErrorOf w error
unfolding IsErrorOf
IsErrorOf-same v w same error = grind arith

-- The error of a clean word is never InvalidFlags.
pub not_flags : (word : ℕ) (error : Error) → IsClean word → IsErrorOf word error → error ≢ InvalidFlags
unfolding IsErrorOf Holds
not_flags word error clean h e = grind arith

-- The error of a word is Success if and only if the word is lawful.
pub success_lawful : (word : ℕ) (error : Error) → IsErrorOf word error → ((error ≡ Success) ↔ Lawful word)
unfolding IsErrorOf
success_lawful word error h = (
  λ e. Lawful-from_all word (λ rule. grind arith),
  λ lawful. let all = λ (rule : Rule). Holds-from_lawful rule word lawful in grind arith,
)
