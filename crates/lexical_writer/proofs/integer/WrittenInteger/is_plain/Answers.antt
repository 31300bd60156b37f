-- The text is a sign and decimal digits.
use Rattle.lexical_writer.proofs.Common.{Bool, Grammar, None, Pattern, Record, Style, ap, append-nil, arith, at_least, digits_of, false, grouped, has}
use Rattle.lexical_writer.proofs.Common.{has_exponent, if◌then◌else◌, laid_out, max, nat_lt, nat_tests, no_groups, not, number_of_size, option_to_list, raw}
use Rattle.lexical_writer.proofs.Common.{sym, text_of, true, ℕ, ◌&&◌, ◌++◌, ◌==◌, ◌||◌, ◌∙◌, ◌≡◌, ◌≤◌}
use Rattle.lexical_writer.specs.Layout.{base_byte, integer_pattern}
use Rattle.lexical_writer.specs.Layout.{pattern_of, sign_of}
use Rattle.lexical_util.specs.Layout as layout
use Rattle.lexical_literal.specs.declared.syntax.Condition.TheVariants as conditions
use Rattle.lexical_writer.proofs.ConversionLemmas.{no_power}
use Rattle.lexical_writer.proofs.integer.WrittenInteger.is_plain.Goals as goal

-- Groups without a last one are none.
pattern_is : (r : Record) (allowed lowercase : Bool) (last higher : ℕ) → (pattern_of r allowed last higher lowercase).last ≡ 0
    → pattern_of r allowed last higher lowercase ≡ no_groups lowercase
pattern_is r allowed lowercase last higher is = grind arith

-- One digit is written at least.
one : (led wish : ℕ) (takes : Bool) → led ≡ 1 → wish ≤ 1 → max led (if takes then wish else 0) ≡ 1
one led wish takes none most = grind arith

unled : (lead decimal first : Bool) (count : ℕ) → (lead || decimal) ≡ false → (if not false && (lead || (decimal && not first)) then count else 1) ≡ 1
unled lead decimal first count none = grind arith

unbased : (some : Bool) (byte : ℕ) → byte ≡ 0 → base_byte some byte ≡ None
unbased some byte is = grind (arith, nat_tests)

-- The parts of the literal.
plain : (g : Grammar) (style : Style) (negative : Bool) (n : ℕ) → has_exponent g (number_of_size negative n) ≡ false
    → (raw g.word).byte layout.mantissa_radix ≡ 10 → (raw g.word).byte layout.base_prefix ≡ 0 → (raw g.word).byte layout.base_suffix ≡ 0
    → (integer_pattern (raw g.word) g.conditions style).last ≡ 0
    → (has g.conditions conditions.LeadingZero || has g.conditions conditions.DecimalFirstDigit) ≡ false → style.min_digits ≤ 1
    → text_of (laid_out g style (number_of_size negative n)) ≡ option_to_list (sign_of negative ((raw g.word).flag layout.required_mantissa_sign))
    ++ grouped (no_groups style.lowercase) (at_least 1 (digits_of 10 n))
plain g style negative n none radix prefix suffix groups leads most = grind (arith, unbased, pattern_is, one, unled, no_power, append-nil)

all : (radix prefix suffix last : ℕ) (lead decimal long exponent : Bool)
    → ((((((radix == 10) && (prefix == 0)) && (suffix == 0)) && (last == 0)) && not ((lead || decimal) || long)) && not exponent) ≡ true
    → (radix ≡ 10) × (prefix ≡ 0) × (suffix ≡ 0) × (last ≡ 0) × ((lead || decimal) ≡ false) × (long ≡ false) × (exponent ≡ false)
all radix prefix suffix last lead decimal long exponent is = grind arith

pub returns : goal.returns
returns c is =
    let it = c.args.self.now in
    let word = c.view-format.ensures.word ∙ c.format.ensures.word in
    let a = all _ _ _ _ c.has.result c.has-2.result (nat_lt 1 it.style.min_digits) _ is in
    let own = c.conditions-conditions.ensures in
    plain it.syntax it.style it.negative it.size
    (sym c.needs_exponent-exponent.ensures ∙ a.6)
    (sym (c.mantissa_radix.ensures.value ∙ ap (λ w. (raw w).byte layout.mantissa_radix) word) ∙ a.0)
    (sym (c.base_prefix.ensures ∙ ap (λ w. (raw w).byte layout.base_prefix) (c.word.ensures ∙ word)) ∙ a.1)
    (sym (c.base_suffix.ensures ∙ ap (λ w. (raw w).byte layout.base_suffix) (c.word-2.ensures ∙ word)) ∙ a.2)
    (sym (ap (λ (p : Pattern). p.last) (c.integer_pattern.ensures ∙ (λ j. integer_pattern (raw (word j)) (own j) it.style))) ∙ a.3)
    (sym (λ i. (c.has.ensures ∙ ap (λ k. has k conditions.LeadingZero) own) i || (c.has-2.ensures ∙ ap (λ k. has k conditions.DecimalFirstDigit) own) i)
    ∙ a.4)
    (let short : nat_lt 1 it.style.min_digits ≡ false = a.5 in grind (arith, nat_tests))
