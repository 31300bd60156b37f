-- What is not refused is supported and laid out, and what is written of a float has its value.
use Rattle.lexical_writer.proofs.Common.{Amount, Bool, Float, Grammar, HasNumber, IfErr, IfOk, IfOk-weaker, IsFinite, IsFloatOf, IsLaidOut, IsShape, IsWorth}
use Rattle.lexical_writer.proofs.Common.{Layout, None, Option, Power, Result, WriteError, ap, arith, effective_exponent_radix, first_error, float_error}
use Rattle.lexical_writer.proofs.Common.{format_of, from_bits, has, is_binary, is_decimal, is_some, is_whole, lacks_options, literal_of, not, raw, refusal}
use Rattle.lexical_writer.proofs.Common.{subst, sym, true, with_minus, ℕ, ◌&&◌, ◌||◌, ◌∙◌, ◌≡◌}
use Rattle.std.proofs.lemmas.Bool.{not-false}
use Rattle.std.specs.Prelude.{nat_lt, option_map}
use lib.Ieee.{Format}
use Rattle.lexical_util.specs.Layout as layouts
use Rattle.lexical_util.specs.Record.{bytes_of}
use Rattle.lexical_util.specs.declared.format_flags.Part.TheVariants as part
use Rattle.lexical_literal.specs.declared.syntax.Condition.TheVariants as conditions
use Rattle.lexical_writer.specs.declared.layout.Style.{Style}
use Rattle.lexical_writer.specs.declared.layout.WriteError.TheVariants as errors
use Rattle.lexical_writer.proofs.FloatLemmas.{amount_nearest, amount_rounded, error_of, if_numbered, minus_whole, minus_worth, not_refused}
use Rattle.lexical_writer.proofs.ConversionLemmas.{pair_of}
use Rattle.lexical_writer.proofs.LiteralLemmas.{radixes}
use Rattle.lexical_writer.proofs.float.format_float.Goals as goal

supports : (sign fraction s : Bool) → first_error sign fraction (not s) errors.Radix ≡ None → s ≡ true
supports sign fraction s none = grind arith

pub digits_in-requires-clause-supported : goal.digits_in-requires-clause-supported
digits_in-requires-clause-supported g c = supports _ _ _ (sym c.refusal.ensures ∙ c.in_default-refusal.is)

abbrev IsNumbered : (f : Format) → Float → Grammar → Style → Layout → Type 0
IsNumbered f x s style layout = (it : IsFloatOf f x s style (literal_of layout)) × HasNumber s it.amount (literal_of layout)

-- What is written is the amount of the float, with its digits.
both : (g : _) (c : goal.After-lay_out g)
    → IfOk c.lay_out.result (IsNumbered (format_of g.F.Float.DOUBLE) (g.F.Float.value c.args.value) c.args.syntax.now c.args.style)
both g c =
    let s = c.args.syntax.now in
    let style = c.args.style in
    let R = (raw s.word).byte layouts.mantissa_radix in
    let x = g.F.Float.value c.args.value in
    let amount = c.amount_in.result in
    let is = c.amount_in.ensures in
    let it = c.digits_in.ensures in
    let two = (radixes s.word c.lay_out.ensures.lawful.lawful part.Integer).0 in
    let negative = c.in-Some.negative in
    let double = c.DOUBLE-double in
    let size = from_bits (format_of double.result) c.in-Some.size in
    let value = c.in-Some.ensures.value ∙ ap (λ d. with_minus negative (from_bits (format_of d) c.in-Some.size)) (sym double.ensures) in
    if_numbered s style amount (IsNumbered (format_of g.F.Float.DOUBLE) x s style) c.lay_out.result c.lay_out.ensures.parts c.lay_out.ensures.number
    (λ layout text has. (
      record {
        num = it.0;
        den = it.1;
        amount = amount;
        worth = subst (λ sign. IsWorth (format_of g.F.Float.DOUBLE) x s style sign it.0 it.1) (sym is.sign)
            (subst (λ d. IsWorth (format_of d) x s style negative it.0 it.1) double.ensures
            (subst (λ x. IsWorth (format_of double.result) x s style negative it.0 it.1) (sym value)
            (minus_worth (format_of double.result) size s style negative it.0 it.1 it.2)));
        shape = subst (λ (t : Option (Bool × ℕ) × ℕ × ℕ). IsShape s style it.0 it.1 t.0 t.1 t.2)
            (λ j. (sym (is.power (effective_exponent_radix (raw s.word))) j, sym (is.places R it.4) j, sym (is.number R two it.4) j)) it.3;
        some = is.some ∙ ap (nat_lt 0) (sym (is.places R it.4));
        integer = is.integer _ two it.4;
        text = text;
      },
      has,
    ))

pub returns-clause-amount : goal.returns-clause-amount
returns-clause-amount g c = IfOk-weaker c.lay_out.result _ _ (λ layout it. it.0) (both g c)

pub returns-clause-value : goal.returns-clause-value
returns-clause-value g c plain =
    let supported = supports _ _ _ (sym c.refusal.ensures ∙ c.in_default-refusal.is) in
    IfOk-weaker c.lay_out.result _ _ (λ layout it. amount_nearest _ _ c.args.syntax.now c.args.style (literal_of layout) supported plain it.0 it.1) (both g c)

pub returns-clause-rounded : goal.returns-clause-rounded
returns-clause-rounded g c n wished =
    let supported = supports _ _ _ (sym c.refusal.ensures ∙ c.in_default-refusal.is) in
    IfOk-weaker c.lay_out.result _ _ (λ layout it. amount_rounded _ _ c.args.syntax.now c.args.style n (literal_of layout) supported wished it.0 it.1)
    (both g c)

-- The reason is that of the float with its sign.
refusal_is : (x y : Float) (g : Grammar) (negative : Bool) (error : Option WriteError) → y ≡ with_minus negative x → IsFinite y negative
    → error ≡ first_error (negative && has g.conditions conditions.NegativeSign) (lacks_options g.options && not (is_whole x))
    (not (is_decimal (bytes_of g.word) || is_binary (bytes_of g.word))) errors.Radix → float_error g y ≡ error
refusal_is x y g negative error is it refused = grind (arith, error_of g y negative it.0 it.1 it.2, minus_whole x negative)

pub returns-clause-some : goal.returns-clause-some
returns-clause-some g c =
    let it = c.in-Some in
    let double = c.DOUBLE-double in
    let value = it.ensures.value ∙ ap (λ d. with_minus it.negative (from_bits (format_of d) it.size)) (sym double.ensures) in
    let none = refusal_is (from_bits (format_of double.result) it.size) (g.F.Float.value c.args.value) c.args.syntax.now it.negative None
    value it.ensures.finite (sym c.in_default-refusal.is ∙ c.refusal.ensures) in
    IfOk-weaker c.lay_out.result _ _ (λ layout _. none) c.lay_out.ensures.literal

-- A float with digits is laid out.
laid : (g : Grammar) (style : Style) (amount : Amount) (result : Result Layout WriteError) (Q : WriteError → Type 0) → IsLaidOut g style amount result
    → refusal g amount ≡ None → IfErr result Q
laid g style amount result Q is none = grind arith

-- An exponent in digits is some if it is some.
some_same : (power : Option Power) → is_some power ≡ is_some (option_map (pair_of 10) power)
some_same power = grind arith

pub returns-clause-error : goal.returns-clause-error
returns-clause-error g c =
    let s = c.args.syntax.now in
    let it = c.digits_in.ensures in
    let shape = c.digits_in.result.1 in
    let is = c.amount_in.ensures in
    let whole = is_whole (from_bits (format_of c.DOUBLE-double.result) c.in-Some.size) in
    laid s c.args.style c.amount_in.result c.lay_out.result _ c.lay_out.ensures.parts
    (not_refused s c.args.style c.amount_in.result (not whole) (not (is_decimal (bytes_of s.word) || is_binary (bytes_of s.word))) it.0 it.1 shape.places _
    shape.exponent
    (ap (λ n. first_error (n && has s.conditions conditions.NegativeSign) (lacks_options s.options && not whole)
    (not (is_decimal (bytes_of s.word) || is_binary (bytes_of s.word))) errors.Radix) is.sign ∙ sym c.refusal.ensures ∙ c.in_default-refusal.is)
    (λ none. it.2.whole (not-false whole none)) it.2.some it.3 is.some (some_same c.amount_in.result.exponent ∙ ap is_some (is.power 10)))

pub returns-in-Some-refusal-clause-error : goal.returns-in-Some-refusal-clause-error
returns-in-Some-refusal-clause-error g c =
    let it = c.in-Some in
    let size = from_bits (format_of c.DOUBLE-double.result) it.size in
    let value = it.ensures.value ∙ ap (λ d. with_minus it.negative (from_bits (format_of d) it.size)) (sym c.DOUBLE-double.ensures) in
    refusal_is size (g.F.Float.value c.args.value) c.args.syntax.now it.negative _ value it.ensures.finite (sym c.in-Some-refusal.is ∙ c.refusal.ensures)
