-- The separator flags of a part are in the order of the parts.
use Rattle.lexical_literal.proofs.Common.{Flag, Part, ap, bit, refl, separators_in, ℕ, ◌+◌, ◌∙◌, ◌≡◌}
use denote.Enum.Declared.{tag_of}
use Rattle.lexical_flags.specs.contracts.format_flags.parts.Part.{the_type}
use Rattle.lexical_util.specs.declared.format_flags.Part.TheVariants as parts
use Rattle.lexical_literal.proofs.FieldLemmas.{place_is}
use Rattle.lexical_literal.proofs.step.has_place.Goals as goal

bits : (part : Part) → let n = tag_of the_type part in let flags = separators_in part in
    (32 + n ≡ bit flags.internal) × ((35 + n ≡ bit flags.leading) × ((38 + n ≡ bit flags.trailing) × (41 + n ≡ bit flags.consecutive)))
bits parts.Integer = (refl, (refl, (refl, refl)))
bits parts.Fraction = (refl, (refl, (refl, refl)))
bits parts.Exponent = (refl, (refl, (refl, refl)))

pub returns : goal.returns
returns c =
    let part = c.args.part in
    let is = λ (f : Flag) (n : ℕ) (at : c.args.place ≡ n) (same : n + tag_of the_type part ≡ bit f). place_is c.grammar.inside c.args.grammar
    c.grammar.invariant c.grammar.view_is (c.args.place + tag_of the_type part) f (ap (λ n. n + tag_of the_type part) at ∙ same) in record {
      internal = λ at. is (separators_in part).internal 32 at (bits part).0;
      leading = λ at. is (separators_in part).leading 35 at (bits part).1.0;
      trailing = λ at. is (separators_in part).trailing 38 at (bits part).1.1.0;
      consecutive = λ at. is (separators_in part).consecutive 41 at (bits part).1.1.1;
    }
