-- Few digits fit, and of more those behind the zeros may.
use Rattle.lexical_literal.proofs.Common.{IsSmall, List, Literal, Part, [], ap, append-nil, arith, cut, cuts_of, fitting_word, number, places, subst, summed_in}
use Rattle.lexical_literal.proofs.Common.{sym, ℕ, ◌%◌, ◌++◌, ◌^◌, ◌∙◌, ◌≡◌}
use Rattle.lexical_literal.specs.Additions.Literal.{given}
use Rattle.lexical_util.specs.declared.format_flags.Part.TheVariants as parts
use Rattle.lexical_literal.proofs.literal.are_few.Goals as goal

alone : (l k : Literal) (part : Part) → l ≡ k → part ≡ parts.Exponent → l.exponent ++ [] ≡ summed_in part k
alone l k part same is = append-nil l.exponent ∙ ap (λ (l : Literal). l.exponent) same ∙ ap (λ part. summed_in part k) (sym is)

joined : (l k : Literal) (part : Part) → l ≡ k → (part ≡ parts.Exponent → ⊥) → l.integer ++ l.fraction ≡ summed_in part k
joined l k part same other = grind arith

module _ (radix digits sum : ℕ) (bytes all : List ℕ) (same : bytes ≡ all) where
  counted : digits ≡ places radix all → digits ≡ places radix bytes
  counted is = is ∙ sym (ap (places radix) same)

  summed : sum % 2 ^ 64 ≡ number radix all % 2 ^ 64 → sum ≡ sum % 2 ^ 64 → sum ≡ number radix bytes % 2 ^ 64
  summed is low = low ∙ is ∙ sym (ap (λ bytes. number radix bytes % 2 ^ 64) same)

pub returns-then-fits : goal.returns-then-fits
returns-then-fits c = fitting_word c.args.radix c.args.sum.digits c.args.sum.value (summed_in c.args.part (cut c.args.text.now (cuts_of c.args.counts)))
    (c.fits.ensures.0 c.if-fits.true) c.requires.sum.digits (omega (arith, c.requires.sum.value, c.well_formed))

pub is_small-requires-clause-digits : goal.is_small-requires-clause-digits
is_small-requires-clause-digits c = let is = c.requires.cut.1 in let k = cut c.args.text.now (cuts_of c.args.counts) in
    counted c.args.radix c.args.sum.digits c.args.sum.value _ _
    (alone _ k c.args.part (c.parts_of-parts.ensures k is.reads.whole is.lengths) c.in-Exponent.is) c.requires.sum.digits

pub is_small-requires-in_default-clause-digits : goal.is_small-requires-in_default-clause-digits
is_small-requires-in_default-clause-digits c = let is = c.requires.cut.1 in let k = cut c.args.text.now (cuts_of c.args.counts) in
    counted c.args.radix c.args.sum.digits c.args.sum.value _ _
    (joined _ k c.args.part (c.parts_of-parts.ensures k is.reads.whole is.lengths) c.in_default.not-Exponent) c.requires.sum.digits

pub returns-in-Exponent : goal.returns-in-Exponent
returns-in-Exponent c = let is = c.requires.cut.1 in let k = cut c.args.text.now (cuts_of c.args.counts) in
    let same = alone _ k c.args.part (c.parts_of-parts.ensures k is.reads.whole is.lengths) c.in-Exponent.is in
    subst (λ bytes. IsSmall c.args.radix (number c.args.radix bytes) (given c.is_small.result c.args.sum.value)) same (c.is_small.ensures _
    (summed c.args.radix c.args.sum.digits c.args.sum.value _ _ same c.requires.sum.value (omega (arith, c.well_formed))))

pub returns-in_default : goal.returns-in_default
returns-in_default c = let is = c.requires.cut.1 in let k = cut c.args.text.now (cuts_of c.args.counts) in
    let same = joined _ k c.args.part (c.parts_of-parts.ensures k is.reads.whole is.lengths) c.in_default.not-Exponent in
    subst (λ bytes. IsSmall c.args.radix (number c.args.radix bytes) (given c.is_small-in_default.result c.args.sum.value)) same
    (c.is_small-in_default.ensures _ (summed c.args.radix c.args.sum.digits c.args.sum.value _ _ same c.requires.sum.value (omega (arith, c.well_formed))))
