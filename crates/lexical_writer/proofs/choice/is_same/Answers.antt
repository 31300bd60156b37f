-- Both literals are worth the same float.
use Rattle.lexical_writer.proofs.Common.{Ok, ap, arith, format_of, from_bits, inl, nat_tests, sym, ◌∙◌, ◌≡◌}
use Rattle.lexical_writer.proofs.choice.is_same.Goals as goal

pub returns-in-Some-Some : goal.returns-in-Some-Some
returns-in-Some-Some g c equal =
    let same : c.in-Some-Some.own ≡ c.in-Some-Some.bits = grind (arith, nat_tests, equal) in
    let f = format_of g.F.Float.DOUBLE in (
      from_bits f c.in-Some-Some.own,
      inl c.in-Some-Some.ensures,
      inl (c.in-Some-Some.ensures' ∙ ap (λ b. Ok (from_bits f b)) (sym same)),
    )
