-- The flag is added to those that require nothing.
use Rattle.lexical_literal.proofs.Common.{Flag, ap, arith, bare, bit, bit_or, goes, group_at, no_condition, notation_of, one_shl, raw, sym, with_rules, ◌%◌}
use Rattle.lexical_literal.proofs.Common.{◌*◌, ◌==◌, ◌^◌, ◌||◌, ◌∙◌, ◌≡◌}
use Rattle.lexical_literal.proofs.CauseLemmas.{flag_or, flag_pow}
use Rattle.lexical_literal.proofs.cause.Spot.is_permitted.Goals as goal

pub returns : goal.returns
returns c f is =
    let m = notation_of c.args.self.now.grammar in
    let flag = one_shl c.args.number 128 (omega arith) ∙ ap (λ k. 2 ^ k) (sym is) in
    let one : (g : Flag) → (raw (bit_or (1 * 2 ^ c.args.number % 2 ^ 128) c.bare.result)).flag g ≡ ((bit g == bit f) || (bare m).flag g) =
    λ g. flag_or g (1 * 2 ^ c.args.number % 2 ^ 128) c.bare.result ∙ (λ j. (ap (λ n. (raw n).flag g) flag ∙ flag_pow g (bit f)) j || c.bare.ensures g j) in
    c.allows.ensures ∙ (λ j. goes (with_rules m (λ g. one g j) no_condition) c.args.self.now.read (group_at c.args.self.now) c.args.self.now.byte)
