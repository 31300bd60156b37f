-- A text followed by an ASCII character is a text.
use Rattle.std.proofs.Common.{◌<◌, ◌∷◌, [], ℕ, sym, subst, arith, rules}
use Rattle.std.specs.List.{All}
use Rattle.std.specs.Str.{IsUtf8}
use Rattle.std.proofs.lemmas.List.{take_more_set}
use Rattle.std.proofs.lemmas.Str.{IsUtf8-append, IsUtf8-from_ascii}
use Rattle.std.proofs.lemmas.Str.Ascii.{IsAscii-from_all}
use Rattle.lexical_base.proofs.short_text.ShortText.put_byte.Goals as goal

only : (byte : ℕ) → byte < 128 → All (λ byte. byte < 128) (byte ∷ [])
only byte small index default within = search rules

pub invariant_of-self : goal.invariant_of-self
invariant_of-self c =
    let below = c.if-self-lt-CAPACITY.true in
    let small : c.args.byte < 128 = search (rules, c.if-is_ascii.ensures) in (
      omega (arith, below),
      subst IsUtf8 (sym (take_more_set _ _ _ (omega (arith, below, c.self.told))))
          (IsUtf8-append _ _ c.self.invariant.1 (IsUtf8-from_ascii _ (IsAscii-from_all (c.args.byte ∷ []) (only _ small)))),
    )
