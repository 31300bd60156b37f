-- A text that is a literal is read.
use Rattle.std.proofs.Common.{◌≡◌, Result, Ok, Err, IsOkAnd}
use Rattle.std.proofs.lemmas.Bool.{false≢true}
use Rattle.callers.proofs.formats.is_literal.Goals as goal

no_error : {T E : Type 0} (P : T → Type 0) (r : Result T E) → IsOkAnd r P → (e : E) → r ≡ Err e → ⊥
no_error P (Ok x) is e same = let apart : Ok x ≡ Err e = same in cc
no_error P (Err x) is e same = is

pub returns-in-Err : goal.returns-in-Err
returns-in-Err c = (λ is. absurd (false≢true is), λ l. absurd (no_error _ _ (c.read.ensures.only l.0 l.1) _ c.in-Err.is))
