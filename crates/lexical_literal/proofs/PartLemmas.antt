-- The roles of the bytes of a literal's parts.
use Rattle.lexical_literal.proofs.Common.{AllIn, IsSpelled, List, Literal, Notation, Part, PartsHaveRoles, [], and_parts, are_fit, arith, is_fit, run_byte}
use Rattle.lexical_literal.proofs.Common.{true, ℕ, ◌++◌, ◌∷◌, ◌≡◌}

module _ (m : Notation) (part : Part) where
  -- Each byte of a digit run is a digit or a separator.
  fit_bytes : (before run : List ℕ) → are_fit m part before run ≡ true → AllIn (run_byte m part) run
  fit_bytes before [] is = tt
  fit_bytes before (b ∷ run) is = (grind arith, fit_bytes (before ++ b ∷ []) run (and_parts (is_fit m part before b run) _ is).1)

pub parts_have_roles : (m : Notation) (l : Literal) → IsSpelled m l → PartsHaveRoles m l
parts_have_roles m l is = grind (arith, fit_bytes)
