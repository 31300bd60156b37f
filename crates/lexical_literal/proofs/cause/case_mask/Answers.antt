-- Each flag of the mask is that of a role.
use Rattle.std.proofs.Common.{rules}
use Rattle.lexical_literal.proofs.Common.{Bool, Flag, Notation, arith, bit_or, case_set, false, if◌then◌else◌, mask_of, refl, ℕ, ◌^◌, ◌≡◌}
use Rattle.lexical_util.specs.Record.{word_of}
use Rattle.lexical_util.specs.Layout as layout
use Rattle.lexical_literal.proofs.CauseLemmas.{same_mask}
use Rattle.lexical_literal.proofs.cause.case_mask.Goals as goal

abbrev of_roles : Bool → Bool → Bool → Flag → Bool
of_roles e p s layout.case_sensitive_exponent = e
of_roles e p s layout.case_sensitive_base_prefix = p
of_roles e p s layout.case_sensitive_base_suffix = s
of_roles e p s _ = false

three : (e p s : Bool) → bit_or (bit_or (if e then 2 ^ 15 else 0) (if p then 2 ^ 16 else 0)) (if s then 2 ^ 17 else 0) ≡ mask_of (of_roles e p s)
unfolding word_of
three e p s = search rules

each : (m : Notation) (byte : ℕ) (f : Flag) → of_roles (m.exponent_character byte) (m.prefix byte) (m.suffix byte) f ≡ case_set f m byte
each m byte layout.required_integer_digits = refl
each m byte _ = refl

pub returns : goal.returns
returns c = grind (arith, three, same_mask, each)
