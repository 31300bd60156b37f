-- Digits end where a byte follows that has no role there.
use Rattle.lexical_literal.proofs.Common.{None, Notation, Summary, arith, false, is_bare, is_fresh, part_of, step, takes, true, ℕ, ◌≡◌}
use Rattle.lexical_util.specs.declared.feature_format.roles.Role.TheVariants as roles
use Rattle.lexical_literal.specs.declared.step.Stage.TheVariants as stages
use Rattle.lexical_literal.specs.declared.syntax.Condition.TheVariants as conditions

module _ (m : Notation) (s : Summary) where
  -- A byte that is neither a digit nor a separator, and has no role that is taken, is refused.
  pub passed : (b : ℕ) → m.digit (part_of s.stage) b ≡ false → m.separator b ≡ false → is_fresh s.stage ≡ false → (is_bare s.stage ≡ true → m.prefix b ≡ false)
      → (m.point b ≡ true → takes m s false roles.Point ≡ false) → (m.exponent_character b ≡ true → takes m s false roles.Exponent ≡ false)
      → (m.suffix b ≡ true → takes m s false roles.Suffix ≡ false) → step m s b ≡ None
  passed b digit separator old B P E S = grind arith

-- Behind the zero of a required base prefix, nothing else is taken.
pub zero_passed : (m : Notation) → m.condition conditions.BasePrefix ≡ true → (b : ℕ) → m.prefix b ≡ false
    → step m (record { stage = stages.Bare; gap = false; ended = false }) b ≡ None
zero_passed m needs b prefix = grind arith
