-- Lemmas on the edits of flags and groups that change a new builder.
use Rattle.std.proofs.Common.{rules, ◌≡◌, Bool, true, arith}
use Rattle.lexical_util.specs.Private.{differs_from_new}
use Rattle.lexical_util.specs.declared.edits.setters.FlagSetter.{FlagSetter}
use Rattle.lexical_util.specs.declared.edits.setters.FlagSetter.TheVariants as setters
use Rattle.lexical_util.specs.declared.edits.setters.Edit.TheVariants as edits

-- Except for three setters, a flag edit changes a new builder if and only if its value is true.
pub flag_change : (s : FlagSetter) (v : Bool) → (s ≡ setters.RequiredDigits → ⊥)
    → (s ≡ setters.RequiredExponentDigits → ⊥) → (s ≡ setters.RequiredMantissaDigits → ⊥) → differs_from_new (edits.Flag s v) ≡ v
flag_change s v a b c = search rules

-- An edit of the group of required digits changes a new builder, whether its value is true or false.
pub group_change : (v : Bool) → differs_from_new (edits.Flag setters.RequiredDigits v) ≡ true
group_change v = grind arith
