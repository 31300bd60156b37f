use Rattle.std.proofs.Common.{rules, ◌≡◌, ◌↔◌, Option, Some, List, ℕ}
use Rattle.std.specs.Prelude.{MatchOption}
use Rattle.lexical_util.specs.declared.edits.setters.Setter.{Setter}
use Rattle.lexical_util.specs.Additions.Settings.{name_of, IsNoName}
use Rattle.lexical_util.proofs.SettingLemmas.{same_name}
use Rattle.lexical_util.proofs.edits.setters.Setter.from_name.Goals as goal

only_one : (found : Option Setter) (text : List ℕ) → MatchOption found (IsNoName text) (λ setter. text ≡ name_of setter)
    → (setter : Setter) → (found ≡ Some setter) ↔ (name_of setter ≡ text)
only_one found text none setter = search (rules, same_name)

pub returns : goal.returns
returns c = only_one c.named.result c.args.name.now c.named.ensures
