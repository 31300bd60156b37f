-- The fields of what contracts see are the fields.
use Rattle.lexical_literal.proofs.Common.{List, ap, length, subst, sym, ℕ, ◌∙◌, ◌∷◌, [], ◌≡◌}
use Rattle.std.proofs.Common.{rules}
use Rattle.std.specs.Hash.{le_bytes, u8}
use Rattle.std.specs.List.{flat_map, fold}
use Rattle.lexical_literal.specs.Additions.Fields.{AreFields, fields_of, fields_same, worded}
use Rattle.lexical_literal.specs.declared.syntax.Grammar.TheInside.{Inside}
use Rattle.lexical_literal.specs.Worded.{Worded}
use Rattle.lexical_literal.proofs.syntax.GrammarHash.hash.Goals as goal

abbrev bytes_in : Inside → List (List ℕ)
bytes_in a =
    (a.exponent_radix ∷ []) ∷ (a.exponent_base ∷ []) ∷ (a.radix ∷ []) ∷ (a.suffix ∷ []) ∷ (a.prefix ∷ []) ∷ (a.separator ∷ [])
    ∷ le_bytes 8 a.flags ∷ (a.exponent ∷ []) ∷ (a.point ∷ []) ∷ le_bytes 8 (length a.conditions.numbers) ∷ flat_map u8 a.conditions.numbers

fields_path : (a : Inside) (g : Worded) → AreFields a → worded a ≡ g → a ≡ fields_of g
fields_path a g h same = sym (fields_same a h) ∙ ap fields_of same

pub returns : goal.returns
returns c c' = subst (λ (a : Inside). c'.hash-10.new.state ≡ fold c.__H.Hasher.write c'.args.state.now (bytes_in a))
    (fields_path c'.t1-1.inside c'.args.self.now c'.t1-1.invariant c'.t1-1.view_is) (search rules)
