-- The bytes of the edited word need no answer. A flag is read off the edited record, and other flags are not written.
use Rattle.std.proofs.Common.{◌≡◌, ◌∷◌, [], Bool, true, false, Option, Some, None, if◌then◌else◌, ap, ◌∙◌, sym, refl}
use Rattle.std.specs.List.{last_or, filter_map}
use Rattle.std.proofs.lemmas.Bool.{false≢true, ne_eqb}
use Rattle.lexical_util.specs.Layout as layout
use Rattle.lexical_util.specs.Layout.{bit}
use Rattle.lexical_util.specs.Record.{Record, raw, fill}
use Rattle.lexical_util.specs.Unfoldable.{after}
use Rattle.callers.proofs.edit.with_prefix.Goals as goal

pub returns-clause-sensitive : goal.returns-clause-sensitive
unfolding after
returns-clause-sensitive c = ap (λ (r : Record). r.flag layout.case_sensitive_base_prefix) c.edit_word.ensures.fields

-- A write to a flag at another bit is not one to this flag.
unset : (same : Bool) → same ≡ false
    → last_or None (filter_map (λ (o : Option Bool). o) (None ∷ (if same then Some true else None) ∷ [])) ≡ None
unset false other = refl
unset true other = absurd (false≢true (sym other))

pub returns-clause-other_flags : goal.returns-clause-other_flags
returns-clause-other_flags c f other =
    let none = unset _ (ne_eqb (bit layout.case_sensitive_base_prefix) (bit f) (λ same. other (sym same))) in
    let kept = c.write_facts.ensures.kept_flag (fill (raw c.args.format)) _ f none in
    ap (λ (r : Record). r.flag f) c.edit_word.ensures.fields ∙ kept
