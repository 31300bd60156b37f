-- The result is the normal form, and each clause is a lemma on normal forms.
use Rattle.std.proofs.Common.{◌∙◌, refl, sym, ap, arith}
use Rattle.lexical_flags.specs.Record.{pack}
use Rattle.lexical_util.specs.NormalForm.{normal_form_of}
use Rattle.lexical_util.proofs.NormalLemmas.{normal_form-is, raw_normal, clean_normal, normal_only, normal_again, normal_from_fixed, fixed_from_normal}
use Rattle.lexical_util.proofs.NormalLemmas.{normal_keeps, groups_normal, flags_normal, edited-normal}
use Rattle.lexical_util.proofs.edits.normal_form.Goals as goal

pub returns : goal.returns
returns c =
    let w = c.args.format in
    let rules = c.rule_facts.ensures in
    rw (c.build_unchecked.ensures.word ∙ ap pack c.rebuild.ensures ∙ sym (normal_form-is w)) (record {
      word = refl;
      fields = raw_normal w;
      clean = clean_normal w;
      unique = normal_only w;
      idempotent = normal_again w;
      unchanged = (normal_from_fixed w, fixed_from_normal w (omega arith));
      same = normal_keeps w;
      groups = groups_normal w;
      flags = flags_normal w;
      lawful = rules.kept_lawful w (normal_form_of w) (clean_normal w) (raw_normal w);
      error = rules.same_error w (normal_form_of w) (clean_normal w) (raw_normal w);
      edits = λ used writes legal. edited-normal w writes used;
      normal = normal_from_fixed (normal_form_of w) (normal_again w);
    })
