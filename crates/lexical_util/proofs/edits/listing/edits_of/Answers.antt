use Rattle.std.proofs.Common.{◌≡◌, ℕ, ◌+◌, ◌-◌, ◌≤◌, List, ◌++◌, length, take, drop, filter, not, ◌∙◌, sym, ap, arith, subst, refl, All, append-nil}
use Rattle.std.proofs.Common.{length-drop, length-take}
use borrow.Rule.Slice.PartMut.{put_mid}
use Rattle.std.specs.List.{AllZip}
use Rattle.std.proofs.Math.Seq.{take-append_seam}
use Rattle.std.proofs.lemmas.List.{drop_all, length-map}
use Rattle.std.proofs.lemmas.List.Filters.{length-filter_both}
use Rattle.lexical_flags.specs.Record.{raw}
use Rattle.lexical_util.proofs.Lower.{pack-raw}
use Rattle.lexical_builder.specs.Writes.{IsLegal, new_record, after}
use Rattle.lexical_util.specs.Edits.{all_writes}
use Rattle.lexical_util.specs.Additions.FieldEdits.{edit_of_write, needed_edits, other_edits}
use Rattle.lexical_util.specs.Listing.{IsEditOf, needed_writes, other_writes}
use Rattle.lexical_util.specs.Private.{differs_from_new}
use Rattle.lexical_util.proofs.Fewest.{fewest_writes}
use Rattle.lexical_util.proofs.ListingLemmas.{needed_edits-is, other_edits-is, IsEditOf-both, after-needed, after-both, legal-both}
use Rattle.lexical_util.proofs.edits.listing.edits_of.Goals as goal

-- The number of edits that are not in the first part is the length of the second part.
pub copy_from_slice-requires : goal.copy_from_slice-requires
copy_from_slice-requires c =
    let first = c.move_to_front-count.new.edits in
    let count = c.move_to_front-count.result in
    let both = c.field_edits_of-edits.ensures ∙ sym c.field_edits_of-others.ensures in
    omega (
      arith,
      length-take (length first - count) (drop count first),
      length-drop count first,
      length-take c.move_to_front-rest.result c.move_to_front-rest.new.edits,
      c.move_to_front-count.ensures.count,
      c.move_to_front-rest.ensures.count,
      ap (λ es. length (filter (λ e. not (differs_from_new e)) es)) both,
      length-filter_both differs_from_new (λ e. not (differs_from_new e)) (λ e. refl) c.field_edits_of-edits.result,
    )

-- If the end of a list is written over, then the list is its front followed by the written list.
overwritten : {X : Type 0} (a k : ℕ) (xs ys : List X) → length xs ≤ a + k → put_mid a k xs ys ≡ take a xs ++ ys
overwritten a k xs ys long = ap (λ zs. take a xs ++ (ys ++ zs)) (drop_all k (drop a xs) (omega (arith, length-drop a xs)))
    ∙ ap (λ zs. take a xs ++ zs) (append-nil ys)

pub returns : goal.returns
returns c =
    let R = raw c.args.format in
    let count = c.move_to_front-count.result in
    let front = c.move_to_front-count.ensures.front ∙ ap (filter differs_from_new) c.field_edits_of-edits.ensures ∙ needed_edits-is R in
    let rest = c.copy_from_slice.ensures.after ∙ c.move_to_front-rest.ensures.front
    ∙ ap (filter (λ e. not (differs_from_new e))) c.field_edits_of-others.ensures ∙ other_edits-is R in
    let listed = overwritten count (length c.move_to_front-count.new.edits - count) c.move_to_front-count.new.edits
    c.copy_from_slice.new.self (omega arith) ∙ (λ i. front i ++ rest i) in
    let number : count ≡ length (needed_edits R) = c.move_to_front-count.ensures.count
    ∙ ap (λ es. length (filter differs_from_new es)) c.field_edits_of-edits.ensures ∙ ap length (needed_edits-is R) in
    record {
      list = subst (AllZip IsEditOf (needed_writes R ++ other_writes R)) (sym listed) (IsEditOf-both R);
      number = number ∙ length-map (needed_writes R) edit_of_write;
      legal = subst (λ es. All IsLegal (all_writes es)) (sym listed) (legal-both R (record { each = λ b. omega arith }));
      first = ap (λ es. after new_record (all_writes es)) (ap (take count) listed ∙ ap (λ n. take n (needed_edits R ++ other_edits R)) number
          ∙ take-append_seam (needed_edits R) (other_edits R)) ∙ after-needed R;
      whole = ap (λ es. after new_record (all_writes es)) listed ∙ after-both R;
      builds = pack-raw c.args.format (omega arith);
      fewest = λ L legal makes. subst (λ n. n ≤ length L) (sym (number ∙ length-map (needed_writes R) edit_of_write))
          (fewest_writes c.args.format L legal makes);
    }
