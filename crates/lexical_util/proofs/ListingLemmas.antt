-- Lemmas that the edits of all fields of a record give it from a new builder, and that only the needed edits suffice.
use Rattle.std.proofs.Common.{rules, ◌≡◌, Bool, true, false, not, cond, List, [], ◌∷◌, ◌++◌, map, filter, refl, sym, ap, ◌∙◌, subst, All}
use Rattle.std.specs.List.{list_any, AllZip}
use Rattle.std.proofs.Math.Bool.{or-false}
use Rattle.std.proofs.lemmas.List.{map-append}
use Rattle.std.proofs.lemmas.List.Concat.{flat_map-append}
use Rattle.std.proofs.lemmas.List.Elements.{All-append, All-filter}
use Rattle.lexical_flags.specs.Layout as layout
use Rattle.lexical_flags.specs.Layout.{Flag}
use Rattle.lexical_flags.specs.Record.{Record, HasBytes}
use Rattle.lexical_builder.specs.Writes.{Write, IsLegal, new_record, after, changes}
use Rattle.lexical_util.proofs.Lower.{byte_of_option_back, after-append}
use Rattle.lexical_util.proofs.FieldWrites.{legal-field_writes, after-own, after-changes}
use Rattle.lexical_util.specs.Edits.{flags_of, writes_of, all_writes}
use Rattle.lexical_util.specs.Listing.{IsEditOf, field_writes, needed_writes, other_writes}
use Rattle.lexical_util.specs.Additions.FieldEdits.{flag_setter, edit_of_write, field_edits, needed_edits, other_edits}
use Rattle.lexical_util.specs.Private.{differs_from_new}
use Rattle.lexical_util.specs.declared.edits.setters.Edit.{Edit}

-- The edit of a write has only this write.
writes_of-edit : (x : Write) → writes_of (edit_of_write x) ≡ x ∷ []
writes_of-edit x = search (rules, byte_of_option_back)

all_writes-edits : (writes : List Write) → all_writes (map edit_of_write writes) ≡ writes
all_writes-edits [] = refl
all_writes-edits (x ∷ writes) = ap (λ xs. xs ++ all_writes (map edit_of_write writes)) (writes_of-edit x) ∙ ap (λ xs. x ∷ xs) (all_writes-edits writes)

-- Filtering edits by a test is filtering their writes by an equal test.
filter-edits : (p : Edit → Bool) (q : Write → Bool) → ((x : Write) → p (edit_of_write x) ≡ q x) → (writes : List Write)
    → filter p (map edit_of_write writes) ≡ map edit_of_write (filter q writes)
filter-edits p q agree [] = refl
filter-edits p q agree (x ∷ writes) =
    let rest = filter p (map edit_of_write writes) in
    ap (λ t. cond t (edit_of_write x ∷ rest) rest) (agree x) ∙ either (q x) rest (filter-edits p q agree writes) where
      either : (t : Bool) (es : List Edit) → es ≡ map edit_of_write (filter q writes)
          → cond t (edit_of_write x ∷ es) es ≡ map edit_of_write (cond t (x ∷ filter q writes) (filter q writes))
      either true es same = ap (λ es. edit_of_write x ∷ es) same
      either false es same = same

differs_from_new-edit : (x : Write) → differs_from_new (edit_of_write x) ≡ changes new_record x
differs_from_new-edit x = ap (list_any (changes new_record)) (writes_of-edit x) ∙ or-false (changes new_record x)

-- The field edits that change a new builder are the needed edits, and the others are the other edits.
pub needed_edits-is : (R : Record) → filter differs_from_new (field_edits R) ≡ needed_edits R
needed_edits-is R = filter-edits differs_from_new (changes new_record) differs_from_new-edit (field_writes R)

pub other_edits-is : (R : Record) → filter (λ e. not (differs_from_new e)) (field_edits R) ≡ other_edits R
other_edits-is R = filter-edits (λ e. not (differs_from_new e)) (λ x. not (changes new_record x)) (λ x. ap not (differs_from_new-edit x)) (field_writes R)

all_writes-both : (R : Record) → all_writes (needed_edits R ++ other_edits R) ≡ needed_writes R ++ other_writes R
all_writes-both R = flat_map-append writes_of (needed_edits R) (other_edits R)
    ∙ (λ i. all_writes-edits (needed_writes R) i ++ all_writes-edits (other_writes R) i)

-- The needed edits of a record give it from a new builder.
pub after-needed : (R : Record) → after new_record (all_writes (needed_edits R)) ≡ R
after-needed R = ap (after new_record) (all_writes-edits (needed_writes R)) ∙ after-changes new_record R

-- The needed edits and the other edits together give the record from a new builder.
pub after-both : (R : Record) → after new_record (all_writes (needed_edits R ++ other_edits R)) ≡ R
after-both R = ap (after new_record) (all_writes-both R) ∙ sym (after-append new_record (needed_writes R) (other_writes R))
    ∙ ap (λ S. after S (other_writes R)) (after-changes new_record R) ∙ after-own (λ x. not (changes new_record x)) R

-- If the bytes of a record fit, then the writes of its needed edits and other edits are legal.
pub legal-both : (R : Record) → HasBytes R → All IsLegal (all_writes (needed_edits R ++ other_edits R))
legal-both R h =
    let legal = legal-field_writes R h in
    subst (All IsLegal) (sym (all_writes-both R)) (All-append IsLegal (needed_writes R) (other_writes R)
    (All-filter (changes new_record) IsLegal (field_writes R) legal) (All-filter (λ x. not (changes new_record x)) IsLegal (field_writes R) legal))

-- Each flag setter writes only its flag. Each case is computed.
pub setter_alone : (f : Flag) → flags_of (flag_setter f) ≡ f ∷ []
setter_alone layout.required_integer_digits = refl
setter_alone _ = refl

edit_of_write-is : (x : Write) → IsEditOf x (edit_of_write x)
edit_of_write-is x = search (rules, setter_alone)

edits_of_writes : (writes : List Write) → AllZip IsEditOf writes (map edit_of_write writes)
edits_of_writes [] = tt
edits_of_writes (x ∷ writes) = (edit_of_write-is x, edits_of_writes writes)

-- The needed edits, followed by the other edits, are the edits of the needed writes and the other writes.
pub IsEditOf-both : (R : Record) → AllZip IsEditOf (needed_writes R ++ other_writes R) (needed_edits R ++ other_edits R)
IsEditOf-both R = subst (AllZip IsEditOf (needed_writes R ++ other_writes R))
    (map-append edit_of_write (needed_writes R) (other_writes R)) (edits_of_writes (needed_writes R ++ other_writes R))
