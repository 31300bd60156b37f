-- Lemmas on the writes of a list of edits, one edit after another.
use Rattle.std.proofs.Common.{rules, ◌≡◌, ℕ, ◌+◌, ◌<◌, ◌≤◌, ◌^◌, List, [], ◌∷◌, ◌++◌, length, get_or, take, sym, ap, ◌∙◌, append-nil, take_all, All, arith}
use Rattle.std.proofs.lemmas.List.{take_more}
use Rattle.std.proofs.lemmas.List.Concat.{flat_map-append}
use Rattle.std.proofs.lemmas.List.Elements.{All-append, All-same}
use Rattle.lexical_flags.specs.Layout.{IsClean}
use Rattle.lexical_flags.specs.Record.{Record, raw, fill, trim, pack, HasBytes}
use Rattle.lexical_builder.specs.Writes.{Write, IsLegal, after, SameWrites}
use Rattle.lexical_util.proofs.Lower.{raw-pack, pack-clean, pack-lt, raw-injective, HasBytes-raw, HasBytes-fill, after_none, after-append, after-same}
use Rattle.lexical_util.proofs.Lower.{HasBytes-after}
use Rattle.lexical_util.specs.Edits.{all_writes, writes_of, edited}
use Rattle.lexical_util.specs.declared.edits.setters.Edit.{Edit}

-- The writes of the first `i + 1` edits are the writes of the first `i` edits, and then the writes of the next.
pub all_writes-more : (edits : List Edit) (i : ℕ) (e : Edit) → i < length edits
    → all_writes (take (i + 1) edits) ≡ all_writes (take i edits) ++ writes_of (get_or edits i e)
all_writes-more edits i e h = ap all_writes (take_more edits i e h) ∙ flat_map-append writes_of (take i edits) (get_or edits i e ∷ [])
    ∙ ap (λ L. all_writes (take i edits) ++ L) (append-nil (writes_of (get_or edits i e)))

-- `HasApplied R edits i b` holds if applying the first `i` of `edits` to `R` gives `b`, and their writes are legal.
pub record HasApplied (R : Record) (edits : List Edit) (i : ℕ) (b : Record) : Type 0 where
  pub fields : b ≡ after R (all_writes (take i edits))
  pub legal : All IsLegal (all_writes (take i edits))

-- Before the first edit, the record is `R`.
pub applied_none : (R : Record) (edits : List Edit) → HasApplied R edits 0 R
applied_none R edits = record { fields = sym (after_none R); legal = λ k d h. absurd (omega arith) }

-- If the first `i` edits are applied, and then the next, then the first `i + 1` edits are applied.
pub applied_more : {R : Record} {edits : List Edit} {i : ℕ} {b next : Record} {e : Edit}
    → HasApplied R edits i b → i < length edits → e ≡ get_or edits i e → next ≡ after b (writes_of e)
    → All IsLegal (writes_of e) → HasApplied R edits (i + 1) next
applied_more {R} {edits} {i} {b} {next} {e} h inside is applied legal =
    let more : all_writes (take (i + 1) edits) ≡ all_writes (take i edits) ++ writes_of e =
    all_writes-more edits i e inside ∙ ap (λ x. all_writes (take i edits) ++ writes_of x) (sym is) in
    record {
      fields = applied ∙ ap (λ S. after S (writes_of e)) h.fields ∙ after-append R (all_writes (take i edits)) (writes_of e) ∙ ap (after R) (sym more);
      legal = All-same IsLegal _ _ more (All-append IsLegal (all_writes (take i edits)) (writes_of e) h.legal legal);
    }

-- If all edits are applied, then the result has all their writes, and they are legal.
pub applied_all : {R : Record} {edits : List Edit} {i : ℕ} {b : Record} → HasApplied R edits i b → length edits ≤ i
    → (b ≡ after R (all_writes edits)) × All IsLegal (all_writes edits)
applied_all {R} {edits} {i} {b} h end = search (rules, take_all, All-same)

-- The fields of an edited word are the fields of the word, filled, written in order and trimmed.
module _ (w : ℕ) (L : List Write) (legal : All IsLegal L) where
  bytes : HasBytes (after (fill (raw w)) L)
  bytes = HasBytes-after (fill (raw w)) L (HasBytes-fill (raw w) (HasBytes-raw w)) legal

  pub edited-fields : raw (edited w L) ≡ trim (after (fill (raw w)) L)
  edited-fields = raw-pack _ bytes

  pub edited-clean : IsClean (edited w L)
  edited-clean = pack-clean _ bytes

  pub edited-fits : edited w L < 2 ^ 128
  edited-fits = pack-lt _ bytes

  -- No other clean word has the fields of an edited word.
  pub edited-only : (u : ℕ) → u < 2 ^ 128 → IsClean u → raw u ≡ trim (after (fill (raw w)) L) → u ≡ edited w L
  edited-only u fits clean same = raw-injective u (edited w L) fits edited-fits clean edited-clean (same ∙ sym edited-fields)

-- If two lists of writes give each field the same last value, then they give the same edited word.
pub edited-same : (w : ℕ) (K L : List Write) → SameWrites K L → edited w K ≡ edited w L
edited-same w K L same = ap pack (after-same (fill (raw w)) K L same)
