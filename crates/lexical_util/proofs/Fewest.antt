-- Lemmas that a list of legal writes that builds a word has at least as many writes as the word needs.
use Rattle.std.proofs.Common.{rules, ◌≡◌, ℕ, ◌+◌, ◌≤◌, ◌==◌, ◌||◌, Bool, true, false, not, cond, if◌then◌else◌, List, [], ◌∷◌, length, Option, unwrap_or}
use Rattle.std.proofs.Common.{is_some, refl, sym, ap, ◌∙◌, subst, count_by, arith, le_refl, eq-eqb, All}
use Rattle.std.specs.List.{list_any}
use Rattle.std.proofs.Math.Bool.{beq}
use Rattle.std.proofs.lemmas.Bool.{or_parts}
use Rattle.std.proofs.lemmas.List.Elements.{All-head, All-tail}
use Rattle.std.proofs.lemmas.List.Sums.{sum_by-cons, length-filter}
use Rattle.lexical_flags.specs.Layout.{Flag, Byte}
use Rattle.lexical_flags.specs.Layout as layout
use Rattle.lexical_flags.specs.Record.{Record, raw, trim, pack, separator_allowed}
use Rattle.lexical_builder.specs.Writes.{Write, write_flag, write_byte, IsLegal, new_record, flag_written, byte_written, after, changes}
use Rattle.lexical_util.proofs.Lower.{raw-pack, left_by, left_by-cons, HasBytes-after, HasBytes-new}
use Rattle.lexical_util.specs.Listing.{field_writes, needed_writes}
use Rattle.lexical_util.proofs.FieldWrites.{All-field_writes}

-- `overwrites x y` is true if the writes `x` and `y` are to the same field.
abbrev overwrites : Write → Write → Bool
overwrites x (write_flag f v) = is_some (flag_written x f)
overwrites x (write_byte b v) = is_some (byte_written x b)

-- `overwritten L y` is true if some write in `L` is to the same field as `y`.
abbrev overwritten : List Write → Write → Bool
overwritten L y = list_any (λ x. overwrites x y) L

-- A write overwrites exactly one of the field writes of a record.
overwrites_one : (x : Write) (r : Record) → count_by (overwrites x) (field_writes r) ≡ 1
overwrites_one x r = search rules

at_most_both : (p q : Bool) → cond (p || q) 1 0 ≤ cond p 1 0 + cond q 1 0
at_most_both p q = grind arith

count_either : (p q : Write → Bool) (ys : List Write) → count_by (λ y. p y || q y) ys ≤ count_by p ys + count_by q ys
count_either p q [] = omega arith
count_either p q (y ∷ ys) = omega (
  arith,
  sum_by-cons (λ z. cond (p z || q z) 1 0) y ys,
  sum_by-cons (λ z. cond (p z) 1 0) y ys,
  sum_by-cons (λ z. cond (q z) 1 0) y ys,
  at_most_both (p y) (q y),
  count_either p q ys,
)

-- A list of writes overwrites at most as many field writes as it has writes.
count_overwritten : (r : Record) (L : List Write) → count_by (overwritten L) (field_writes r) ≤ length L
count_overwritten r [] = le_refl 0
count_overwritten r (x ∷ L) =
    let both : count_by (overwritten (x ∷ L)) (field_writes r)
    ≤ count_by (overwrites x) (field_writes r) + count_by (overwritten L) (field_writes r) = count_either (overwrites x) (overwritten L) (field_writes r) in
    omega (arith, both, overwrites_one x r, count_overwritten r L)

count_fewer : (p q : Write → Bool) (ys : List Write) → All (λ y. cond (p y) 1 0 ≤ cond (q y) 1 0) ys → count_by p ys ≤ count_by q ys
count_fewer p q [] all = le_refl 0
count_fewer p q (y ∷ ys) all = omega (
  arith,
  sum_by-cons (λ z. cond (p z) 1 0) y ys,
  sum_by-cons (λ z. cond (q z) 1 0) y ys,
  All-head (λ y. cond (p y) 1 0 ≤ cond (q y) 1 0) y ys all,
  count_fewer p q ys (All-tail (λ y. cond (p y) 1 0 ≤ cond (q y) 1 0) y ys all),
)

none_or : {T : Type 0} (o : Option T) (d : T) → is_some o ≡ false → unwrap_or o d ≡ d
none_or o d none = grind arith

-- If no write is to a field, then the value of the field is the same.
untouched : {T : Type 0} (h : Write → Option T) (L : List Write) (d : T) → list_any (λ x. is_some (h x)) L ≡ false → left_by h L d ≡ d
untouched h [] d none = refl
untouched h (x ∷ L) d none =
    let parts = or_parts (is_some (h x)) (list_any (λ y. is_some (h y)) L) none in
    left_by-cons h x L d ∙ ap (left_by h L) (none_or (h x) d parts.0) ∙ untouched h L d parts.1

-- If a field has another value after some writes, then one of them is to the field.
touched : {T : Type 0} (h : Write → Option T) (L : List Write) (d : T) (differs : T → Bool) → differs d ≡ false
    → cond (differs (left_by h L d)) 1 0 ≤ cond (list_any (λ x. is_some (h x)) L) 1 0
touched h L d differs same = let same_value = untouched h L d in grind arith

beq-same : (v : Bool) → not (beq v v) ≡ false
beq-same v = grind arith

-- Writes that lead from a new record to a record are to all fields in which the trimmed record differs from a new one.
needed_overwritten : (L : List Write) → let r : Record = trim (after new_record L) in
    All (λ y. cond (changes new_record y) 1 0 ≤ cond (overwritten L y) 1 0) (field_writes r)
unfolding after
needed_overwritten L = All-field_writes (λ y. cond (changes new_record y) 1 0 ≤ cond (overwritten L y) 1 0) _ on_flag on_byte where
  on_flag : (f : Flag) → cond (not (beq (new_record.flag f) ((after new_record L).flag f))) 1 0
      ≤ cond (list_any (λ x. is_some (flag_written x f)) L) 1 0
  on_flag f = touched (λ x. flag_written x f) L (new_record.flag f) (λ v. not (beq (new_record.flag f) v)) (beq-same _)

  kept : (b : Byte) → cond (not (new_record.byte b == (after new_record L).byte b)) 1 0
      ≤ cond (list_any (λ x. is_some (byte_written x b)) L) 1 0
  kept b = touched (λ x. byte_written x b) L (new_record.byte b) (λ v. not (new_record.byte b == v)) (ap not (eq-eqb _ _ refl))

  separator : (on : Bool) → cond (not (0 == (if on then (after new_record L).byte layout.digit_separator else 0))) 1 0
      ≤ cond (list_any (λ x. is_some (byte_written x layout.digit_separator)) L) 1 0
  separator true = kept layout.digit_separator
  separator false = omega arith

  on_byte : (b : Byte) → cond (not (new_record.byte b == (trim (after new_record L)).byte b)) 1 0
      ≤ cond (list_any (λ x. is_some (byte_written x b)) L) 1 0
  on_byte layout.digit_separator = separator (separator_allowed (after new_record L))
  on_byte b = kept b

pub fewest_writes : (w : ℕ) (L : List Write) → All IsLegal L → pack (after new_record L) ≡ w → length (needed_writes (raw w)) ≤ length L
fewest_writes w L legal makes =
    let r : Record = trim (after new_record L) in
    let fields : r ≡ raw w = sym (raw-pack (after new_record L) (HasBytes-after new_record L HasBytes-new legal)) ∙ ap raw makes in
    subst (λ (r : Record). length (needed_writes r) ≤ length L) fields (omega (
      arith,
      length-filter (changes new_record) (field_writes r),
      count_fewer (changes new_record) (overwritten L) (field_writes r) (needed_overwritten L),
      count_overwritten r L,
    ))
