-- Lemmas on the record after writes. Two lists of writes one after another have the effect of one joined list.
use Rattle.lexical_builder.proofs.Common.{subst, ◌≡◌, ℕ, ◌<◌, ◌==◌, [], ◌∷◌, refl, sym, ap, ◌∙◌, arith, nat_tests, Bool, true, false, if◌then◌else◌, Flag, Byte}
use Rattle.lexical_builder.proofs.Common.{part, bit, flags, Record, HasBytes, record_same, flags_with, write_flags}
use Rattle.std.proofs.Common.{rules, List, ◌++◌, Option, Some, None, unwrap_or, filter_map, All, ◌⊎◌, ◌&&◌, ◌||◌, filter}
use Rattle.std.proofs.lemmas.List.Elements.{All-head, All-tail}
use Rattle.std.proofs.Math.Bool.{or-false}
use Rattle.std.specs.List.{last_or, cons_option, list_any}
use Rattle.lexical_builder.specs.Writes.{Write, write_flag, IsLegal, new_record, flag_written, byte_written, after, SameWrites, last_flag, last_byte}
use Rattle.lexical_builder.specs.BuilderBits.{builder_record_of_parts}
use Rattle.lexical_flags.specs.Layout as layout

-- `left_by h writes d` is the value of a field after `writes`, if the value was `d` and `h` is the value that one write
-- writes to the field.
abbrev pub left_by : {T : Type 0} → (Write → Option T) → List Write → T → T
left_by h writes d = unwrap_or (last_or None (filter_map h writes)) d

last_or-some : {T : Type 0} (v d : T) (xs : List T) → unwrap_or (last_or (Some v) xs) d ≡ unwrap_or (last_or None xs) v
last_or-some v d [] = refl
last_or-some v d (x ∷ xs) = last_or-some x d xs ∙ sym (last_or-some x v xs)

last_or-cons : {T : Type 0} (o : Option T) (d : T) (xs : List T) → unwrap_or (last_or None (cons_option o xs)) d ≡ unwrap_or (last_or None xs) (unwrap_or o d)
last_or-cons o d xs = search (rules, last_or-some)

-- The value after a list of writes is the value after the rest, starting from the value after the first write.
pub left_by-cons : {T : Type 0} (h : Write → Option T) (x : Write) (writes : List Write) (d : T)
    → left_by h (x ∷ writes) d ≡ left_by h writes (unwrap_or (h x) d)
left_by-cons h x writes d = last_or-cons (h x) d (filter_map h writes)

-- The value after two lists of writes is the value after the second, starting from the value after the first.
left_by-append : {T : Type 0} (h : Write → Option T) (first second : List Write) (d : T) → left_by h (first ++ second) d ≡ left_by h second (left_by h first d)
left_by-append h [] second d = refl
left_by-append h (x ∷ first) second d = search (rules, left_by-append h first second (unwrap_or (h x) d), left_by-cons, unwrap_or)

-- If the first of two lists of writes does not write a field, then the field has the same value after the lists in either
-- order.
left_by-swap : {T : Type 0} (h : Write → Option T) (first second : List Write) (d : T)
    → last_or None (filter_map h first) ≡ None → left_by h (first ++ second) d ≡ left_by h (second ++ first) d
left_by-swap h first second d none = search (rules, left_by-append, unwrap_or)

-- If one of two lists of writes does not write a field, then the field has the same value after the lists in either order.
left_by-order : {T : Type 0} (h : Write → Option T) (first second : List Write) (d : T)
    → (last_or None (filter_map h first) ≡ None) ⊎ (last_or None (filter_map h second) ≡ None) → left_by h (first ++ second) d ≡ left_by h (second ++ first) d
left_by-order h first second d given = search (rules, left_by-swap)

-- If the flags that pass a test are written, a flag has the new value if it is one of them, and is unchanged otherwise.
written : (p : Flag → Bool) (value : Bool) (f : Flag) (d : Bool) (fs : List Flag) → left_by (λ x. flag_written x f) (write_flags (filter p fs) value) d
    ≡ (if list_any (λ g. (bit g == bit f) && p g) fs then value else d)
written p value f d [] = refl
written p value f d (g ∷ fs) = on_first (p g) (filter p fs) ∙ written p value f (if p g then unwrap_or (flag_written (write_flag g value) f) d else d) fs
    ∙ picked (bit g == bit f) (p g) (list_any (λ g. (bit g == bit f) && p g) fs) where
      on_first : (c : Bool) (gs : List Flag) → left_by (λ x. flag_written x f) (write_flags (if c then g ∷ gs else gs) value) d
          ≡ left_by (λ x. flag_written x f) (write_flags gs value) (if c then unwrap_or (flag_written (write_flag g value) f) d else d)
      on_first true gs = left_by-cons (λ x. flag_written x f) (write_flag g value) (write_flags gs value) d
      on_first false gs = refl

      picked : (e c rest : Bool) → (if rest then value else if c then unwrap_or (if e then Some value else None) d else d)
          ≡ (if (e && c) || rest then value else d)
      picked e c rest = grind arith

-- If the flags in a mask are written, they have the new value, and all other flags are unchanged.
pub after-mask : (r : Record) (mask : ℕ) (value : Bool) (f : Flag) → (after r (write_flags (flags_with mask) value)).flag f
    ≡ (if part mask (bit f) 1 == 1 then value else r.flag f)
unfolding after
after-mask r mask value f = written (λ g. part mask (bit g) 1 == 1) value f (r.flag f) flags ∙ ap (λ b. if b then value else r.flag f) (in_mask f) where
  in_mask : (f : Flag) → list_any (λ g. (bit g == bit f) && (part mask (bit g) 1 == 1)) flags ≡ (part mask (bit f) 1 == 1)
  in_mask layout.required_integer_digits = or-false _
  in_mask _ = or-false _

-- Writing flags changes no byte.
pub after-mask_byte : (r : Record) (fs : List Flag) (value : Bool) (b : Byte) → (after r (write_flags fs value)).byte b ≡ r.byte b
unfolding after
after-mask_byte r fs value b = ap (λ o. unwrap_or o (r.byte b)) (none fs) where
  none : (fs : List Flag) → last_byte (write_flags fs value) b ≡ None
  none [] = refl
  none (f ∷ fs) = none fs

-- The record of these flags and bytes is the record of a new builder.
pub new_parts : builder_record_of_parts 0xC (0 ∷ 0 ∷ 0 ∷ 10 ∷ 0 ∷ 0 ∷ []) ≡ new_record
new_parts = grind (arith, nat_tests)

-- The empty list of writes changes nothing.
pub after_none : (r : Record) → after r [] ≡ r
unfolding after
after_none r = refl

-- Two lists of writes one after another have the effect of one joined list.
pub after-append : (r : Record) (first second : List Write) → after (after r first) second ≡ after r (first ++ second)
unfolding after
after-append r first second = search (rules, record_same, left_by-append)

-- If no field is written by both of two lists of writes, then they can be in either order.
pub after-order : (r : Record) (first second : List Write) → ((f : Flag) → (last_flag first f ≡ None) ⊎ (last_flag second f ≡ None))
    → ((b : Byte) → (last_byte first b ≡ None) ⊎ (last_byte second b ≡ None)) → after r (first ++ second) ≡ after r (second ++ first)
unfolding after
after-order r first second flags bytes = search (rules, flags, record_same, left_by-order)

-- If two lists write the same fields, each with the same last value, then they have the same effect.
pub after-same : (r : Record) (writes others : List Write) → SameWrites writes others → after r writes ≡ after r others
unfolding after
after-same r writes others same = grind (arith, nat_tests)

byte_written-fits : (x : Write) (b : Byte) (d : ℕ) → IsLegal x → d < 256 → unwrap_or (byte_written x b) d < 256
byte_written-fits x b d legal fits = grind (arith, nat_tests)

left_by-fits : (writes : List Write) (b : Byte) (d : ℕ) → All IsLegal writes → d < 256 → left_by (λ x. byte_written x b) writes d < 256
left_by-fits [] b d legal fits = fits
left_by-fits (x ∷ writes) b d legal fits = subst (λ n. n < 256) (sym (left_by-cons (λ y. byte_written y b) x writes d))
    (left_by-fits writes b (unwrap_or (byte_written x b) d) (All-tail IsLegal x writes legal) (byte_written-fits x b d (All-head IsLegal x writes legal) fits))

-- If a record has bytes, then it has bytes after legal writes.
pub HasBytes-after : (r : Record) (writes : List Write) → HasBytes r → All IsLegal writes → HasBytes (after r writes)
unfolding after
HasBytes-after r writes bytes legal = record { each = λ b. left_by-fits writes b (r.byte b) legal (bytes.each b) }

-- The record of a new builder has bytes.
pub HasBytes-new : HasBytes new_record
HasBytes-new = record { each = λ b. grind arith }
