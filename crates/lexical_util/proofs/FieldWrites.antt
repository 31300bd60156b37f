-- Lemmas that the field writes of a record give this record, and that only the writes that change the start are needed.
use Rattle.std.proofs.Common.{rules, ◌≡◌, Bool, true, false, not, if◌then◌else◌, arith, List, [], ◌∷◌, map, Option, Some, None, unwrap_or, filter, filter_map}
use Rattle.std.proofs.Common.{refl, sym, ap, ◌∙◌, All}
use Rattle.std.specs.List.{cons_option, last_or}
use Rattle.std.proofs.Math.Bool.{beq}
use Rattle.std.proofs.lemmas.Bool.Decides.{nat_tests}
use Rattle.std.proofs.lemmas.List.Elements.{All-append, All-map}
use Rattle.lexical_flags.specs.Layout.{Flag, Byte, flags, bytes}
use Rattle.lexical_flags.specs.Layout as layout
use Rattle.lexical_flags.specs.Record.{Record, HasBytes}
use Rattle.lexical_builder.specs.Writes.{Write, write_flag, write_byte, IsLegal, flag_written, byte_written, after, changes}
use Rattle.lexical_util.proofs.Lower.{record_same, left_by}
use Rattle.lexical_util.specs.Listing.{field_writes}

-- Writing all fields of `r` into any record gives `r`.
pub after-field_writes : (s r : Record) → after s (field_writes r) ≡ r
unfolding after
after-field_writes s r = search (rules, record_same, left_by)

-- If `P` holds for the write of each flag and each byte, then it holds for all field writes of a record.
pub All-field_writes : (P : Write → Type 0) (r : Record) → ((f : Flag) → P (write_flag f (r.flag f)))
    → ((b : Byte) → P (write_byte b (r.byte b))) → All P (field_writes r)
All-field_writes P r on_flag on_byte = All-append P (map (λ f. write_flag f (r.flag f)) flags) (map (λ b. write_byte b (r.byte b)) bytes)
    (All-map P (λ f. write_flag f (r.flag f)) flags (λ k d l. on_flag _)) (All-map P (λ b. write_byte b (r.byte b)) bytes (λ k d l. on_byte _))

-- If the bytes of a record fit, then its field writes are legal.
pub legal-field_writes : (r : Record) → HasBytes r → All IsLegal (field_writes r)
legal-field_writes r h = All-field_writes IsLegal r (λ f. tt) h.each

-- `only t o` is the option `o` if `t` is true, and `None` otherwise.
abbrev only : {T : Type 0} → Bool → Option T → Option T
only t None = None
only t (Some v) = if t then Some v else None

only_true : {T : Type 0} (o : Option T) → only true o ≡ o
only_true o = grind arith

only_false : {T : Type 0} (o : Option T) → only false o ≡ None
only_false o = grind arith

-- What the writes that pass a test write is what each write writes, only if it passes.
filter_map-filter : {T : Type 0} (h : Write → Option T) (p : Write → Bool) (writes : List Write)
    → filter_map h (filter p writes) ≡ filter_map (λ x. only (p x) (h x)) writes
filter_map-filter h p [] = refl
filter_map-filter h p (x ∷ writes) = first (p x) ∙ ap (cons_option (only (p x) (h x))) (filter_map-filter h p writes) where
  first : (t : Bool) → filter_map h (if t then x ∷ filter p writes else filter p writes) ≡ cons_option (only t (h x)) (filter_map h (filter p writes))
  first true = ap (λ o. cons_option o (filter_map h (filter p writes))) (sym (only_true (h x)))
  first false = ap (λ o. cons_option o (filter_map h (filter p writes))) (sym (only_false (h x)))

last_of_one : {T : Type 0} (t : Bool) (v d : T) → unwrap_or (last_or None (cons_option (if t then Some v else None) [])) d ≡ (if t then v else d)
last_of_one t v d = grind arith

-- After the field writes of `r` that pass a test, each field has its value in `r` if its write passes.
module _ (p : Write → Bool) (s r : Record) where
  flag_passed : (f : Flag) → left_by (λ x. flag_written x f) (filter p (field_writes r)) (s.flag f)
      ≡ (if p (write_flag f (r.flag f)) then r.flag f else s.flag f)
  flag_passed f = ap (λ vs. unwrap_or (last_or None vs) (s.flag f)) (filter_map-filter (λ x. flag_written x f) p (field_writes r)) ∙ own f where
    own : (f : Flag) → unwrap_or (last_or None (filter_map (λ x. only (p x) (flag_written x f)) (field_writes r))) (s.flag f)
        ≡ (if p (write_flag f (r.flag f)) then r.flag f else s.flag f)
    own layout.required_integer_digits = last_of_one (p (write_flag layout.required_integer_digits (r.flag layout.required_integer_digits))) _ _
    own f = last_of_one (p (write_flag f (r.flag f))) (r.flag f) (s.flag f)

  byte_passed : (b : Byte) → left_by (λ x. byte_written x b) (filter p (field_writes r)) (s.byte b)
      ≡ (if p (write_byte b (r.byte b)) then r.byte b else s.byte b)
  byte_passed b = ap (λ vs. unwrap_or (last_or None vs) (s.byte b)) (filter_map-filter (λ x. byte_written x b) p (field_writes r)) ∙ own b where
    own : (b : Byte) → unwrap_or (last_or None (filter_map (λ x. only (p x) (byte_written x b)) (field_writes r))) (s.byte b)
        ≡ (if p (write_byte b (r.byte b)) then r.byte b else s.byte b)
    own layout.digit_separator = last_of_one (p (write_byte layout.digit_separator (r.byte layout.digit_separator))) _ _
    own b = last_of_one (p (write_byte b (r.byte b))) (r.byte b) (s.byte b)

same_either_way : {T : Type 0} (t : Bool) (v : T) → (if t then v else v) ≡ v
same_either_way t v = grind arith

-- Writing some of its own field writes into a record changes nothing.
pub after-own : (p : Write → Bool) (r : Record) → after r (filter p (field_writes r)) ≡ r
unfolding after
after-own p r = record_same _ _ (λ f. flag_passed p r r f ∙ same_either_way _ (r.flag f)) (λ b. byte_passed p r r b ∙ same_either_way _ (r.byte b))

-- The field writes of `r` that change `s` suffice to turn `s` into `r`.
pub after-changes : (s r : Record) → after s (filter (changes s) (field_writes r)) ≡ r
unfolding after
after-changes s r = record_same _ _ (λ f. flag_passed (changes s) s r f ∙ new_flag (s.flag f) (r.flag f))
    (λ b. byte_passed (changes s) s r b ∙ grind (arith, nat_tests)) where
      new_flag : (old new : Bool) → (if not (beq old new) then new else old) ≡ new
      new_flag old new = grind arith
