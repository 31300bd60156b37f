-- Lemmas on packing a record, and on the record of a word.
use Rattle.std.proofs.Common.{rules, length, ◌++◌, map}
use Rattle.lexical_flags.proofs.Common.{ℕ, ◌≡◌, ◌+◌, ◌*◌, ◌/◌, ◌%◌, ◌^◌, ◌<◌, ◌==◌, ◌⊎◌, ◌↔◌, Bool, ◌-◌, IsTrue, if◌then◌else◌, List, [], ◌∷◌, sum_by, refl, ap}
use Rattle.lexical_flags.proofs.Common.{sym, ◌∙◌, subst, arith, mod-eq_of_lt, mod-lt, pow_pos, nat_tests, part, Flag, Byte, bit, flags, shift, IsClean, Record}
use Rattle.lexical_flags.proofs.Common.{raw, fill, trim, separator_allowed, HasBytes}
use Rattle.lexical_flags.specs.Layout.{bytes, base_flags, digit_separator_flags}
use Rattle.lexical_flags.specs.Record.{pack, record_of, word_from, word_of, byte_bits, IsBuilt}
use Rattle.lexical_flags.specs.Layout as layout
use Rattle.lexical_flags.proofs.RecordLemmas.{record_same}
use Rattle.lexical_flags.proofs.Segments.{joined, segments, segments-joined, joined-segments, joined-below, Fit}

-- `low` is the number of flags below the digit separator flags, and `high` the number of digit separator flags.
abbrev pub low : ℕ
low = length base_flags

abbrev pub high : ℕ
high = length digit_separator_flags

-- `widths` lists the widths of the segments of a word from the lowest up, including the three reserved segments.
abbrev widths : List ℕ
widths = map (λ _. 1) base_flags ++ (32 - low) ∷ (map (λ _. 1) digit_separator_flags ++ (32 - high) ∷
    8 ∷ 16 ∷ 8 ∷ 8 ∷ 8 ∷ 8 ∷ 8 ∷ [])

-- `laid flag byte low middle high` lists the values of all segments: flags, bytes, and the three reserved segments.
abbrev laid : (Flag → ℕ) → (Byte → ℕ) → ℕ → ℕ → ℕ → List ℕ
laid flag byte low middle high = map flag base_flags ++ low ∷ (map flag digit_separator_flags ++ middle ∷ byte layout.digit_separator ∷ high
    ∷ byte layout.base_prefix ∷ byte layout.base_suffix ∷ byte layout.mantissa_radix
    ∷ byte layout.exponent_base ∷ byte layout.exponent_radix ∷ [])

-- `value_at k s widths vs` is the value of the segment that starts at bit k, if the first segment starts at bit s.
abbrev value_at : ℕ → ℕ → List ℕ → List ℕ → ℕ
value_at k s [] vs = 0
value_at k s (n ∷ ns) [] = 0
value_at k s (n ∷ ns) (v ∷ vs) = if s == k then v else value_at k (s + n) ns vs

-- `bit_value b` is the truth value `b` as a bit.
abbrev pub bit_value : Bool → ℕ
bit_value b = if b then 1 else 0

-- `values r` lists the values of the segments of `r`, with 0 in the reserved segments.
abbrev values : Record → List ℕ
values r = laid (λ f. bit_value (r.flag f)) r.byte 0 0 0

-- `from_values vs` is the record with the values `vs`.
abbrev from_values : List ℕ → Record
from_values vs = record { flag = λ f. value_at (bit f) 0 widths vs == 1; byte = λ b. value_at (shift b) 0 widths vs }

bit_value-one : (b : Bool) → (bit_value b == 1) ≡ b
bit_value-one b = grind arith

from_values-values : (r : Record) → from_values (values r) ≡ r
from_values-values r = record_same _ _ on_flag on_byte where
  on_flag : (f : Flag) → (value_at (bit f) 0 widths (values r) == 1) ≡ r.flag f
  on_flag layout.required_integer_digits = bit_value-one (r.flag layout.required_integer_digits)
  on_flag f = bit_value-one (r.flag f)

  on_byte : (b : Byte) → value_at (shift b) 0 widths (values r) ≡ r.byte b
  on_byte layout.digit_separator = refl
  on_byte _ = refl

-- The record of a word is the record of the values of its segments.
raw-segments : (w : ℕ) → raw w ≡ from_values (segments 0 widths w)
raw-segments w = record_same _ _ on_flag on_byte where
  on_flag : (f : Flag) → (part w (bit f) 1 == 1) ≡ (value_at (bit f) 0 widths (segments 0 widths w) == 1)
  on_flag layout.required_integer_digits = refl
  on_flag _ = refl

  on_byte : (b : Byte) → part w (shift b) 8 ≡ value_at (shift b) 0 widths (segments 0 widths w)
  on_byte layout.digit_separator = refl
  on_byte _ = refl

-- The value that a flag adds to a word is its bit times a power of two.
pub flag_bits-value : (b : Bool) (k : ℕ) → (if b then 2 ^ k else 0) ≡ bit_value b * 2 ^ k
flag_bits-value b k = grind arith

word_of-joined : (r : Record) → word_of r ≡ joined 0 widths (values r)
unfolding word_of
word_of-joined r = (λ i. sum_by (λ f. flag_bits-value (r.flag f) (bit f) i) flags + sum_by (byte_bits r) bytes) ∙ omega arith

-- A bit is 0 or 1.
pub bit_value-lt : (b : Bool) → bit_value b < 2
bit_value-lt b = grind arith

values-fit : (r : Record) → HasBytes r → Fit widths (values r)
values-fit r h = let byte = h.each in search (arith, bit_value-lt, byte)

-- The segments of the word of a record have the values of the record.
segments-word_of : (r : Record) → HasBytes r → segments 0 widths (word_of r) ≡ values r
segments-word_of r h = ap (segments 0 widths) (word_of-joined r ∙ omega arith) ∙ segments-joined 0 widths (values r) 0 (omega arith) (values-fit r h)

-- The record of the word of a record is that record.
pub raw-word_of : (r : Record) → HasBytes r → raw (word_of r) ≡ r
raw-word_of r h = raw-segments (word_of r) ∙ ap from_values (segments-word_of r h) ∙ from_values-values r

word_of-clean : (r : Record) → HasBytes r → IsClean (word_of r)
word_of-clean r h =
    let at : (k : ℕ) → value_at k 0 widths (segments 0 widths (word_of r)) ≡ value_at k 0 widths (values r) =
    λ k. ap (value_at k 0 widths) (segments-word_of r h) in
    record { below_separator_flags = at low; below_separator = at (32 + high); below_prefix = at 72 }

word_of-lt : (r : Record) → HasBytes r → word_of r < 2 ^ 128
word_of-lt r h = omega (arith, word_of-joined r, joined-below 0 widths (values r) 0 (omega arith) (values-fit r h))

-- A number below 2 is the bit of the test whether it is 1.
bit_value-test : (n : ℕ) → n < 2 → bit_value (n == 1) ≡ n
bit_value-test n l = grind (arith, nat_tests)

values-raw : (w : ℕ) → IsClean w → values (raw w) ≡ segments 0 widths w
values-raw w clean = λ i. laid (λ f. bit_value-test (part w (bit f) 1) (mod-lt _ (pow_pos 1)) i) (λ b. part w (shift b) 8)
    (sym clean.below_separator_flags i) (sym clean.below_separator i) (sym clean.below_prefix i)

word_of-raw : (w : ℕ) → w < 2 ^ 128 → IsClean w → word_of (raw w) ≡ w
word_of-raw w l clean = word_of-joined (raw w) ∙ ap (joined 0 widths) (values-raw w clean) ∙ omega (arith, joined-segments 0 widths w, mod-eq_of_lt l)

-- The record of every word has bytes.
pub HasBytes-raw : (w : ℕ) → HasBytes (raw w)
HasBytes-raw w = record { each = λ b. mod-lt _ (pow_pos 8) }

-- If a record has bytes, then so does the filled record.
pub HasBytes-fill : (r : Record) → HasBytes r → HasBytes (fill r)
HasBytes-fill r h = let each = h.each in record { each = λ b. grind (arith, nat_tests) }

-- If a record has bytes, then so does the trimmed record.
pub HasBytes-trim : (r : Record) → HasBytes r → HasBytes (trim r)
HasBytes-trim r h = let each = h.each in record { each = λ b. grind (arith, nat_tests) }

-- The record of a packed record is the trimmed record.
pub raw-pack : (r : Record) → HasBytes r → raw (pack r) ≡ trim r
raw-pack r h = raw-word_of (trim r) (HasBytes-trim r h)

-- A packed record has no reserved bit set.
pub pack-clean : (r : Record) → HasBytes r → IsClean (pack r)
pack-clean r h = word_of-clean (trim r) (HasBytes-trim r h)

-- A packed record is below 2^128.
pub pack-lt : (r : Record) → HasBytes r → pack r < 2 ^ 128
pack-lt r h = word_of-lt (trim r) (HasBytes-trim r h)

-- If a separator is allowed or absent, then trimming does not change it.
pub kept_same : (b : Bool) (n : ℕ) → IsTrue b ⊎ (n ≡ 0) → (if b then n else 0) ≡ n
kept_same b n h = grind arith

-- If the separator is allowed or absent, then trimming changes nothing.
pub trim-same : (r : Record) → IsTrue (separator_allowed r) ⊎ (r.byte layout.digit_separator ≡ 0) → trim r ≡ r
trim-same r h = record_same _ _ (λ f. refl) (λ b. let kept = kept_same (separator_allowed r) (r.byte layout.digit_separator) h in grind arith)

-- If trimming does not change a separator, then it is allowed or absent.
pub trimmed_unused : (b : Bool) (n : ℕ) → n ≡ (if b then n else 0) → IsTrue b ⊎ (n ≡ 0)
trimmed_unused b n e = grind arith

-- Packing the fields of a word results in the word if and only if the word is built.
pub pack-raw : (w : ℕ) → w < 2 ^ 128 → (pack (raw w) ≡ w) ↔ IsBuilt w
pack-raw w l = (
  λ e.
      let trimmed : raw w ≡ trim (raw w) = ap raw (sym e) ∙ raw-pack (raw w) (HasBytes-raw w) in
      record {
        clean = subst IsClean e (pack-clean (raw w) (HasBytes-raw w));
        separator_used = trimmed_unused (separator_allowed (raw w)) ((raw w).byte layout.digit_separator)
            (ap (λ (r : Record). r.byte layout.digit_separator) trimmed);
      },
  λ built. ap word_of (trim-same (raw w) built.separator_used) ∙ word_of-raw w l built.clean,
)

-- Two clean words with the same fields are equal.
pub raw-injective : (v w : ℕ) → v < 2 ^ 128 → w < 2 ^ 128 → IsClean v → IsClean w → raw v ≡ raw w → v ≡ w
raw-injective v w fits fits' clean clean' same = sym (word_of-raw v fits clean) ∙ ap word_of same ∙ word_of-raw w fits' clean'

-- Two records have the same packed word if and only if they are equal after trimming.
pub pack-injective : (r s : Record) → HasBytes r → HasBytes s → (pack s ≡ pack r) ↔ (trim s ≡ trim r)
pack-injective r s h k = (λ e. sym (raw-pack s k) ∙ ap raw e ∙ raw-pack r h, λ e. ap word_of e)

low_bit : (w : ℕ) → (f : Flag) → w % 2 ^ 64 / 2 ^ bit f % 2 ≡ w / 2 ^ bit f % 2
low_bit w layout.required_integer_digits = omega arith
low_bit w _ = omega arith

-- The flags of a word are in its lower 64 bits.
pub low_flag : (w : ℕ) → (f : Flag) → (raw (w % 2 ^ 64)).flag f ≡ (raw w).flag f
low_flag w f = ap (λ n. n == 1) (low_bit w f)

-- The lower half of the word with the lower half `flags` is `flags`.
pub low-half : (flags : ℕ) (byte : Byte → ℕ) → flags < 2 ^ 64 → word_from flags byte % 2 ^ 64 ≡ flags
low-half flags byte fits = omega (arith, fits)

-- The record of the word with these flags and bytes has them.
pub raw-fields : (flags : ℕ) (byte : Byte → ℕ) → flags < 2 ^ 64 → ((b : Byte) → byte b < 2 ^ 8) → raw (word_from flags byte) ≡ record_of flags byte
raw-fields flags byte fits small = search (rules, flags, record_same, low_flag, low-half, shift)

-- The word with the lower half and the bytes of a word is that word, if the reserved bits between its bytes are 0.
pub word-fields : (w : ℕ) → w < 2 ^ 128 → part w 72 16 ≡ 0 → word_from (w % 2 ^ 64) (raw w).byte ≡ w
word-fields w fits clean = omega (arith, fits, clean)
