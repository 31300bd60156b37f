-- Lemmas on the flags of a word under a mask, and on the flags of a record joined by `|`.
use Rattle.std.proofs.Common.{rules}
use Rattle.lexical_flags.proofs.Common.{ℕ, ◌≡◌, ◌+◌, ◌*◌, ◌/◌, ◌%◌, ◌^◌, ◌<◌, ◌==◌, true, not, ◌||◌, List, [], ◌∷◌, sum_by, bit_and, refl, ap, sym, subst, ◌∙◌}
use Rattle.lexical_flags.proofs.Common.{arith, mod-lt, pow_pos, nat_tests, part, Flag, bit, flags, Record, raw, separator_allowed}
use Rattle.std.specs.List.{filter, list_any}
use Rattle.std.proofs.lemmas.List.Sums.{sum_by-cons}
use Rattle.std.proofs.lemmas.Nat.Bits.{and_pow}
use Rattle.lexical_flags.specs.Record.{word_of, flag_bits}
use Rattle.lexical_flags.specs.Additions.Masks.{mask_of}
use Rattle.lexical_flags.proofs.Packing.{high, bit_value, bit_value-lt, flag_bits-value, raw-word_of}
use Rattle.lexical_flags.proofs.Masks.{ascends, and_all, sum-below}

-- A bit times a power of two is 0 if and only if the bit is 0.
moved_bit-set : (n p : ℕ) → n < 2 → 0 < p → not (n * p == 0) ≡ (n == 1)
moved_bit-set n p small high = grind (arith, nat_tests)

-- The test of one flag, as the code writes it, is true if and only if its bit is 1.
pub flag_test : (word k : ℕ) → not (bit_and word (2 ^ k) == 0) ≡ (part word k 1 == 1)
flag_test word k = ap (λ n. not (n == 0)) (and_pow word k) ∙ moved_bit-set (part word k 1) (2 ^ k) (mod-lt _ (omega arith)) (pow_pos k)

-- `members mask` lists the flags in `mask`.
abbrev pub members : ℕ → List Flag
members mask = filter (λ f. not (bit_and mask (2 ^ bit f) == 0)) flags

-- If a mask that is written as a number has one flag, then the test by this mask is the test of that flag.
pub flag_by_mask : (word mask : ℕ) → 2 ^ sum_by bit (members mask) ≡ mask → not (bit_and word mask == 0) ≡ (word / mask % 2 == 1)
flag_by_mask word mask is = subst (λ m. not (bit_and word m == 0) ≡ (word / m % 2 == 1)) is (flag_test word (sum_by bit (members mask)))

-- If a flag mask is written as a number, then `&` with it is the sum of the bits of its flags in the word.
pub flags_under : (word mask : ℕ) → mask_of (members mask) ≡ mask → ascends bit 1 0 (members mask) ≡ true
    → bit_and word mask ≡ sum_by (λ f. part word (bit f) 1 * 2 ^ bit f) (members mask)
flags_under word mask is up = ap (bit_and word) (sym is) ∙ and_all bit (members mask) word up

-- `flag_tests` are the lemmas that the search needs for tests of flags.
pub ruleset flag_tests = (flags_under, nat_tests)

sum-set : (m n : ℕ) → not (m + n == 0) ≡ (not (m == 0) || not (n == 0))
sum-set m n = grind (arith, nat_tests)

-- The sum of the bits of some flags is not 0 if and only if one of the flags is set.
sum_by-set : (fs : List Flag) (word : ℕ) → not (sum_by (λ f. part word (bit f) 1 * 2 ^ bit f) fs == 0) ≡ list_any (raw word).flag fs
sum_by-set [] word = refl
sum_by-set (f ∷ fs) word = search (rules, sum_by-set fs word, bit, moved_bit-set, mod-lt, pow_pos, sum_by-cons, sum-set)

-- A word has a bit in common with the mask of some flags if and only if one of the flags is set.
pub mask_test : (fs : List Flag) (word : ℕ) → ascends bit 1 0 fs ≡ true → not (bit_and word (mask_of fs) == 0) ≡ list_any (raw word).flag fs
mask_test fs word up = ap (λ n. not (n == 0)) (and_all bit fs word up) ∙ sum_by-set fs word

-- The flags are below bit 64, where the bytes begin.
pub flags-lt : (r : Record) → sum_by (flag_bits r) flags < 2 ^ 64
flags-lt r = search (rules, bit_value, bit, flags, high, sum-below, bit_value-lt, sum_by, flag_bits-value)

-- `flags_only r` is `r` with 0 as each byte.
abbrev flags_only : Record → Record
flags_only r = record r { byte = λ b. 0 }

word_of-flags_only : (r : Record) → sum_by (flag_bits r) flags ≡ word_of (flags_only r)
unfolding word_of
word_of-flags_only r = omega arith

-- The word of the flags of a record allows a digit separator if and only if the record does.
pub separator_allowed-flags : (r : Record) → separator_allowed (raw (sum_by (flag_bits r) flags)) ≡ separator_allowed r
separator_allowed-flags r =
    ap (λ word. separator_allowed (raw word)) (word_of-flags_only r) ∙ ap separator_allowed (raw-word_of (flags_only r) (record { each = λ b. omega arith }))
