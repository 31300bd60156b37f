-- Lemmas that a mask and a shift read a part of a word.
use Rattle.lexical_flags.proofs.Common.{ℕ, ◌≡◌, ◌-◌, ◌*◌, ◌/◌, ◌%◌, ◌^◌, ◌==◌, sum_by, bit_and, ap, ◌∙◌, and_mask, part, shift}
use Rattle.std.specs.List.{filter}
use Rattle.lexical_flags.specs.Layout.{bytes}
use Rattle.std.proofs.lemmas.Nat.{and_shr, shl-shr}

-- A mask of n bits from bit s up and a shift by s read the n bits of a word from bit s up.
pub masked_part : (word s n : ℕ) → bit_and word ((2 ^ n - 1) * 2 ^ s) / 2 ^ s ≡ part word s n
masked_part word s n = and_shr word ((2 ^ n - 1) * 2 ^ s) s ∙ ap (λ mask. bit_and (word / 2 ^ s) mask) (shl-shr (2 ^ n - 1) s) ∙ and_mask (word / 2 ^ s) n

-- `start unit` is the lowest bit of the byte that begins at the power of two `unit`.
abbrev pub start : ℕ → ℕ
start unit = sum_by shift (filter (λ b. 2 ^ shift b == unit) bytes)

-- Each byte of a word is read by its mask and its shift, as the code writes them.
pub byte_by_mask : (word mask unit : ℕ) → 2 ^ start unit ≡ unit → 255 * unit ≡ mask → bit_and word mask / unit ≡ word / unit % 256
byte_by_mask word mask unit is same = rw (← same, ← is) (masked_part word (start unit) 8)
