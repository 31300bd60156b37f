-- Leading digits and an exponent, in radixes that are powers of two, as a whole number times a power of two.
use Rattle.std.proofs.Common.{rules}
use Rattle.lexical_number.proofs.Common.{Bool, Format, IsNearestBits, Leads, ap, arith, hid, if◌then◌else◌, le_of_eq, le_trans, lit≤, mul-le-mul}
use Rattle.lexical_number.proofs.Common.{mul-le-mul_right, nearest_of_huge, nearest_of_tiny, ones, pow-add, pow-suc, pow_mono, pow_pos, raised_down, raised_up}
use Rattle.lexical_number.proofs.Common.{suc, sym, zero, ℕ, ◌*◌, ◌+◌, ◌^◌, ◌∙◌, ◌≡◌, ◌≤◌}
use native.Mathlib.Nat.{pow-zero}

-- A power of a power.
pub pow_of : (b a n : ℕ) → (b ^ a) ^ n ≡ b ^ (n * a)
pow_of b a zero = pow-zero (b ^ a) ∙ sym (ap (λ x. b ^ x) {x = 0 * a} {y = 0} (omega arith) ∙ pow-zero b)
pow_of b a (suc n) = search (rules, pow_of b a n, pow-zero, pow-suc, pow-add)

-- What holds of powers of two holds of powers of the radixes.
pub in_radixes : (P : ℕ → ℕ → Type 0) (n bits places base e : ℕ) (negative : Bool)
    → P (n * 2 ^ (if negative then 0 else e * base)) (2 ^ (places * bits + (if negative then e * base else 0)))
    → P (n * raised_up negative (2 ^ base) e) ((2 ^ bits) ^ places * raised_down negative (2 ^ base) e)
in_radixes P n bits places base e negative = search (rules, raised_up, raised_down, pow-add, pow_of)

-- A number is not larger than its leading digits allow.
pub bound : {n digits : ℕ} {more : Bool} (bits dropped : ℕ) → bits ≤ 5 → Leads (2 ^ bits) n digits more dropped → n ≤ 2 ^ (96 + dropped * bits)
bound {digits = digits} bits dropped C l =
    let radix : 2 ^ bits ≤ 2 ^ 5 = pow_mono {i = bits} {j = 5} C in
    let front : digits + 1 ≤ 2 ^ 96 = omega (arith, l.small) in
    le_trans (omega (arith, l.cut.below)) (le_trans (mul-le-mul front (le_of_eq (pow_of 2 bits dropped))) (le_of_eq (sym (pow-add 2 96 (dropped * bits)))))

-- Where the exponent is large enough, nothing else counts.
pub vanishes : (f : Format) (n x p q : ℕ) → n ≤ 2 ^ x → p ≡ 0 → x + 1140 ≤ q → IsNearestBits f (n * 2 ^ p) (2 ^ q) 0
vanishes f n x p q N none far =
    let ten : 10 ^ 343 ≤ 2 ^ 1140 = lit≤ tt in
    let one : n * 2 ^ p ≡ n = ap (λ p. n * 2 ^ p) none ∙ omega arith in
    let top : n * 10 ^ 343 ≤ 2 ^ q = le_trans (mul-le-mul N ten) (le_trans (le_of_eq (sym (pow-add 2 x 1140))) (pow_mono far)) in
    nearest_of_tiny f (n * 2 ^ p) (2 ^ q) (pow_pos q) (omega (arith, ap (λ m. m * 10 ^ 343) one, top))

pub explodes : (f : Format) (n p q : ℕ) → 1 ≤ n → 1027 + q ≤ p → IsNearestBits f (n * 2 ^ p) (2 ^ q) (ones f * hid f)
explodes f n p q N far =
    let ten : 10 ^ 309 ≤ 2 ^ 1027 = lit≤ tt in
    let top : 10 ^ 309 * 2 ^ q ≤ 2 ^ p = le_trans (mul-le-mul_right (2 ^ q) ten) (le_trans (le_of_eq (sym (pow-add 2 1027 q))) (pow_mono far)) in
    let more : 1 * 2 ^ p ≤ n * 2 ^ p = mul-le-mul_right (2 ^ p) N in
    nearest_of_huge f (n * 2 ^ p) (2 ^ q) (pow_pos q) (omega (arith, top, more))
