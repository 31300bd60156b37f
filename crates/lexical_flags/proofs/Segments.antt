-- Lemmas on a number as segments that are one above the other, given by their widths from the lowest up.
use Rattle.std.proofs.Common.{rules, add_assoc, add_comm}
use Rattle.lexical_flags.proofs.Common.{ℕ, ◌≡◌, ◌+◌, ◌*◌, ◌/◌, ◌%◌, ◌^◌, ◌<◌, List, [], ◌∷◌, refl, ap, sym, ◌∙◌, arith, mul-le-mul_left, pow-add, part}
use Rattle.std.proofs.lemmas.Nat.{shr_high, mod_low, mod-pow-add}

-- `joined s widths values` is the sum of the values, each times the power of two of its segment. The first segment
-- starts at bit s.
abbrev pub joined : ℕ → List ℕ → List ℕ → ℕ
joined s [] values = 0
joined s (n ∷ widths) [] = 0
joined s (n ∷ widths) (v ∷ values) = v * 2 ^ s + joined (s + n) widths values

-- `segments s widths w` lists the values of the segments of `w`.
abbrev pub segments : ℕ → List ℕ → ℕ → List ℕ
segments s [] w = []
segments s (n ∷ widths) w = part w s n ∷ segments (s + n) widths w

-- `top s widths` is the end of the last segment.
abbrev pub top : ℕ → List ℕ → ℕ
top s [] = s
top s (n ∷ widths) = top (s + n) widths

-- `Fit widths values` holds if each value fits its segment.
abbrev pub Fit : List ℕ → List ℕ → Type 0
Fit [] [] = Unit {0}
Fit [] (v ∷ values) = ⊥
Fit (n ∷ widths) [] = ⊥
Fit (n ∷ widths) (v ∷ values) = (v < 2 ^ n) × Fit widths values

-- The sum of values that are joined from bit s up is a multiple of 2 ^ s.
joined-multiple : (s : ℕ) (widths values : List ℕ) → (q : ℕ) × (joined s widths values ≡ q * 2 ^ s)
joined-multiple s [] values = (0, omega arith)
joined-multiple s (n ∷ widths) [] = (0, omega arith)
joined-multiple s (n ∷ widths) (v ∷ values) =
    let above = joined-multiple (s + n) widths values in
    (v + above.0 * 2 ^ n, rw (above.1, pow-add 2 s n) (omega arith))

-- A value between a number below its bits and a multiple above its bits is the part of the sum at its bits.
part_between : (s n v low q : ℕ) → low < 2 ^ s → v < 2 ^ n → part (low + (v * 2 ^ s + q * 2 ^ (s + n))) s n ≡ v
part_between s n v low q l fits =
    ap (λ x. part x s n) (rw (pow-add 2 s n) (omega arith)) ∙ ap (λ x. x % 2 ^ n) (shr_high (q * 2 ^ n + v) s low l) ∙ mod_low q n v fits

-- A number below a segment plus a value that fits the segment is below the next segment.
below_next : (s n v low : ℕ) → low < 2 ^ s → v < 2 ^ n → low + v * 2 ^ s < 2 ^ (s + n)
below_next s n v low l fits = search (rules, mul-le-mul_left, pow-add)

-- The segments of joined values are these values.
pub segments-joined : (s : ℕ) (widths values : List ℕ) (low : ℕ) → low < 2 ^ s → Fit widths values → segments s widths (low + joined s widths values) ≡ values
segments-joined s [] [] low l fit = refl
segments-joined s [] (v ∷ values) low l fit = absurd fit
segments-joined s (n ∷ widths) [] low l fit = absurd fit
segments-joined s (n ∷ widths) (v ∷ values) low l fit =
    let above = joined-multiple (s + n) widths values in
    let here : part (low + (v * 2 ^ s + joined (s + n) widths values)) s n ≡ v =
    ap (λ x. part (low + (v * 2 ^ s + x)) s n) above.1 ∙ part_between s n v low above.0 l fit.0 in
    let rest : segments (s + n) widths (low + (v * 2 ^ s + joined (s + n) widths values)) ≡ values =
    ap (λ x. segments (s + n) widths x) (sym (add_assoc low (v * 2 ^ s) (joined (s + n) widths values)))
    ∙ segments-joined (s + n) widths values (low + v * 2 ^ s) (below_next s n v low l fit.0) fit.1 in
    λ i. here i ∷ rest i

-- The joined segments of a word, plus its bits below them, are the word up to the end of the last segment.
pub joined-segments : (s : ℕ) (widths : List ℕ) (w : ℕ) → w % 2 ^ s + joined s widths (segments s widths w) ≡ w % 2 ^ top s widths
joined-segments s [] w = omega arith
joined-segments s (n ∷ widths) w =
    let low : w % 2 ^ (s + n) ≡ (w / 2 ^ s % 2 ^ n) * 2 ^ s + w % 2 ^ s = rw (add_comm s n) (mod-pow-add w n s) in
    let above = joined-segments (s + n) widths w in
    omega arith

-- Joined values are below the end of the last segment.
pub joined-below : (s : ℕ) (widths values : List ℕ) (low : ℕ) → low < 2 ^ s → Fit widths values → low + joined s widths values < 2 ^ top s widths
joined-below s [] [] low l fit = omega arith
joined-below s [] (v ∷ values) low l fit = absurd fit
joined-below s (n ∷ widths) [] low l fit = absurd fit
joined-below s (n ∷ widths) (v ∷ values) low l fit = search (rules, joined-below (s + n) widths values (low + v * 2 ^ s) (below_next s n v low l fit.0) fit.1, below_next)
