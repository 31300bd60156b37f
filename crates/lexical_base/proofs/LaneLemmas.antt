-- Lemmas that a test of every byte of a slice is a test of its lanes and of the rest.
use Rattle.std.proofs.Common.{◌≡◌, ℕ, zero, suc, ◌+◌, ◌-◌, ◌*◌, ◌^◌, ◌%◌, ◌≤◌, Bool, true, false, cond, eqb, leb, ◌&&◌, ◌||◌, List, [], ◌∷◌, map, length}
use Rattle.std.proofs.Common.{replicate, take, drop, bit_and, bit_or, refl, sym, ap, ◌∙◌, arith, IsTrue, ◌↔◌}
use Rattle.std.proofs.Math.Bool.{and_assoc}
use Rattle.std.proofs.Math.Pow.{suc_ones}
use Rattle.std.specs.List.{list_all, AllPass}
use Rattle.std.specs.Simd.{first_chunks}
use Rattle.std.specs.Simd.Lanes.{zip2, mask_l, top}
use Rattle.std.proofs.lemmas.Bool.Decides.{nat_tests}
use Rattle.std.proofs.lemmas.List.{take-append-drop, drop-drop, length-map}
use Rattle.std.proofs.lemmas.List.Folds.{list_all-append}
use Rattle.std.proofs.lemmas.List.Sums.{AllPass-from_list_all, list_all-from_AllPass}
use Rattle.std.proofs.lemmas.Simd.{mask_l-mod}
use Rattle.lexical_base.specs.Private.{in_two_ranges}

-- Every element of a list passes if and only if each of the first k chunks passes and the rest of the list passes.
by_chunks : (p : ℕ → Bool) (n k : ℕ) (xs : List ℕ) → list_all p xs ≡ (list_all (list_all p) (first_chunks n k xs) && list_all p (drop (k * n) xs))
by_chunks p n zero xs =
    let none : 0 * n ≡ 0 = omega arith in
    rw none refl
by_chunks p n (suc k) xs =
    let next = drop n xs in
    let further : drop (k * n) next ≡ drop (suc k * n) xs = drop-drop (k * n) n xs ∙ ap (λ i. drop i xs) (let e : n + k * n ≡ suc k * n = omega arith in e) in
    let split : list_all p xs ≡ (list_all p (take n xs) && list_all p next) =
    ap (list_all p) (sym (take-append-drop n xs)) ∙ list_all-append p (take n xs) next in
    split ∙ rw (by_chunks p n k next, further) (sym (and_assoc (list_all p (take n xs))
    (list_all (list_all p) (first_chunks n k next)) (list_all p (drop (suc k * n) xs))))

-- If `passes` and `rest_passes` are the tests of the whole chunks and of the rest, then both are true if and only if
-- every element of the list passes.
pub chunks_and_rest : (p : ℕ → Bool) (n k : ℕ) (xs : List ℕ) {whole : List (List ℕ)} {rest : List ℕ}
    {passes rest_passes : Bool} → whole ≡ first_chunks n k xs → rest ≡ drop (k * n) xs
    → passes ≡ list_all (list_all p) whole → rest_passes ≡ list_all p rest → IsTrue (passes && rest_passes) ↔ AllPass p xs
chunks_and_rest p n k xs {passes = passes} {rest_passes = rest_passes} front back tested rest_tested =
    let same : (passes && rest_passes) ≡ list_all p xs = rw (tested, rest_tested, front, back) (sym (by_chunks p n k xs)) in (
      λ passed. AllPass-from_list_all p xs (sym same ∙ passed),
      λ all. same ∙ list_all-from_AllPass p xs all,
    )

-- A lane of a comparison has all bits set, or none.
abbrev lane : Bool → ℕ
lane test = cond test 255 0

and_lanes : (p q : Bool) → bit_and (lane p) (lane q) ≡ lane (p && q)
and_lanes true true = refl
and_lanes true false = refl
and_lanes false true = refl
and_lanes false false = refl

top_of_lanes : (p q : Bool) → top 7 (bit_or (lane p) (lane q)) ≡ (p || q)
top_of_lanes true true = refl
top_of_lanes true false = refl
top_of_lanes false true = refl
top_of_lanes false false = refl

-- `in_ranges first second n bytes` is the mask that the code computes of the lanes.
abbrev in_ranges : ℕ × ℕ → ℕ × ℕ → ℕ → List ℕ → List Bool
in_ranges first second n bytes =
    let least = λ (a b : ℕ). lane (leb a b) in
    let inside = λ (range : ℕ × ℕ). zip2 bit_and (zip2 least (replicate n range.0) bytes) (zip2 least bytes (replicate n range.1)) in
    map (top 7) (zip2 bit_or (inside first) (inside second))

lanes_tested : (first second : ℕ × ℕ) (bytes : List ℕ) → in_ranges first second (length bytes) bytes ≡ map (in_two_ranges first second) bytes
lanes_tested first second [] = refl
lanes_tested first second (byte ∷ bytes) = rw (
  and_lanes (leb first.0 byte) (leb byte first.1),
  and_lanes (leb second.0 byte) (leb byte second.1),
  top_of_lanes (leb first.0 byte && leb byte first.1) (leb second.0 byte && leb byte second.1),
  lanes_tested first second bytes,
) refl

-- A mask has all its bits if and only if every lane passes.
full_mask : (p : ℕ → Bool) (bytes : List ℕ) → eqb (mask_l (map p bytes)) (2 ^ length bytes - 1) ≡ list_all p bytes
full_mask p [] = refl
full_mask p (byte ∷ bytes) = one (p byte) (mask_l (map p bytes)) (length bytes) ∙ ap (λ rest. p byte && rest) (full_mask p bytes)
  where
    one : (b : Bool) (m n : ℕ) → eqb (cond b 1 0 + 2 * m) (2 ^ suc n - 1) ≡ (b && eqb m (2 ^ n - 1))
    one b m n = grind (arith, nat_tests, suc_ones n)

-- The call `all` returns whether every lane is in one of the two ranges.
pub all_lanes : (first second : ℕ × ℕ) (bytes : List ℕ) → length bytes ≡ 32
    → eqb (mask_l (in_ranges first second 32 bytes) % 2 ^ 64) (2 ^ 32 - 1) ≡ list_all (in_two_ranges first second) bytes
all_lanes first second bytes long =
    let passes = in_two_ranges first second in
    let few : length (map passes bytes) ≤ 64 = omega (arith, length-map bytes passes, long) in
    let tested = ap (λ n. in_ranges first second n bytes) (sym long) ∙ lanes_tested first second bytes in
    ap (λ ms. eqb (mask_l ms % 2 ^ 64) (2 ^ 32 - 1)) tested ∙ ap (λ m. eqb m (2 ^ 32 - 1)) (mask_l-mod (map passes bytes) 64 few)
    ∙ ap (λ n. eqb (mask_l (map passes bytes)) (2 ^ n - 1)) (sym long) ∙ full_mask passes bytes
