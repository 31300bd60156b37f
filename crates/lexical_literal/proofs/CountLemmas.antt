-- The lengths of parts.
use Rattle.lexical_literal.proofs.Common.{List, Piece, [], add_more, arith, cuts_of, get_or, integer_counts, length, piece_number, set, with_prefix, ℕ, ◌+◌}
use Rattle.lexical_literal.proofs.Common.{◌∷◌, ◌≡◌}

-- More bytes of a piece.
pub count_more : (counts : List ℕ) → length counts ≡ 9 → (piece : Piece) (n : ℕ)
    → add_more (cuts_of counts) piece n ≡ cuts_of (set counts (piece_number piece) (get_or counts (piece_number piece) 0 + n))
count_more (a ∷ b ∷ c ∷ d ∷ e ∷ f ∷ g ∷ h ∷ i ∷ []) nine piece n = grind arith
count_more counts nine piece n = absurd (omega (arith, nine))

-- A base prefix behind a sign.
pub count_prefix : (sign : ℕ) (other : Piece) → with_prefix (cuts_of (integer_counts sign 0 0)) other ≡ cuts_of (integer_counts sign 2 0) other
count_prefix sign x1 = grind arith
