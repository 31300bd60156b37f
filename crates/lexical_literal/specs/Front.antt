-- Fronts of a text: those that some literal begins with, and those that are literals.
use Rattle.std.specs.Prelude.{ℕ, List, ◌++◌, length, take, ◌<◌, ◌≤◌}
use Rattle.lexical_literal.specs.Notation.{Notation}
use Rattle.lexical_literal.specs.Literal.{Literal, Reads}

-- In a reading `R`, `R l text` holds if `text` is a literal with the parts of `l`.
module _ (R : Literal → List ℕ → Type 0) where
  -- `BeginsBy R text` holds if some literal begins with `text`.
  pub record BeginsBy (text : List ℕ) : Type 0 where
    pub more : List ℕ
    pub literal : Literal
    pub reads : R literal (text ++ more)

  -- `IsValidBy R text index` holds if some literal begins with the first `index` bytes of `text`, and none with more bytes of it.
  pub record IsValidBy (text : List ℕ) (index : ℕ) : Type 0 where
    pub within : index ≤ length text
    pub front : BeginsBy (take index text)
    pub no_longer : (more : ℕ) → index < more → more ≤ length text → BeginsBy (take more text) → ⊥

  -- `NoneBy R text` holds if `text` is not a literal, and `NoFrontBy R text` if no front of `text` is one.
  abbrev pub NoneBy : List ℕ → Type 0
  NoneBy text = (l : Literal) → R l text → ⊥

  abbrev pub NoFrontBy : List ℕ → Type 0
  NoFrontBy text = (size : ℕ) → size ≤ length text → NoneBy (take size text)

  -- `ReadsFrontBy R l text size` holds if the first `size` bytes of `text` are a literal with the parts of `l`, and no more
  -- bytes of it are a literal.
  pub record ReadsFrontBy (l : Literal) (text : List ℕ) (size : ℕ) : Type 0 where
    pub within : size ≤ length text
    pub reads : R l (take size text)
    pub no_longer : (more : ℕ) → size < more → more ≤ length text → NoneBy (take more text)

-- The same by a notation, whose literals `Reads` tells.
module _ (m : Notation) where
  abbrev pub IsFront : List ℕ → Type 0
  IsFront = BeginsBy (Reads m)

  abbrev pub IsValidUpTo : List ℕ → ℕ → Type 0
  IsValidUpTo = IsValidBy (Reads m)

  abbrev pub NoLiteral : List ℕ → Type 0
  NoLiteral = NoneBy (Reads m)

  abbrev pub NoFront : List ℕ → Type 0
  NoFront = NoFrontBy (Reads m)

  abbrev pub ReadsFront : Literal → List ℕ → ℕ → Type 0
  ReadsFront = ReadsFrontBy (Reads m)
