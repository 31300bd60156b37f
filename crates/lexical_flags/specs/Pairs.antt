-- Lists in which each element is related to every later one.
use Rattle.std.specs.Prelude.{List, [], ◌∷◌, ⊤}
use Rattle.std.specs.List.{AllByRecursion}

-- `ArePairwise R xs` holds if `R` relates each element of `xs` to every later element.
abbrev pub ArePairwise : {X : Type 0} → (X → X → Type 0) → List X → Type 0
ArePairwise R [] = ⊤
ArePairwise R (x ∷ xs) = AllByRecursion (R x) xs × ArePairwise R xs
