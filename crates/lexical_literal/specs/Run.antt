-- Digit runs: the digits of a part of a number, with their separators.
use Rattle.std.specs.Prelude.{ℕ, Bool, true, false, not, ◌&&◌, ◌||◌, List, [], ◌∷◌, ◌++◌}
use Rattle.std.specs.List.{list_any}
use Rattle.lexical_util.specs.Ascii.{ByteSet}
use Rattle.lexical_util.specs.Layout.{separators_in}
use Rattle.lexical_util.specs.declared.format_flags.Part.{Part}
use Rattle.lexical_literal.specs.Notation.{Notation}

-- `ends_with A bytes` is true if the last of `bytes` is in `A`.
abbrev pub ends_with : ByteSet → List ℕ → Bool
ends_with A [] = false
ends_with A (byte ∷ []) = A byte
ends_with A (byte ∷ next ∷ bytes) = ends_with A (next ∷ bytes)

-- `is_place m part before after` is true if a separator may be in `part` with digits before it if `before` is true, and after it if `after` is true.
abbrev pub is_place : Notation → Part → Bool → Bool → Bool
is_place m part true true = m.flag (separators_in part).internal
is_place m part false true = m.flag (separators_in part).leading
is_place m part true false = m.flag (separators_in part).trailing
is_place m part false false = false

-- `is_fit m part before byte after` is true if `byte` is a digit of `part`, or a separator where one is allowed and, behind another, several are.
abbrev pub is_fit : Notation → Part → List ℕ → ℕ → List ℕ → Bool
is_fit m part before byte after =
    m.digit part byte || (m.separator byte && is_place m part (list_any (m.digit part) before) (list_any (m.digit part) after)
    && (m.flag (separators_in part).consecutive || not (ends_with (λ other. not (m.digit part other)) before)))

-- `are_fit m part before after` is true if each byte of `after` fits between the bytes before and after it.
abbrev pub are_fit : Notation → Part → List ℕ → List ℕ → Bool
are_fit m part before [] = true
are_fit m part before (byte ∷ after) = is_fit m part before byte after && are_fit m part (before ++ byte ∷ []) after

-- `is_run m part run` is true if `run` is a digit run of `part`, which may be empty.
abbrev pub is_run : Notation → Part → List ℕ → Bool
is_run m part run = are_fit m part [] run
