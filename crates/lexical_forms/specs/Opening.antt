-- The bytes of openings.
use Rattle.std.specs.Prelude.{ℕ, List, take}
use Rattle.lexical_forms.specs.declared.opening.Opening.{Opening}

-- `spelling opening` is the list of the bytes of `opening`.
abbrev pub spelling : Opening → List ℕ
spelling opening = take opening.size opening.bytes
