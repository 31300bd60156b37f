-- What reading returns: a literal, or an error.
use Rattle.std.specs.Prelude.{ℕ, ◌≡◌, IfErr, IfOk, IsErr, IsOkAnd, List, Result}
use Rattle.lexical_literal.specs.Cause.{Explained, IsRefusal}
use Rattle.lexical_literal.specs.Front.{NoFrontBy, ReadsFrontBy}
use Rattle.lexical_literal.specs.Read.{exact}
use Rattle.lexical_literal.specs.Literal.{Literal, Reads}
use Rattle.lexical_literal.specs.Notation.{notation_of}
use Rattle.lexical_literal.specs.Read.{Read}
use Rattle.lexical_literal.specs.declared.syntax.Grammar.{Grammar}
use Rattle.lexical_literal.specs.declared.read.Front.{Front}
use Rattle.lexical_literal.specs.declared.literal.Parts.{Parts}

-- `literal_of parts` is the literal with the bytes of the slices `parts`.
abbrev pub literal_of : Parts → Literal
literal_of parts = record {
  sign = parts.sign.now;
  prefix = parts.prefix.now;
  integer = parts.integer.now;
  point = parts.point.now;
  fraction = parts.fraction.now;
  exponent_character = parts.exponent_character.now;
  exponent_sign = parts.exponent_sign.now;
  exponent = parts.exponent.now;
  suffix = parts.suffix.now;
}

-- `IsRead g text result` holds if `result` is the literal `text`, with the format of `g` and its only parts, or the error if it is not a literal.
pub record IsRead (g : Grammar) (text : List ℕ) (result : Result Read Explained) : Type 0 where
  -- The text is a literal with the parts that are returned.
  pub found : IfOk result (λ read. (read.format ≡ g.word) × Reads (notation_of g) read.literal text)
  -- It is worth the number that it represents, and no opening is before it.
  pub kind : IfOk result (λ read. read.kind ≡ exact)
  pub opened : IfOk result (λ read. read.opened ≡ 0)
  -- A literal has no other parts, and they are returned.
  pub only : (l : Literal) → Reads (notation_of g) l text → IsOkAnd result (λ read. read.literal ≡ l)
  -- An error says how far the text is right, why it is not a literal, and which bytes to show.
  pub error : IfErr result (λ error. IsRefusal (notation_of g) text error.refusal)

-- `IsReadPrefix g text result` holds if `result` has the longest front of `text` that is a literal, with its parts, or is the
-- error of a text for which there is no such front.
pub record IsReadPrefix (g : Grammar) (text : List ℕ) (result : Result Front Explained) : Type 0 where
  -- A front of the text is a literal with the parts that are returned, and no longer front is a literal.
  pub found : IfOk result (λ front. (front.literal.format ≡ g.word) × ReadsFrontBy (Reads (notation_of g)) front.literal.literal text front.size)
  pub kind : IfOk result (λ front. front.literal.kind ≡ exact)
  pub opened : IfOk result (λ front. front.literal.opened ≡ 0)
  -- If no front is a literal, an error says why the text is not one.
  pub none : IsErr result → NoFrontBy (Reads (notation_of g)) text
  pub error : IfErr result (λ error. IsRefusal (notation_of g) text error.refusal)
