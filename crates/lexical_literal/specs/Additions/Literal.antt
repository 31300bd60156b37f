-- The parts of a literal by their lengths, and the sums of their digits.
use Rattle.std.specs.Prelude.{ℕ, ◌≡◌, ◌+◌, ◌%◌, ◌^◌, ◌++◌, Bool, if◌then◌else◌, IsTrue, List, Option, Some, None, drop, take}
use Rattle.lexical_util.specs.Layout as layout
use Rattle.lexical_util.specs.Record.{Record, bytes_of, effective_exponent_radix, raw}
use Rattle.lexical_util.specs.declared.format_flags.Part.{Part}
use Rattle.lexical_util.specs.declared.format_flags.Part.TheVariants as parts
use Rattle.lexical_literal.specs.Literal.{Literal, Reads}
use Rattle.lexical_literal.specs.Notation.{Notation, notation_of}
use Rattle.lexical_literal.specs.Read.{exponent, mantissa}
use Rattle.lexical_literal.specs.Syntax.{IsSyntax}
use Rattle.lexical_literal.specs.Additions.Step.{Cuts, HasLengths, cuts_of}
use Rattle.lexical_literal.specs.declared.stop.Begun.{Begun}
use Rattle.lexical_literal.specs.declared.scan.Reading.{Reading}
use Rattle.lexical_literal.specs.declared.literal.Sum.{Sum}
use Rattle.lexical_literal.specs.declared.literal.Sums.{Sums}
use Rattle.lexical_literal.specs.declared.step.Piece.TheVariants as pieces
use Rattle.lexical_literal.specs.declared.syntax.Grammar.{Grammar}
use Rattle.lexical_number.specs.Number.{number, places}
use Rattle.lexical_number.specs.Small.{IsSmall}
use Rattle.lexical_literal.specs.Additions.Scan.{counts_of}

-- `before_point c`, `before_fraction c` and `before_exponent c` are the numbers of bytes before these parts, which have the lengths `c`.
abbrev pub before_point : Cuts → ℕ
before_point c = c pieces.Sign + c pieces.Prefix + c pieces.Integer

abbrev pub before_fraction : Cuts → ℕ
before_fraction c = before_point c + c pieces.Point

abbrev pub before_exponent : Cuts → ℕ
before_exponent c = before_fraction c + c pieces.Fraction + c pieces.ExponentCharacter + c pieces.ExponentSign

-- `cut text c` is the literal whose parts have the lengths `c`, one after another, and the suffix the rest of `text`.
abbrev pub cut : List ℕ → Cuts → Literal
cut text c = record {
  sign = take (c pieces.Sign) text;
  prefix = take (c pieces.Prefix) (drop (c pieces.Sign) text);
  integer = take (c pieces.Integer) (drop (c pieces.Sign + c pieces.Prefix) text);
  point = take (c pieces.Point) (drop (before_point c) text);
  fraction = take (c pieces.Fraction) (drop (before_fraction c) text);
  exponent_character = take (c pieces.ExponentCharacter) (drop (before_fraction c + c pieces.Fraction) text);
  exponent_sign = take (c pieces.ExponentSign) (drop (before_fraction c + c pieces.Fraction + c pieces.ExponentCharacter) text);
  exponent = take (c pieces.Exponent) (drop (before_exponent c) text);
  suffix = drop (before_exponent c + c pieces.Exponent) text;
}

-- `IsCut m text c` holds if `text` is a literal of `m` whose parts have the lengths `c`.
pub record IsCut (m : Notation) (text : List ℕ) (c : Cuts) : Type 0 where
  pub reads : Reads m (cut text c) text
  pub lengths : HasLengths (cut text c) c

-- `summed_in part l` has the bytes of `l` whose digits are summed up together: those of the exponent, or else of the integer and the
-- fraction.
abbrev pub summed_in : Part → Literal → List ℕ
summed_in parts.Exponent l = l.exponent
summed_in _ l = l.integer ++ l.fraction

-- `IsSum radix bytes sum` holds if `sum` has the number of the digits of `radix` among `bytes`, and the number that they represent,
-- modulo `2 ^ 64`.
pub record IsSum (radix : ℕ) (bytes : List ℕ) (sum : Sum) : Type 0 where
  pub digits : sum.digits ≡ places radix bytes
  pub value : sum.value % 2 ^ 64 ≡ number radix bytes % 2 ^ 64

-- `HasSums r i f e sums` holds if `sums` has the sums of the digits of the integer `i`, the fraction `f` and the exponent `e`, and `AreSums r l sums` if it has
-- those of `l`.
pub record HasSums (r : Record) (i f e : List ℕ) (sums : Sums) : Type 0 where
  pub sum : IsSum (r.byte layout.mantissa_radix) (i ++ f) sums.mantissa
  pub fraction : sums.places ≡ places (r.byte layout.mantissa_radix) f
  pub scale : IsSum (effective_exponent_radix r) e sums.exponent

abbrev pub AreSums : Record → Literal → Sums → Type 0
AreSums r l sums = HasSums r l.integer l.fraction l.exponent sums

-- `IsSummed r text counted` holds if `counted` has the sums of its parts, if it says that they are a literal.
abbrev pub IsSummed : Record → List ℕ → Begun → Type 0
IsSummed r text counted = IsTrue counted.complete → AreSums r (cut text (cuts_of counted.counts)) counted.sums

-- `IsMantissa r text run` holds if `run` ends behind the parts whose lengths it has, and has the sum of the digits of the integer and
-- the fraction.
pub record IsMantissa (r : Record) (text : List ℕ) (run : Reading) : Type 0 where
  pub size : run.size ≡ before_fraction (cuts_of (counts_of run 0 0 0 0)) + run.fraction
  pub digits : run.sum.digits ≡ places (r.byte layout.mantissa_radix)
      ((cut text (cuts_of (counts_of run 0 0 0 0))).integer ++ (cut text (cuts_of (counts_of run 0 0 0 0))).fraction)
  pub sum : run.sum.value % 2 ^ 64 ≡ number (r.byte layout.mantissa_radix)
      ((cut text (cuts_of (counts_of run 0 0 0 0))).integer ++ (cut text (cuts_of (counts_of run 0 0 0 0))).fraction) % 2 ^ 64
  pub fraction : run.places ≡ places (r.byte layout.mantissa_radix) (cut text (cuts_of (counts_of run 0 0 0 0))).fraction

-- `given has n` is `Some n` if `has` is true, and `None` otherwise.
abbrev pub given : Bool → ℕ → Option ℕ
given has n = if has then Some n else None

-- `IsMade word text c m n e` holds if `text` is a literal of a syntax with the format `word`, if its parts have the lengths `c`, and if
-- `m` and `e` are its mantissa and its exponent if they are short, and `n` is the number of its fraction digits.
pub record IsMade (word : ℕ) (text : List ℕ) (c : Cuts) (m : Option ℕ) (n : ℕ) (e : Option ℕ) : Type 0 where
  pub grammar : Grammar
  pub syntax : IsSyntax grammar
  pub format : grammar.word ≡ word
  pub is_cut : IsCut (notation_of grammar) text c
  pub word_mantissa : IsSmall ((raw word).byte layout.mantissa_radix) (mantissa (bytes_of word) (cut text c)) m
  pub fraction_places : n ≡ places ((raw word).byte layout.mantissa_radix) (cut text c).fraction
  pub word_exponent : IsSmall (effective_exponent_radix (raw word)) (exponent (bytes_of word) (cut text c)) e
