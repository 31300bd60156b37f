-- What a call returns that reads a text and computes its value.
use Rattle.std.specs.Prelude.{ℕ, ◌≡◌, ◌||◌, IsFalse, List, Result, Ok, Err}
use Rattle.std.specs.Float.{Float, Format}
use Rattle.lexical_util.specs.Record.{bytes_of}
use Rattle.lexical_literal.specs.Literal.{Literal, Reads}
use Rattle.lexical_literal.specs.Notation.{notation_of}
use Rattle.lexical_literal.specs.Cause.{IsRefusal}
use Rattle.lexical_literal.specs.declared.syntax.Grammar.{Grammar}
use Rattle.lexical_number.specs.Numeral.{Range}
use Rattle.lexical_value.specs.Float.{is_binary, is_decimal, nearest}
use Rattle.lexical_value.specs.Integer.{IsInteger, IsNoInteger}
use Rattle.lexical_value.specs.declared.integer.ValueErrorKind.TheVariants as kinds
use Rattle.lexical_value.specs.declared.parse.ParseError.{ParseError}
use Rattle.lexical_value.specs.declared.parse.ParseError.TheVariants as errors

-- `IsParsed range g text result` holds if `result` is the value of the integer `text` in `range`, why `text` is not a
-- literal, or why the value of the literal is not in `range`.
abbrev pub IsParsed : {T : Type 0} → Range T → Grammar → List ℕ → Result T ParseError → Type 0
IsParsed range g text (Ok x) = (l : Literal) × Reads (notation_of g) l text × IsInteger (bytes_of g.word) l (range.value x)
IsParsed range g text (Err (errors.Read error)) = IsRefusal (notation_of g) text error.refusal
IsParsed range g text (Err (errors.Value kind)) =
    (l : Literal) × Reads (notation_of g) l text × IsNoInteger range.least range.largest (bytes_of g.word) l kind

-- `IsParsedFloat f value g text result` holds if `result` is the float of `f` that is nearest to the literal `text`, why
-- `text` is not a literal, or that it is one, and that no literal has a float.
abbrev pub IsParsedFloat : {T : Type 0} → Format → (T → Float) → Grammar → List ℕ → Result T ParseError → Type 0
IsParsedFloat f value g text (Ok x) = (l : Literal) × Reads (notation_of g) l text × (value x ≡ nearest f (bytes_of g.word) l)
IsParsedFloat f value g text (Err (errors.Read error)) = IsRefusal (notation_of g) text error.refusal
IsParsedFloat f value g text (Err (errors.Value kind)) =
    (l : Literal) × Reads (notation_of g) l text × IsFalse (is_decimal (bytes_of g.word) || is_binary (bytes_of g.word)) × (kind ≡ kinds.UnsupportedRadix)
