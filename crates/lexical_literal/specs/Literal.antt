-- Literals: the parts of a number, how each part is spelled, and what each flag and each condition requires of the parts.
use Rattle.std.specs.Prelude.{ℕ, ◌≡◌, Bool, true, false, not, ◌==◌, ◌&&◌, ◌||◌, if◌then◌else◌, nat_le, IsTrue, List, [], ◌∷◌, ◌++◌}
use Rattle.std.specs.List.{list_any}
use Rattle.lexical_util.specs.Ascii.{ByteSet}
use Rattle.lexical_util.specs.Layout as layout
use Rattle.lexical_util.specs.Layout.{Flag}
use Rattle.lexical_util.specs.Roles.{signs}
use Rattle.lexical_util.specs.declared.format_flags.Part.TheVariants as parts
use Rattle.lexical_literal.specs.Groups.{is_grouped}
use Rattle.lexical_literal.specs.Notation.{Notation}
use Rattle.lexical_literal.specs.declared.syntax.Condition.{Condition}
use Rattle.lexical_literal.specs.declared.syntax.Condition.TheVariants as conditions
use Rattle.lexical_literal.specs.Run.{is_run}

-- `Literal` has the bytes of each part of a number, in the order of the text. An absent part has no bytes.
pub record Literal : Type 0 where
  pub sign : List ℕ
  pub prefix : List ℕ
  pub integer : List ℕ
  pub point : List ℕ
  pub fraction : List ℕ
  pub exponent_character : List ℕ
  pub exponent_sign : List ℕ
  pub exponent : List ℕ
  pub suffix : List ℕ

-- `text_of l` is the text with the parts of `l`.
abbrev pub text_of : Literal → List ℕ
text_of l =
    l.sign ++ (l.prefix ++ (l.integer ++ (l.point ++ (l.fraction ++ (l.exponent_character ++ (l.exponent_sign ++ (l.exponent ++ l.suffix)))))))

-- `is_absent bytes` is true if a part with these bytes is absent.
abbrev pub is_absent : List ℕ → Bool
is_absent [] = true
is_absent (byte ∷ bytes) = false

-- `is_present bytes` is true if a part with these bytes is not absent.
abbrev pub is_present : List ℕ → Bool
is_present bytes = not (is_absent bytes)

-- `is_plus bytes` is true if `bytes` begins with a plus sign.
abbrev pub is_plus : List ℕ → Bool
is_plus [] = false
is_plus (byte ∷ bytes) = byte == 43

-- `is_minus bytes` is true if `bytes` begins with a minus sign.
abbrev pub is_minus : List ℕ → Bool
is_minus [] = false
is_minus (byte ∷ bytes) = byte == 45

-- `is_none_or_one A bytes` is true if `bytes` is empty, or one byte of `A`.
abbrev pub is_none_or_one : ByteSet → List ℕ → Bool
is_none_or_one A [] = true
is_none_or_one A (byte ∷ []) = A byte
is_none_or_one A (byte ∷ next ∷ bytes) = false

-- `is_none_or_prefix A bytes` is true if `bytes` is empty, or a zero and one byte of `A`.
abbrev pub is_none_or_prefix : ByteSet → List ℕ → Bool
is_none_or_prefix A [] = true
is_none_or_prefix A (first ∷ byte ∷ []) = (first == 48) && A byte
is_none_or_prefix A _ = false

-- `has_leading_zero D run` is true if the first digit of `run` is 0, and another digit follows it.
abbrev pub has_leading_zero : ByteSet → List ℕ → Bool
has_leading_zero D [] = false
has_leading_zero D (byte ∷ bytes) = if D byte then (byte == 48) && list_any D bytes else has_leading_zero D bytes

-- `is_float l` is true if `l` has a decimal point or an exponent. Otherwise, `l` is an integer.
abbrev pub is_float : Literal → Bool
is_float l = not (is_absent l.point) || not (is_absent l.exponent_character)

-- `is_zero_led m l` is true if the integer digits of `l` have a leading zero. After a prefix, no zero is a leading one.
abbrev pub is_zero_led : Notation → Literal → Bool
is_zero_led m l = is_absent l.prefix && has_leading_zero (m.digit parts.Integer) l.integer

-- `requirement f m l` is true if the parts of `l` are as the flag `f` requires. Flags on spelling and on special values require nothing here.
abbrev pub requirement : Flag → Notation → Literal → Bool
requirement layout.required_integer_digits m l = is_present l.integer
requirement layout.required_fraction_digits m l = is_absent l.point || is_present l.fraction
requirement layout.required_exponent_digits m l = is_absent l.exponent_character || is_present l.exponent
requirement layout.required_mantissa_digits m l = is_present l.integer || is_present l.fraction
requirement layout.no_positive_mantissa_sign m l = not (is_plus l.sign)
requirement layout.required_mantissa_sign m l = is_present l.sign
requirement layout.no_exponent_notation m l = is_absent l.exponent_character
requirement layout.no_positive_exponent_sign m l = not (is_plus l.exponent_sign)
requirement layout.required_exponent_sign m l = is_absent l.exponent_character || is_present l.exponent_sign
requirement layout.no_exponent_without_fraction m l = is_absent l.exponent_character || is_present l.point
requirement layout.no_integer_leading_zeros m l = is_float l || not (is_zero_led m l)
requirement layout.no_float_leading_zeros m l = not (is_float l) || not (is_zero_led m l)
requirement layout.required_exponent_notation m l = m.integers_only || is_present l.exponent_character
requirement _ m l = true

-- `begins_with A bytes` is true if the first of `bytes` is in `A`.
abbrev pub begins_with : ByteSet → List ℕ → Bool
begins_with A [] = false
begins_with A (byte ∷ bytes) = A byte

-- `may_begin c digit` is true if the condition `c` lets a literal begin with `digit`, behind its sign: with `0`, or with `0` to `9`.
abbrev pub may_begin : Condition → ByteSet
may_begin conditions.LeadingZero digit = digit == 48
may_begin conditions.DecimalFirstDigit digit = nat_le digit 57
may_begin _ digit = true

-- `begins c m l` is true if the text of `l` behind its sign begins with a digit that the condition `c` allows.
abbrev pub begins : Condition → Notation → Literal → Bool
begins c m l = begins_with (λ byte. m.digit parts.Integer byte && may_begin c byte) (text_of (record l { sign = [] }))

-- `condition c m l` is true if the parts of `l` are as the condition `c` requires. That of higher groups only changes what that of groups requires.
abbrev pub condition : Condition → Notation → Literal → Bool
condition conditions.BasePrefix m l = is_present l.prefix
condition conditions.BaseSuffix m l = is_present l.suffix
condition conditions.NegativeSign m l = is_absent l.sign || is_plus l.sign
condition conditions.IntegerGroupSize m l = is_grouped m l.integer
condition conditions.HigherGroupSize m l = true
condition c m l = begins c m l

-- `IsSpelled m l` holds if each part of `l` is spelled as `m` allows, if the parts go together, and if they are as each flag that is set requires.
pub record IsSpelled (m : Notation) (l : Literal) : Type 0 where
  pub sign : IsTrue (is_none_or_one signs l.sign)
  pub prefix : IsTrue (is_none_or_prefix m.prefix l.prefix)
  pub integer : IsTrue (is_run m parts.Integer l.integer)
  pub point : IsTrue (is_none_or_one m.point l.point)
  pub fraction : IsTrue (is_run m parts.Fraction l.fraction)
  pub exponent_character : IsTrue (is_none_or_one m.exponent_character l.exponent_character)
  pub exponent_sign : IsTrue (is_none_or_one signs l.exponent_sign)
  pub exponent : IsTrue (is_run m parts.Exponent l.exponent)
  pub suffix : IsTrue (is_none_or_one m.suffix l.suffix)
  pub after_point : IsTrue (is_absent l.point) → l.fraction ≡ []
  pub after_character : IsTrue (is_absent l.exponent_character) → (l.exponent_sign ≡ []) × (l.exponent ≡ [])
  pub some_number : IsTrue (is_present l.integer || is_float l)
  pub requirements : (f : Flag) → IsTrue (m.flag f) → IsTrue (requirement f m l)

-- `IsLiteral m l` holds if `l` is spelled as the notation `m` allows, and its parts are as each condition of `m` requires.
pub record IsLiteral (m : Notation) (l : Literal) : Type 0 where
  pub spelled : IsSpelled m l
  pub conditions : (c : Condition) → IsTrue (m.condition c) → IsTrue (condition c m l)

-- `Reads m l text` holds if `text` is a literal with the parts of `l`.
pub record Reads (m : Notation) (l : Literal) (text : List ℕ) : Type 0 where
  pub whole : text ≡ text_of l
  pub literal : IsLiteral m l
