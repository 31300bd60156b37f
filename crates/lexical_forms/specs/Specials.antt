-- Special values: the texts that are NaN or infinity.
use Rattle.std.specs.Prelude.{ℕ, ◌==◌, ◌&&◌, ◌||◌, not, ◌∷◌, [], ◌++◌, List, Option, Some, None, Bool, true, false, if◌then◌else◌, option_map, option_to_list}
use Rattle.std.specs.Prelude.{drop, get_or, unwrap_or}
use Rattle.std.specs.Borrow.{Bor}
use Rattle.std.specs.Char.{to_ascii_lowercase}
use Rattle.std.specs.List.{find}
use Rattle.lexical_util.specs.Layout as layout
use Rattle.lexical_literal.specs.Literal.{is_absent, is_present}
use Rattle.lexical_literal.specs.Notation.{Notation}
use Rattle.lexical_literal.specs.declared.syntax.Condition.TheVariants as conditions
use Rattle.lexical_forms.specs.declared.specials.Sign.{Sign}
use Rattle.lexical_forms.specs.declared.specials.Sign.TheVariants as signs
use Rattle.lexical_forms.specs.declared.specials.Special.{Special}
use Rattle.lexical_forms.specs.declared.specials.SpecialText.{SpecialText}
use Rattle.lexical_forms.specs.declared.specials.Specials.{Specials}
use Rattle.lexical_forms.specs.declared.specials.Spelling.{Spelling}
use Rattle.lexical_forms.specs.declared.specials.Spelling.TheVariants as spellings

-- `allows m sign` is true if the notation allows special values, and allows them to have `sign`, or no sign if it is `None`.
abbrev pub allows : Notation → Option Sign → Bool
allows m None = not (m.flag layout.no_special) && not (m.flag layout.required_mantissa_sign)
allows m (Some signs.Plus) = not (m.flag layout.no_special) && not (m.flag layout.no_positive_mantissa_sign)
allows m (Some signs.Minus) = not (m.flag layout.no_special) && not (m.condition conditions.NegativeSign)

-- `letter_of m byte` is `byte`, in lowercase unless special values are case-sensitive.
abbrev pub letter_of : Notation → ℕ → ℕ
letter_of m byte = if m.flag layout.case_sensitive_special then byte else to_ascii_lowercase byte

-- `is_spelled m word text` is true if `text` without some separators, if special values may have them, is `word`, letter case aside unless it counts.
abbrev pub is_spelled : Notation → List ℕ → List ℕ → Bool
is_spelled m word [] = is_absent word
is_spelled m [] (byte ∷ text) = (m.flag layout.special_digit_separator && m.separator byte) && is_spelled m [] text
is_spelled m (letter ∷ word) (byte ∷ text) = ((m.flag layout.special_digit_separator && m.separator byte) && is_spelled m (letter ∷ word) text)
    || ((letter_of m letter == letter_of m byte) && is_spelled m word text)

-- `matches m word text` is true if `word` is neither absent nor empty, and `text` is spelled as `word`.
abbrev pub matches : Notation → Option (Bor (List ℕ)) → List ℕ → Bool
matches m word text = unwrap_or (option_map (λ (it : Bor (List ℕ)). is_present it.now && is_spelled m it.now text) word) false

-- `spelling_of m specials text` is the first of NaN, inf and infinity whose spelling `text` matches, or `None` if there is none.
abbrev pub spelling_of : Notation → Specials → List ℕ → Option Spelling
spelling_of m specials text = if matches m specials.nan text then Some spellings.Nan
    else if matches m specials.inf text then Some spellings.Inf else if matches m specials.infinity text then Some spellings.Infinity else None

-- `special_behind m specials sign word` is the special value `word` behind `sign`: the spelling that it matches, if the format allows the sign, or `None`.
abbrev pub special_behind : Notation → Specials → Option Sign → List ℕ → Option Special
special_behind m specials sign word =
    if allows m sign then option_map (λ spelling. record { sign = sign; spelling = spelling }) (spelling_of m specials word) else None

-- `special_of m specials text` is the special value that `text` is, or `None` if it is none. A first byte `+` or `-` is its sign.
abbrev pub special_of : Notation → Specials → List ℕ → Option Special
special_of m specials text = if get_or text 0 0 == 43 then special_behind m specials (Some signs.Plus) (drop 1 text)
    else if get_or text 0 0 == 45 then special_behind m specials (Some signs.Minus) (drop 1 text) else special_behind m specials None text

-- `is_negative sign` is true if `sign` is `-`.
abbrev pub is_negative : Option Sign → Bool
is_negative (Some signs.Minus) = true
is_negative _ = false

-- `means_nan spelling` is true if `spelling` is that of NaN, and not one of infinity.
abbrev pub means_nan : Spelling → Bool
means_nan spellings.Nan = true
means_nan _ = false

-- `written_sign m special` is the sign with which `special` is written: `-` if it has this sign, and otherwise `+` if a sign is required.
abbrev pub written_sign : Notation → Special → Option Sign
written_sign m special =
    if is_negative special.sign then Some signs.Minus else (if m.flag layout.required_mantissa_sign then Some signs.Plus else None)

-- `signed sign word` is `word` behind `sign`, if there is one.
abbrev pub signed : Option Sign → List ℕ → List ℕ
signed None word = word
signed (Some signs.Plus) word = 43 ∷ word
signed (Some signs.Minus) word = 45 ∷ word

-- `is_value special back` is true if `back` is the value of `special`: if both are NaN, or neither, and both have the sign `-`, or
-- neither.
abbrev pub is_value : Special → Option Special → Bool
is_value special None = false
is_value special (Some back) =
    (if means_nan special.spelling then means_nan back.spelling else not (means_nan back.spelling))
    && (if is_negative special.sign then is_negative back.sign else not (is_negative back.sign))

-- `is_read_back m specials special word` is true if `word`, with the sign of `special`, is read as the value of `special`.
abbrev pub is_read_back : Notation → Specials → Special → Bor (List ℕ) → Bool
is_read_back m specials special word = is_value special (special_of m specials (signed (written_sign m special) word.now))

-- `words specials spelling` lists the spellings of NaN, or those of infinity if `spelling` is one.
abbrev pub words : Specials → Spelling → List (Bor (List ℕ))
words specials spellings.Nan = option_to_list specials.nan
words specials _ = option_to_list specials.inf ++ option_to_list specials.infinity

-- `text_of_special m specials special` is what is written for `special`: the first of its spellings that is read back, with its sign, or
-- `None` if there is none.
abbrev pub text_of_special : Notation → Specials → Special → Option SpecialText
text_of_special m specials special = option_map (λ word. record { sign = written_sign m special; word = word })
    (find (is_read_back m specials special) (words specials special.spelling))
