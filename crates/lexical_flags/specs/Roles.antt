-- The roles of bytes in the numbers of a format. A role is the set of the bytes that play it.
use Rattle.std.specs.Prelude.{ℕ, ◌+◌, ◌-◌, Bool, true, IsTrue, if◌then◌else◌, ◌==◌, ◌&&◌, ◌||◌, not, List, [], ◌∷◌}
use Rattle.std.specs.List.{list_all, range_with_len}
use Rattle.lexical_base.specs.Ascii.{ByteSet, between}
use Rattle.lexical_base.specs.Digits.{digits_of}
use Rattle.lexical_flags.specs.Layout as layout
use Rattle.lexical_flags.specs.Pairs.{ArePairwise}
use Rattle.lexical_flags.specs.Record.{Record, effective_exponent_radix, separator_allowed}

-- `are_disjoint A B` is true if none of the 256 bytes is in both sets.
unfoldable pub are_disjoint : ByteSet → ByteSet → Bool
are_disjoint A B = list_all (λ byte. not (A byte && B byte)) (range_with_len 0 256)

-- `Disjoint A B` holds if no byte is in both sets.
unfoldable pub Disjoint : ByteSet → ByteSet → Type 0
Disjoint A B = IsTrue (are_disjoint A B)

-- `AreDisjoint sets` holds if no byte is in two of `sets`.
abbrev pub AreDisjoint : List ByteSet → Type 0
AreDisjoint sets = ArePairwise Disjoint sets

-- `other_case byte` is the other case of `byte` if `byte` is a letter, and `byte` otherwise.
abbrev pub other_case : ℕ → ℕ
other_case byte = if between 65 90 byte then byte + 32 else if between 97 122 byte then byte - 32 else byte

-- `cased case_sensitive byte` is the set of `byte` and, if `case_sensitive` is false, its other case. It is empty if `byte` is 0: absent.
unfoldable pub cased : Bool → ℕ → ByteSet
cased case_sensitive byte c = not (byte == 0) && ((c == byte) || (not case_sensitive && (c == other_case byte)))

-- `digits r` is the set of the digits of the mantissa and of the exponent of `r`.
abbrev pub digits : Record → ByteSet
digits r byte = digits_of (r.byte layout.mantissa_radix) byte || digits_of (effective_exponent_radix r) byte

-- `signs` is the set of the signs + and -.
abbrev pub signs : ByteSet
signs byte = (byte == 43) || (byte == 45)

-- `separator r` is the role of the digit separator of `r`.
abbrev pub separator : Record → ByteSet
separator r = cased true (r.byte layout.digit_separator)

-- `used_separator r` is the set that contains the digit separator of `r` if some flag of `r` allows one.
abbrev pub used_separator : Record → ByteSet
used_separator r byte = separator_allowed r && separator r byte

-- `prefix r` and `suffix r` are the roles of the base prefix and of the base suffix of `r`.
abbrev pub prefix : Record → ByteSet
prefix r = cased (r.flag layout.case_sensitive_base_prefix) (r.byte layout.base_prefix)

abbrev pub suffix : Record → ByteSet
suffix r = cased (r.flag layout.case_sensitive_base_suffix) (r.byte layout.base_suffix)

-- `exponent r chosen` is the role of the exponent character `chosen`, which is chosen by options, not by the format.
abbrev pub exponent : Record → ℕ → ByteSet
exponent r chosen = cased (r.flag layout.case_sensitive_exponent) chosen

-- `point chosen` is the role of the decimal point `chosen`, which is chosen by options, not by the format.
abbrev pub point : ℕ → ByteSet
point chosen = cased true chosen

-- `format_roles r` lists the roles of the bytes in `r`: separator, prefix and suffix.
abbrev pub format_roles : Record → List ByteSet
format_roles r = separator r ∷ prefix r ∷ suffix r ∷ []

-- `five_roles r` lists the five roles of `r`: digits, signs, separator, prefix and suffix.
abbrev pub five_roles : Record → List ByteSet
five_roles r = digits r ∷ signs ∷ format_roles r

-- `seven_roles r exponent_byte point_byte` lists the roles of the two bytes, and the five roles of `r`.
abbrev pub seven_roles : Record → ℕ → ℕ → List ByteSet
seven_roles r exponent_byte point_byte = exponent r exponent_byte ∷ point point_byte ∷ five_roles r
