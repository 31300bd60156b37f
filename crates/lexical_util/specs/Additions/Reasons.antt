-- Why a word breaks rules, and why it does not accept an exponent character and a decimal point: a table of each.
use Rattle.std.specs.Prelude.{ℕ, ◌≡◌, ◌⊎◌, ◌==◌, ◌&&◌, not, Bool, true, if◌then◌else◌, Option, None, Some, IfSome}
use Rattle.std.specs.Prelude.{List, [], ◌∷◌, ◌++◌, map, flat_map, option_map, bit_and, bit_or}
use Rattle.std.specs.Bool.{then_some}
use Rattle.std.specs.List.{AllByRecursion, list_any}
use Rattle.std.specs.Option.{option_map_or}
use Rattle.lexical_base.specs.Ascii.{ByteSet, between, allowed_ascii}
use Rattle.lexical_base.specs.Digits.{digits_of}
use Rattle.lexical_flags.specs.Layout as layout
use Rattle.lexical_flags.specs.Layout.{separator_flags_in}
use Rattle.lexical_flags.specs.Record.{Record, raw}
use Rattle.lexical_flags.specs.Roles.{are_disjoint, cased, signs}
use Rattle.lexical_flags.specs.Rules.{Shape, radix_in_range, absent_or_punctuation, roles_differ, not_both, position_allowed, reserved_zero}
use Rattle.lexical_flags.specs.Rules.{lacks_position, rules_in_order, shape_of}
use Rattle.lexical_flags.specs.Additions.Masks.{byte_mask, mask_of, reserved_mask}
use Rattle.lexical_flags.specs.declared.format_flags.parts.Part.{Part}
use Rattle.lexical_flags.specs.declared.format_flags.rule.Rule.{Rule}
use Rattle.lexical_flags.specs.declared.format_flags.rule.Rule.TheVariants as rules
use Rattle.lexical_util.specs.Edits.{flags_of}
use Rattle.lexical_util.specs.Additions.EditMasks.{mask_of_setter}
use Rattle.lexical_util.specs.Additions.FieldEdits.{flag_setter}
use Rattle.lexical_util.specs.declared.edits.setters.FlagSetter.{FlagSetter}
use Rattle.lexical_util.specs.declared.edits.setters.FlagSetter.TheVariants as setters
use Rattle.lexical_util.specs.declared.reasons.Byte.{Byte}
use Rattle.lexical_util.specs.declared.reasons.Byte.TheVariants as bytes
use Rattle.lexical_util.specs.declared.reasons.NamedByte.{NamedByte}
use Rattle.lexical_util.specs.declared.reasons.Radixes.{Radixes}
use Rattle.lexical_util.specs.declared.reasons.Radixes.TheVariants as radixes
use Rattle.lexical_util.specs.declared.reasons.Cause.{Cause}
use Rattle.lexical_util.specs.declared.reasons.Cause.TheVariants as causes
use Rattle.lexical_util.specs.declared.reasons.Reason.{Reason}

-- `is_set r setter` is true if at least one of the flags of `setter` is set in `r`.
abbrev pub is_set : Record → FlagSetter → Bool
is_set r setter = list_any r.flag (flags_of setter)

-- `case_flag name` is the flag that makes the byte `name` case-sensitive, if there is one.
abbrev pub case_flag : Byte → Option FlagSetter
case_flag bytes.BasePrefix = Some setters.CaseSensitiveBasePrefix
case_flag bytes.BaseSuffix = Some setters.CaseSensitiveBaseSuffix
case_flag bytes.ExponentCharacter = Some setters.CaseSensitiveExponent
case_flag name = None

-- `is_cased r name` is true if the byte `name` is case-sensitive in `r`: its case flag is set, or it has none.
abbrev pub is_cased : Record → Byte → Bool
is_cased r name = option_map_or (is_set r) (case_flag name) true

-- `unset_flag r name` is the case flag of the byte `name`, if it has one that is not set in `r`.
abbrev pub unset_flag : Record → Byte → Option FlagSetter
unset_flag r name = if is_cased r name then None else case_flag name

-- `role r byte` is the set of what `byte` matches in `r`: `byte` and, unless it is case-sensitive, its other case.
abbrev pub role : Record → NamedByte → ByteSet
role r byte = cased (is_cased r byte.name) byte.value

-- CAUSES

-- `if_present byte cause` is `cause` if `byte` is present, and `None` if it is absent.
abbrev pub if_present : NamedByte → Option Cause → Option Cause
if_present byte cause = if byte.value == 0 then None else cause

-- `out_of_range byte` is the cause that the radix or base `byte` is not between 2 and 36, if it is not.
abbrev pub out_of_range : NamedByte → Option Cause
out_of_range byte = then_some (not (between 2 36 byte.value)) (causes.OutOfRange byte)

-- `digit_radixes r value` has the radixes of `r` in which the byte `value` is a digit, if there are any. An absent
-- exponent radix has no digits.
abbrev pub digit_radixes : Record → ℕ → Option Radixes
digit_radixes r value =
    let mantissa = r.byte layout.mantissa_radix in
    let exponent = r.byte layout.exponent_radix in
    if digits_of mantissa value && digits_of exponent value then Some (radixes.Both mantissa exponent)
    else if digits_of mantissa value then Some (radixes.Mantissa mantissa)
    else then_some (digits_of exponent value) (radixes.Exponent exponent)

-- `not_punctuation r byte` is the cause that `byte` is not punctuation in the format `r`, if it is not.
abbrev pub not_punctuation : Record → NamedByte → Option Cause
not_punctuation r byte =
    if not (allowed_ascii byte.value) then Some (causes.NotText byte)
    else if signs byte.value then Some (causes.IsSign byte)
    else option_map (causes.IsDigit byte) (digit_radixes r byte.value)

-- `clash r first second` is the cause that some byte plays the roles of both `first` and `second` in `r`, if one does.
abbrev pub clash : Record → NamedByte → NamedByte → Option Cause
clash r first second =
    then_some (not (are_disjoint (role r first) (role r second)))
    (if second.value == first.value then causes.Same first second
    else causes.DifferInCase first (unset_flag r first.name) second (unset_flag r second.name))

-- `both_set r first second` is the cause that both flags are set in `r`, if they are.
abbrev pub both_set : Record → FlagSetter → FlagSetter → Option Cause
both_set r first second = then_some (is_set r first && is_set r second) (causes.BothSet first second)

-- `needs_position r part` is the cause that `r` allows consecutive separators in `part`, but none between, before or after
-- its digits, if it does.
abbrev pub needs_position : Record → Part → Option Cause
needs_position r part = then_some (lacks_position r part) (causes.NeedsPosition part)

-- `reserved_bits word` is the cause that reserved bits are set in `word`, if any are.
abbrev pub reserved_bits : ℕ → Option Cause
reserved_bits word = let bits = bit_and word reserved_mask in then_some (not (bits == 0)) (causes.ReservedBits bits)

-- WHAT A REASON BLAMES

-- `mask_of_byte name` is the number with 1 in the bits of a byte in a word. No bits hold what options choose.
abbrev pub mask_of_byte : Byte → ℕ
mask_of_byte bytes.DigitSeparator = byte_mask layout.digit_separator
mask_of_byte bytes.BasePrefix = byte_mask layout.base_prefix
mask_of_byte bytes.BaseSuffix = byte_mask layout.base_suffix
mask_of_byte bytes.MantissaRadix = byte_mask layout.mantissa_radix
mask_of_byte bytes.ExponentBase = byte_mask layout.exponent_base
mask_of_byte bytes.ExponentRadix = byte_mask layout.exponent_radix
mask_of_byte name = 0

-- `bytes_of cause` has the bytes that `cause` names: none, one or two.
abbrev pub bytes_of : Cause → Option NamedByte × Option NamedByte
bytes_of (causes.OutOfRange byte) = (Some byte, None)
bytes_of (causes.NotText byte) = (Some byte, None)
bytes_of (causes.IsSign byte) = (Some byte, None)
bytes_of (causes.IsDigit byte found) = (Some byte, None)
bytes_of (causes.Same first second) = (Some first, Some second)
bytes_of (causes.DifferInCase first first_flag second second_flag) = (Some first, Some second)
bytes_of cause = (None, None)

-- `mask_if_absent r byte` is the mask of `byte` if it is absent from `r`, and 0 otherwise.
abbrev pub mask_if_absent : Record → layout.Byte → ℕ
mask_if_absent r byte = if r.byte byte == 0 then byte_mask byte else 0

-- `mask_beside_radix r name` is the mask of the absent exponent bytes of `r` if `name` is the mantissa radix, which is
-- used in their place, and 0 otherwise.
abbrev pub mask_beside_radix : Record → Byte → ℕ
mask_beside_radix r bytes.MantissaRadix =
    bit_or (mask_if_absent r layout.exponent_base) (mask_if_absent r layout.exponent_radix)
mask_beside_radix r name = 0

-- `mask_beside r cause` is the mask of what `cause` blames in `r` beside the bytes that it names.
abbrev pub mask_beside : Record → Cause → ℕ
mask_beside r (causes.OutOfRange byte) = mask_beside_radix r byte.name
mask_beside r (causes.IsDigit byte (radixes.Mantissa radix)) =
    bit_or (byte_mask layout.mantissa_radix) (mask_if_absent r layout.exponent_radix)
mask_beside r (causes.IsDigit byte (radixes.Exponent radix)) = byte_mask layout.exponent_radix
mask_beside r (causes.IsDigit byte (radixes.Both mantissa exponent)) =
    bit_or (byte_mask layout.mantissa_radix) (byte_mask layout.exponent_radix)
mask_beside r (causes.DifferInCase first first_flag second second_flag) =
    bit_or (option_map_or mask_of_setter first_flag 0) (option_map_or mask_of_setter second_flag 0)
mask_beside r (causes.BothSet first second) = bit_or (mask_of_setter first) (mask_of_setter second)
mask_beside r (causes.NeedsPosition part) = mask_of (separator_flags_in part)
mask_beside r (causes.ReservedBits bits) = bits
mask_beside r cause = 0

-- `mask_if_named byte` is the mask of `byte`, if there is one, and 0 otherwise.
abbrev pub mask_if_named : Option NamedByte → ℕ
mask_if_named byte = option_map_or (λ b. mask_of_byte b.name) byte 0

-- `mask_of_cause r cause` is the mask of the bytes that `cause` names, and of what it blames in `r` beside them.
abbrev pub mask_of_cause : Record → Cause → ℕ
mask_of_cause r cause =
    let named = bytes_of cause in bit_or (bit_or (mask_if_named named.0) (mask_if_named named.1)) (mask_beside r cause)

-- REASONS

-- `followers r rule` has the rules that `r` also breaks if it breaks `rule`: those of absent exponent bytes.
abbrev pub followers : Record → Option Rule → Option Rule × Option Rule
followers r (Some rules.MantissaRadixInRange) = (
  then_some (r.byte layout.exponent_base == 0) rules.ExponentBaseInRange,
  then_some (r.byte layout.exponent_radix == 0) rules.ExponentRadixInRange,
)
followers r rule = (None, None)

-- `reason_of r rule cause` is the reason why `r` breaks `rule`, or does not accept options if `rule` is `None`.
abbrev pub reason_of : Record → Option Rule → Cause → Reason
reason_of r rule cause =
    record { rule = rule; followers = followers r rule; cause = cause; mask = mask_of_cause r cause }

-- `named name value` is the byte `name` with its value.
abbrev pub named : Byte → ℕ → NamedByte
named name value = record { name = name; value = value }

-- `name_of b` is the name of the byte `b` of a word, and `byte_in r b` is that byte of `r`, with its name.
abbrev pub name_of : layout.Byte → Byte
name_of layout.digit_separator = bytes.DigitSeparator
name_of layout.base_prefix = bytes.BasePrefix
name_of layout.base_suffix = bytes.BaseSuffix
name_of layout.mantissa_radix = bytes.MantissaRadix
name_of layout.exponent_base = bytes.ExponentBase
name_of layout.exponent_radix = bytes.ExponentRadix

abbrev pub byte_in : Record → layout.Byte → NamedByte
byte_in r b = named (name_of b) (r.byte b)

-- `causes_of shape word` has a slot for each cause for which a word is not as `shape` demands. A cause that `word` does
-- not have is `None`.
abbrev pub causes_of : Shape → ℕ → List (Option Cause)
causes_of (radix_in_range layout.mantissa_radix) word = out_of_range (byte_in (raw word) layout.mantissa_radix) ∷ []
causes_of (radix_in_range b) word = let byte = byte_in (raw word) b in if_present byte (out_of_range byte) ∷ []
causes_of (absent_or_punctuation b) word =
    let byte = byte_in (raw word) b in if_present byte (not_punctuation (raw word) byte) ∷ []
causes_of roles_differ word =
    let byte = byte_in (raw word) in
    clash (raw word) (byte layout.digit_separator) (byte layout.base_prefix)
    ∷ clash (raw word) (byte layout.digit_separator) (byte layout.base_suffix)
    ∷ clash (raw word) (byte layout.base_prefix) (byte layout.base_suffix) ∷ []
causes_of (not_both a b) word = both_set (raw word) (flag_setter a) (flag_setter b) ∷ []
causes_of (position_allowed part) word = needs_position (raw word) part ∷ []
causes_of reserved_zero word = reserved_bits word ∷ []

-- `slots_of word rule` has the slots of the causes for which `word` breaks `rule`, with reasons in place of the causes.
abbrev pub slots_of : ℕ → Rule → List (Option Reason)
slots_of word rule = map (option_map (reason_of (raw word) (Some rule))) (causes_of (shape_of rule) word)

-- `reasons_of word` has the slots of all rules, in their order.
abbrev pub reasons_of : ℕ → List (Option Reason)
reasons_of word = flat_map (slots_of word) rules_in_order

-- `punctuation_in r` lists the bytes of `r` that are punctuation: separator, prefix and suffix.
abbrev pub punctuation_in : Record → List NamedByte
punctuation_in r = map (byte_in r) (layout.digit_separator ∷ layout.base_prefix ∷ layout.base_suffix ∷ [])

-- `options_causes word exponent_byte point_byte` lists the causes for which a word can refuse two options. A cause that
-- these do not have with `word` is `None`.
abbrev pub options_causes : ℕ → ℕ → ℕ → List (Option Cause)
options_causes word exponent_byte point_byte =
    let r = raw word in
    let exponent = named bytes.ExponentCharacter exponent_byte in
    let point = named bytes.DecimalPoint point_byte in
    not_punctuation r exponent ∷ not_punctuation r point ∷ clash r exponent point
    ∷ map (clash r exponent) (punctuation_in r) ++ map (clash r point) (punctuation_in r)

-- `options_reasons_of word exponent_byte point_byte` has a slot for each row of `options_causes`, with the reason for
-- its cause, if there is one.
abbrev pub options_reasons_of : ℕ → ℕ → ℕ → List (Option Reason)
options_reasons_of word exponent_byte point_byte =
    map (option_map (reason_of (raw word) None)) (options_causes word exponent_byte point_byte)

-- `Breaks reason rule` holds if a word that has `reason` breaks `rule` for this reason.
abbrev pub Breaks : Reason → Rule → Type 0
Breaks reason rule =
    (reason.rule ≡ Some rule) ⊎ ((reason.followers.0 ≡ Some rule) ⊎ (reason.followers.1 ≡ Some rule))

-- `EachReason P slots` holds if `P` holds for each reason in `slots`.
abbrev pub EachReason : (Reason → Type 0) → List (Option Reason) → Type 0
EachReason P slots = AllByRecursion (λ slot. IfSome slot P) slots

-- `NoReason slots` holds if no slot has a reason.
abbrev pub NoReason : List (Option Reason) → Type 0
NoReason slots = AllByRecursion (λ slot. slot ≡ None) slots
