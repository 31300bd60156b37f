-- The names that most proofs of this crate cite, passed on from one place. Declares nothing.
pub use Rattle.lexical_forms.specs.Forms.{IsFirst, NoForm, ReadsForm}
pub use Rattle.lexical_forms.specs.declared.form.Form.{Form}
pub use Rattle.lexical_literal.specs.Groups.{is_grouped}
pub use Rattle.lexical_literal.specs.Literal.{Literal, Reads, begins_with, has_leading_zero, is_absent, is_float, is_minus, is_none_or_one, is_plus, is_present}
pub use Rattle.lexical_literal.specs.Literal.{text_of}
pub use Rattle.lexical_literal.specs.Notation.{Notation, exponent_character_of, has, lacks_options, notation_of, point_of}
pub use Rattle.lexical_literal.specs.Read.{Read, exact, exponent, mantissa}
pub use Rattle.lexical_literal.specs.Syntax.{IsSyntax}
pub use Rattle.lexical_literal.specs.declared.kind.Kind.{Kind}
pub use Rattle.lexical_literal.specs.declared.literal.Parts.{Parts}
pub use Rattle.lexical_literal.specs.declared.syntax.Conditions.{Conditions}
pub use Rattle.lexical_literal.specs.declared.syntax.Grammar.{Grammar}
pub use Rattle.lexical_literal.specs.declared.syntax.Options.{Options}
pub use Rattle.lexical_number.proofs.SmallLemmas.{below}
pub use Rattle.lexical_number.specs.Float.{format_of, is_power_of_two, raised_down, raised_up}
pub use Rattle.lexical_number.specs.Leading.{IsCutTo}
pub use Rattle.lexical_number.specs.Number.{digits_in, number, places}
pub use Rattle.lexical_number.specs.Numeral.{magnitude_size, with_sign}
pub use Rattle.lexical_number.specs.Shortest.{HasSize, is_whole}
pub use Rattle.lexical_util.specs.Ascii.{ByteSet}
pub use Rattle.lexical_util.specs.Digits.{digit_characters, digit_of}
pub use Rattle.lexical_util.specs.Layout.{separators_in}
pub use Rattle.lexical_util.specs.Record.{Record, effective_exponent_base, effective_exponent_radix, raw}
pub use Rattle.lexical_util.specs.declared.format_flags.Part.{Part}
pub use Rattle.lexical_value.specs.Float.{is_binary, is_decimal, nearest}
pub use Rattle.lexical_value.specs.Kind.{float_worth, format_by, integer_worth, is_exact, within, worth}
pub use Rattle.lexical_value.specs.Value.{denominator, numerator, power, scale}
pub use Rattle.lexical_writer.specs.Amount.{IsDigitsOf, IsExponent, IsFinite, IsFloatOf, IsRaised, IsRounded, IsShape, IsWorth, decimals_in, float_error}
pub use Rattle.lexical_writer.specs.Amount.{is_far, is_shown, least_places, rounded, units_at, units_in, with_minus}
pub use Rattle.lexical_writer.specs.Buffer.{IsIn, IsTaken}
pub use Rattle.lexical_writer.specs.Choice.{AreBefore, ArePassed, IsChosen, IsMisread, IsPassedOver, IsRefused, IsSearched, IsStopped, IsWhole, bytes_of_word}
pub use Rattle.lexical_writer.specs.Choice.{has_floats, is_asked, is_own, Task, is_short, steps, text_by, ways, whole_of, words_of}
pub use Rattle.lexical_writer.specs.Private.{IsPut}
pub use Rattle.lexical_writer.specs.Conversion.{SameFraction, own_amount}
pub use Rattle.lexical_writer.specs.Digits.{at_least, begins_decimal, character, ends_group, grouped, grouped_front, no_groups, only_if, separated, size_of}
pub use Rattle.lexical_writer.specs.Digits.{values_of}
pub use Rattle.lexical_writer.specs.Layout.{HasNumber, HasValue, IsLaidOut, allows_exponent, first_error, given_fraction, given_power, has_exponent, has_point}
pub use Rattle.lexical_writer.specs.Layout.{integer_literal, laid_out, literal_of, number_of_size, one_if, refusal}
pub use Rattle.lexical_writer.specs.declared.layout.Amount.{Amount}
pub use Rattle.lexical_writer.specs.declared.layout.Layout.{Layout}
pub use Rattle.lexical_writer.specs.declared.layout.Power.{Power}
pub use Rattle.lexical_writer.specs.declared.layout.Style.{Style}
pub use Rattle.lexical_writer.specs.declared.layout.WriteError.{WriteError}
pub use Rattle.lexical_writer.specs.declared.run.Pattern.{Pattern}
pub use Rattle.lexical_writer.specs.declared.run.Source.{Source}
pub use Rattle.std.proofs.Common.{Bool, Err, IfErr, IfOk, IsFalse, IsSomeAnd, IsTrue, List, None, Ok, Option, Result, Some, [], add-one, ap, append-nil, arith}
pub use Rattle.std.proofs.Common.{cond, div-add-mod', drop, drop-cons, eq-zero-or-pos, false, get_or, if◌then◌else◌, inl, inr, is_some, le_of_mul-le-mul_right}
pub use Rattle.std.proofs.Common.{length, lt_of_mul-lt-mul_right, map, max, min, mul-le-mul, mul-le-mul_left, mul-le-mul_right, mul-lt-mul_of_pos_right}
pub use Rattle.std.proofs.Common.{mul-pos, nat_le, nat_lt, not, option_to_list, refl, replicate, rules, set, slice_get, slice_index_or, subst, suc, sym, take}
pub use Rattle.std.proofs.Common.{true, unwrap_or, zero, ℕ, ℤ, ◌%◌, ◌&&◌, ◌*◌, ◌++◌, ◌+◌, ◌-◌, ◌/◌, ◌<◌, ◌==◌, ◌^◌, ◌||◌, ◌∙◌, ◌∷◌, ◌≡◌, ◌≢◌, ◌≤◌, ◌⊎◌}
pub use Rattle.std.proofs.Math.Nat.{div-add-mod, div-div-eq-div-mul, div-eq_of_lt, mod-eq_of_lt, mod-lt, one-le-pow, pow-le-pow_left, pow-le-pow_right, pow-suc}
pub use Rattle.std.proofs.Math.Nat.{pow-zero}
pub use Rattle.std.proofs.lemmas.Bool.Decides.{nat_tests}
pub use Rattle.std.proofs.lemmas.Bool.{and_from, and_parts, cases_lt, eq-eqb, eqb-true, false≢true, le-ltb, lt-leb, lt-ltb, ltb-true, ne_eqb}
pub use Rattle.std.proofs.lemmas.Int.Digits.{all_below_base_digits_of, digits_of_step, first_digits_of, length-digits_of-le, length-digits_of_step}
pub use Rattle.std.proofs.lemmas.Int.Digits.{number_after_append, number_digits_of}
pub use Rattle.std.proofs.lemmas.List.Elements.{filter_map-append}
pub use Rattle.std.proofs.lemmas.List.{append_assoc, drop-set, drop_all, length-append, length-drop, length-map, length-replicate, length-set, length-take}
pub use Rattle.std.proofs.lemmas.List.{length-take-le, map_push, nil_from_length, replicate-append-replicate, take-append-drop, take_all, take_rest}
pub use Rattle.std.proofs.lemmas.Nat.{div-mul-add, mod-mul-add}
pub use Rattle.std.proofs.lemmas.Option.{get_or_from_slice_get, slice_get_read}
pub use Rattle.std.proofs.lemmas.Result.{IfOk-weaker}
pub use Rattle.std.specs.Int.Digits.{AllBelowBase, digits_of, number_from_digits, number_from_digits_after}
pub use Rattle.std.specs.List.{cons_option}
pub use Rattle.std.specs.Prelude.{IsErrAnd, from_bits, negsuc, pos}
pub use lib.Count.{count_trailing_zeros, leading_top}
pub use lib.Ieee.Scale.{round_same}
pub use lib.Ieee.{Float, low, prec, round}
pub use lib.Pointwise.{bytes_decides}
pub use lib.Pow.{pow-add}
pub use native.Mathlib.Nat.{dvd-mul_right, eq_of_mul-eq-mul_right, mod-mod_of_dvd, mul-mod_left}
unfoldable pub use Rattle.lexical_util.specs.Digits.{byte_value}
