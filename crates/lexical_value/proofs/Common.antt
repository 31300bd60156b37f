-- The names that several proofs of this crate cite, passed on from one place. Declares nothing.
pub use Rattle.core.specs.Dec2flt.Rounding.{IsNearestBits}
pub use Rattle.lexical_literal.specs.Literal.{Literal, Reads, is_float, is_minus}
pub use Rattle.lexical_literal.specs.Read.{exact, exponent, mantissa}
pub use Rattle.lexical_literal.specs.declared.kind.Kind.{Kind}
pub use Rattle.lexical_number.specs.Float.{format_of, raised_down, raised_up}
pub use Rattle.lexical_number.specs.Leading.{IsCutTo, Leads}
pub use Rattle.lexical_number.specs.Number.{digits_in, number, number_after, places}
pub use Rattle.lexical_number.specs.Numeral.{magnitude_size, size_of}
pub use Rattle.lexical_util.specs.Record.{Record, effective_exponent_base, effective_exponent_radix, raw}
pub use Rattle.lexical_value.specs.Float.{is_binary, is_decimal, nearest}
pub use Rattle.lexical_value.specs.Integer.{IsInteger, IsNoInteger, integer_size}
pub use Rattle.lexical_value.specs.Kind.{IsNotWorth, IsWorth, float_worth, format_by, integer_worth, is_exact, width, within, worth, wrapped}
pub use Rattle.lexical_value.specs.Scaled.{IsNotScaled, IsScaled, IsUnfit, over, under}
pub use Rattle.lexical_value.specs.Value.{SameDigits, SameValue, denominator, numerator, power, scale, spelled}
pub use Rattle.lexical_value.specs.declared.integer.ValueErrorKind.{ValueErrorKind}
pub use Rattle.std.proofs.Common.{Bool, Err, IfOk, Ok, Result, Some, ap, arith, cond, false, if◌then◌else◌, inl, inr, le_refl, le_trans, mul_assoc, not, refl, subst, suc}
pub use Rattle.std.proofs.Common.{sym, true, true≢false, zero, ℕ, ◌%◌, ◌*◌, ◌++◌, ◌+◌, ◌-◌, ◌/◌, ◌<◌, ◌^◌, ◌||◌, ◌∙◌, ◌≡◌, ◌≤◌, ◌⊎◌}
pub use Rattle.std.proofs.Math.Nat.{mod-add-div', mod-eq_of_lt, mod-lt, mul-le-mul, mul-mod_left, pow-le-pow_right, pow-zero}
pub use Rattle.std.proofs.lemmas.Bool.{false_from_ne_true, not-false, not-true}
pub use Rattle.std.proofs.lemmas.Bool.Decides.{nat_tests}
pub use Rattle.std.specs.Prelude.{SomeIff, from_bits, position, unwrap_or, ◌==◌}
pub use lib.Ieee.{neg, round}
