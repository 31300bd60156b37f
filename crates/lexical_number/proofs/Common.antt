-- The names that several proofs of this crate cite, passed on from one place. Declares nothing.
pub use Rattle.core.proofs.dec2flt.ExactLemmas.{IsTenTo-get_or, ten_to_pos}
pub use Rattle.core.proofs.dec2flt.Extremes.{nearest_of_huge, nearest_of_tiny, nearest_of_zero, round_tens}
pub use Rattle.core.proofs.dec2flt.LimbsLemmas.{limb_weight-suc, limb_weight-zero, power_pos, power_step, value_below-set, value_below-suc, value_below-zero}
pub use Rattle.core.specs.Dec2flt.Rounding.{IsCut, IsJustAbove, IsNearestBits, IsSignificand, IsWithin, scaled_bits}
pub use Rattle.lexical_base.specs.Digits.{byte_value, digit_of}
pub use Rattle.lexical_number.specs.Float.{format_of, raised_down, raised_up}
pub use Rattle.lexical_number.specs.Leading.{IsCutTo, Leads}
pub use Rattle.lexical_number.specs.Nearest.{HasFirst, IsFront, IsNear, LiesAround}
pub use Rattle.lexical_number.specs.Number.{digits_in, number, number_after, places}
pub use Rattle.lexical_number.specs.Shortest.{HasSize, is_whole, power_at, unit_of}
pub use Rattle.lexical_number.specs.Small.{leading_zeros}
pub use Rattle.lexical_number.specs.declared.nearest.Around.{Around}
pub use Rattle.std.proofs.Common.{Bool, Equal, Greater, IsTrue, Less, List, None, Option, Ordering, Some, [], ap, arith, cond, div-add-mod', drop, drop-cons}
pub use Rattle.std.proofs.Common.{eq-zero-or-pos, eqb-true, false, from_bits, get_or, if◌then◌else◌, inl, inr, le_of_eq, le_of_mul-le-mul_right, le_trans}
pub use Rattle.std.proofs.Common.{length, lt_of_mul-lt-mul_right, lt_of_not-le, min, mod-eq_of_lt, mul-le-mul, mul-le-mul_left, mul-le-mul_right}
pub use Rattle.std.proofs.Common.{mul-lt-mul_of_pos_right, mul-pos, nat_cmp, nat_eq, nat_le, nat_lt, not, pow-suc, refl, set, slice_index, slice_index_or}
pub use Rattle.std.proofs.Common.{subst, suc, sym, true, zero, ℕ, ◌%◌, ◌&&◌, ◌*◌, ◌++◌, ◌+◌, ◌-◌, ◌/◌, ◌<◌, ◌==◌, ◌^◌, ◌||◌, ◌↔◌, ◌∙◌, ◌∷◌, ◌≡◌, ◌≤◌, ◌⊎◌}
pub use Rattle.std.proofs.Math.Nat.{div-eq_of_lt-le, le_of_lt, mod-add-div, mod-add-mod, mod-eq-sub-div-mul, mod-lt, mul_assoc, pow-le-pow_right, pow-zero}
pub use Rattle.std.proofs.lemmas.Bool.Decides.{nat_tests}
pub use Rattle.std.proofs.lemmas.Bool.{agree_below, agree_below_at, and_parts, cases_lt, false≢true, le-ltb, lt-ltb}
pub use Rattle.std.proofs.lemmas.Cmp.{ranked}
pub use Rattle.std.proofs.lemmas.Int.Digits.{number_after_append, number_after_ge, number_lt}
pub use Rattle.std.proofs.lemmas.List.Elements.{filter_map-append}
pub use Rattle.std.proofs.lemmas.List.{get_or-set_other, get_or-set_same}
pub use Rattle.std.specs.Bool.{passes}
pub use Rattle.std.specs.Cmp.{nat_cmp_is}
pub use Rattle.std.specs.Int.Digits.{number_from_digits_after}
pub use Rattle.std.specs.List.{cons_option}
pub use lib.Count.{count_leading_zeros, leading_top}
pub use lib.Dec.{lit<, lit≤}
pub use lib.Ieee.Bits.{of_bits-to_bits, to_bits-lt}
pub use lib.Ieee.Scale.{round_same}
pub use lib.Ieee.{Format, binary32, binary64, hid, low, ones, prec}
pub use lib.Pow.{pow-add, pow_mono, pow_pos, shl_lt, shr-shr}
pub use mir.Val.{bool_byte}
pub use native.Mathlib.Nat.{eq_of_mul-eq-mul_right, mul-mod_left}
unfoldable pub use Rattle.core.specs.Dec2flt.Limbs.{limb_weight, value_below}
