-- The names that most proofs of this crate cite, passed on from one place. Declares nothing.
pub use Rattle.std.proofs.Common.{Bool, IsTrue, List, [], ap, arith, bit_and, bit_or, eqb-true, false, if◌then◌else◌, inl, inr, lt_of_le_of_lt, min}
pub use Rattle.std.proofs.Common.{mod-eq_of_lt, mod-lt, mul-le-mul_left, nat_lt, not, refl, subst, sum_by, sym, true, ℕ, ◌%◌, ◌&&◌, ◌*◌, ◌+◌, ◌-◌, ◌/◌, ◌<◌}
pub use Rattle.std.proofs.Common.{◌==◌, ◌^◌, ◌||◌, ◌↔◌, ◌∙◌, ◌∷◌, ◌≡◌, ◌≢◌, ◌≤◌, ◌⊎◌}
pub use Rattle.std.proofs.lemmas.Bool.{agree_below_at, and_parts, false≢true}
pub use Rattle.std.proofs.lemmas.Bool.Decides.{nat_tests}
pub use Rattle.std.proofs.lemmas.Nat.{and_le_r, and_mask, pow-add, pow_pos}
pub use Rattle.std.specs.Int.Bits.{and_zero_r}
pub use Rattle.std.specs.List.{AllByRecursion, fold, list_all, range_with_len}
pub use Rattle.lexical_base.specs.Ascii.{ByteSet, allowed_ascii}
pub use Rattle.lexical_base.specs.Digits.{digits_of}
pub use Rattle.lexical_base.specs.declared.error.Error.{Error}
pub use Rattle.lexical_base.specs.declared.error.Error.TheVariants.{Success}
pub use Rattle.lexical_flags.specs.Layout.{Byte, Flag, IsClean, bit, flags, part, shift}
pub use Rattle.lexical_flags.specs.Record.{HasBytes, Record, effective, effective_exponent_radix, fill, raw, separator_allowed, trim}
pub use Rattle.lexical_flags.specs.Roles.{AreDisjoint, digits, five_roles, format_roles, other_case, signs}
pub use Rattle.lexical_flags.specs.Rules.{IsAbsentOrPunctuation, IsRadix, shape_of}
pub use Rattle.lexical_flags.specs.declared.format_flags.rule.Rule.{Rule}
