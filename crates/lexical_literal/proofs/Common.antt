-- The names that several proofs of this crate cite, passed on from one place. Declares nothing.
pub use Rattle.lexical_literal.specs.Additions.Causes.{IsWeaker, is_at_gap, is_separator, kind_set, lets, place_of}
pub use Rattle.lexical_literal.specs.Additions.Explained.{alone, blame, cases, group_at, mask_of, otherwise, refusal_of, requirements, separators}
pub use Rattle.lexical_literal.specs.Additions.Explained.{some_unmet, spot_of, unmet, zeros}
pub use Rattle.lexical_literal.specs.Additions.GroupSize.{IsReadOf, first_group, follows, goes, group_after, group_allows, grow, grown, is_idle}
pub use Rattle.lexical_literal.specs.Additions.GroupSize.{is_size, makes_empty, most, next_part, role_next, steps_of, unsized, with_rules, has_size}
pub use Rattle.lexical_literal.specs.Additions.GroupSize.{has_sizes}
pub use Rattle.lexical_literal.specs.Additions.Literal.{AreSums, IsCut, IsMantissa, IsSum, cut, summed_in}
pub use Rattle.lexical_literal.specs.Additions.Scan.{HasRoles, HasSizes, IsAt, IsBegun, IsDigitAt, IsOpened, IsReadOn, IsReady, IsRefused, IsRunOn, IsSeparated}
pub use Rattle.lexical_literal.specs.Additions.Scan.{IsUsual, at_stage, between, counts_of, fresh, integer_counts, is_free, may_read, up_to}
pub use Rattle.lexical_literal.specs.Additions.Step.{Cuts, HasLengths, accepted_by, add, add_more, admits, after, after_digit, after_mark, after_point}
pub use Rattle.lexical_literal.specs.Additions.Step.{awaits_integer, complete_by, continues, count, cuts_of, digits_of, digits_piece, digits_suffice, ends}
pub use Rattle.lexical_literal.specs.Additions.Step.{finishes, forbids_plus, gap_fits, has_digit, implies, is_accepted, is_bare, is_complete, is_fresh, is_led}
pub use Rattle.lexical_literal.specs.Additions.Step.{is_lone, is_negative, is_open, is_run, is_signed, lacks_prefix, leads_to_prefix, may_float, may_follow}
pub use Rattle.lexical_literal.specs.Additions.Step.{may_lead, move_by, needs_exponent, no_condition, no_cuts, part_of, piece_number, piece_of, role_at, start}
pub use Rattle.lexical_literal.specs.Additions.Step.{step, step_by, takes, takes_in, tally, tally_by, walk, walk_by, with_prefix}
pub use Rattle.lexical_literal.specs.Additions.Stop.{HasBegun, HasFound, IsCountedFront, IsFronted, IsLongest, IsMeasured, IsStopped, IsUnderway, IsWithin}
pub use Rattle.lexical_literal.specs.Cause.{Allows, IsCause, IsRefusal, IsUnmet, Marks, adding, bare, binds, case_set, first_unmet, index_behind, is_at}
pub use Rattle.lexical_literal.specs.Cause.{is_one_of, lowest, marks_of, number_separator_flags, requirement_flags, requiring, shown, tail_of}
pub use Rattle.lexical_literal.specs.Front.{IsFront, IsValidUpTo, NoFront, NoLiteral, ReadsFront}
pub use Rattle.lexical_literal.specs.Groups.{higher, is_grouped}
pub use Rattle.lexical_literal.specs.Literal.{IsLiteral, IsSpelled, Literal, Reads, condition, has_leading_zero, is_absent, is_float, is_minus, is_none_or_one}
pub use Rattle.lexical_literal.specs.Literal.{is_none_or_prefix, is_plus, is_present, is_zero_led, text_of}
pub use Rattle.lexical_literal.specs.Notation.{IsOnlyRole, Notation, all_conditions, exponent_character_of, has, is_same, kept, lacks_options, notation_of}
pub use Rattle.lexical_literal.specs.Notation.{number_of, point_of, radix_of, set_of_role}
pub use Rattle.lexical_literal.specs.Parts.{IsRead, literal_of}
pub use Rattle.lexical_literal.specs.Read.{Read, exact, exponent, mantissa}
pub use Rattle.lexical_literal.specs.Readings.{AllIn, HasTwoReadings, PartsHaveRoles, refuses_first, run_byte}
pub use Rattle.lexical_literal.specs.Run.{are_fit, ends_with, is_fit, is_place}
pub use Rattle.lexical_literal.specs.Syntax.{contradiction, first_fault}
pub use Rattle.lexical_literal.specs.declared.cause.Blame.{Blame}
pub use Rattle.lexical_literal.specs.declared.cause.ReadErrorKind.{ReadErrorKind}
pub use Rattle.lexical_literal.specs.declared.cause.Refusal.{Refusal}
pub use Rattle.lexical_literal.specs.declared.cause.Spot.{Spot}
pub use Rattle.lexical_literal.specs.declared.cause.TheConstants.{SEPARATORS}
pub use Rattle.lexical_literal.specs.declared.group_size.Group.{Group}
pub use Rattle.lexical_literal.specs.declared.scan.Reading.{Reading}
pub use Rattle.lexical_literal.specs.declared.step.Piece.{Piece}
pub use Rattle.lexical_literal.specs.declared.step.Stage.{Stage}
pub use Rattle.lexical_literal.specs.declared.step.Summary.{Summary}
pub use Rattle.lexical_literal.specs.declared.stop.Found.{Found}
pub use Rattle.lexical_literal.specs.declared.stop.Stopped.{Stopped}
pub use Rattle.lexical_literal.specs.declared.syntax.Condition.{Condition}
pub use Rattle.lexical_literal.specs.declared.syntax.Conditions.{Conditions}
pub use Rattle.lexical_literal.specs.declared.syntax.Grammar.{Grammar}
pub use Rattle.lexical_literal.specs.declared.syntax.Options.{Options}
pub use Rattle.lexical_number.proofs.SmallLemmas.{fitting_word}
pub use Rattle.lexical_number.specs.Number.{digits_in, number, places}
pub use Rattle.lexical_number.specs.Small.{IsShort, IsSmall}
pub use Rattle.lexical_util.specs.Ascii.{ByteSet, allowed_ascii}
pub use Rattle.lexical_util.specs.Digits.{byte_value, digit_of}
pub use Rattle.lexical_util.specs.Layout.{Flag, bit, part, separators_in}
pub use Rattle.lexical_util.specs.Record.{Record, effective_exponent_radix, flag_bits, raw}
pub use Rattle.lexical_util.specs.Roles.{cased, other_case, signs, suffix, used_separator}
pub use Rattle.lexical_util.specs.declared.feature_format.roles.Role.{Role}
pub use Rattle.lexical_util.specs.declared.format_flags.Part.{Part}
pub use Rattle.std.proofs.Common.{Bool, Err, IfSome, IsErrAnd, IsFalse, IsNone, IsSome, IsTrue, List, None, Ok, Option, Ordering, Result, Some, [], add-one, ap}
pub use Rattle.std.proofs.Common.{append-nil, append_assoc, arith, bit_and, bit_or, cond, drop, drop-cons, false, get_or, if◌then◌else◌, inl, inr, length}
pub use Rattle.std.proofs.Common.{length-append, nat_le, nat_lt, not, refl, replicate, set, subst, suc, sum_by, sym, take, take-append-drop, true, zero, ℕ, ◌%◌}
pub use Rattle.std.proofs.Common.{◌&&◌, ◌*◌, ◌++◌, ◌+◌, ◌-◌, ◌<◌, ◌==◌, ◌^◌, ◌||◌, ◌↔◌, ◌∙◌, ◌∷◌, ◌≡◌, ◌≢◌, ◌≤◌, ◌⊎◌}
pub use Rattle.std.proofs.Math.Nat.{mod-add-mod, mod-lt, mod-mod}
pub use Rattle.std.proofs.lemmas.Bool.Decides.{nat_tests}
pub use Rattle.std.proofs.lemmas.Bool.{and_from, and_parts, and_right, cases_Bool, cases_lt, eqb-true, false_from_ne_true, false≢true, lt-ltb, or_from, or_left}
pub use Rattle.std.proofs.lemmas.Bool.{or_parts, or_right}
pub use Rattle.std.proofs.lemmas.Grind.{common_steps}
pub use Rattle.std.proofs.lemmas.Int.Digits.{number_after_append}
pub use Rattle.std.proofs.lemmas.List.Elements.{filter_map-append}
pub use Rattle.std.proofs.lemmas.List.Folds.{list_any-append}
pub use Rattle.std.proofs.lemmas.List.{drop-drop, drop_more, ext_get_or, get_or-take, length-drop, length-take-le, take-take, take_all, take_more}
pub use Rattle.std.proofs.lemmas.Nat.{and_assoc, and_comm, one_shl}
pub use Rattle.std.proofs.lemmas.Option.{slice_get-get_or, slice_get_within}
pub use Rattle.std.specs.Int.Digits.{number_from_digits_after}
pub use Rattle.std.specs.Int.{bit_not, w128}
pub use Rattle.std.specs.List.{AllByRecursion, cons_option, find, list_any, position_or_len}
pub use Rattle.std.specs.Option.{option_or}
pub use Rattle.std.specs.Prelude.{is_some, option_map, slice_get}
