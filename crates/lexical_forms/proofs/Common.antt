-- The names that most proofs of this crate cite, passed on from one place. Declares nothing.
pub use Rattle.lexical_forms.specs.Additions.Forms.{AreFalse, ArePassed, GoesTo, GoesWithin, IsExcluded, IsFoundForm, IsFoundFrontForm, IsFrontIn, IsInside}
pub use Rattle.lexical_forms.specs.Additions.Forms.{IsLed, IsLongestPast, IsLow, IsOpened, IsOpenedTo, IsPassed, IsPast, IsRefusedAt, IsSilent, IsSpare}
pub use Rattle.lexical_forms.specs.Additions.Forms.{IsStoppedBefore, IsStoppedBehind, IsStranger, LacksZero, Leads, NoFrontPast, NonePast}
pub use Rattle.lexical_forms.specs.Additions.Forms.{PlaysNoRole, behind, further, special_separator, spells}
pub use Rattle.lexical_forms.specs.Additions.Token.{AreBare, Counts, HasNoWord, HasSumsOf, IsAsked, IsCounted, IsEnd, IsEnded, IsFirstYet, IsMade, IsOverFrom}
pub use Rattle.lexical_forms.specs.Additions.Token.{IsOwn, IsPicked, IsWinner, IsYet, NoCandidate, NoOwn, NoneLonger, go_on_with, goes_on, has_float}
pub use Rattle.lexical_forms.specs.Additions.Token.{has_prefix, is_in_word, is_longer, suffixed, whole}
pub use Rattle.lexical_forms.specs.FormList.{FormList, have_openings}
pub use Rattle.lexical_forms.specs.Forms.{Begins, HasFront, IsErrorIn, IsErrorOfForm, IsFirst, IsFormError, IsGreatest, IsReadByForms, NoForm, Reaches}
pub use Rattle.lexical_forms.specs.Forms.{ReadsForm, ReadsIn, is_other_prefix, reach, reached, refusal_in, sign_size}
pub use Rattle.lexical_forms.specs.Opening.{spelling}
pub use Rattle.lexical_forms.specs.Specials.{is_spelled, letter_of, signed, special_behind, special_of}
pub use Rattle.lexical_forms.specs.Suffix.{begins, byte_before, is_followed, is_word_byte, kind_with, meets, more_of, stop_end, suffix_size, suffix_words}
pub use Rattle.lexical_forms.specs.Suffix.{word_size}
pub use Rattle.lexical_forms.specs.Token.{HasNone, IsAhead, IsCandidate, IsChosen, IsCut, IsFollowed, IsOver, IsReadByTokens, IsRefused, IsToken}
pub use Rattle.lexical_forms.specs.Token.{IsTokenError, gives_back, is_alone, is_shorter, is_stopped, takes_point, tried}
pub use Rattle.lexical_forms.specs.declared.form.Form.{Form}
pub use Rattle.lexical_forms.specs.declared.list.Furthest.{Furthest}
pub use Rattle.lexical_forms.specs.declared.list.PointsBack.{PointsBack}
pub use Rattle.lexical_forms.specs.declared.list.Tokens.{Tokens}
pub use Rattle.lexical_forms.specs.declared.specials.Sign.{Sign}
pub use Rattle.lexical_forms.specs.declared.candidate.Candidate.{Candidate}
pub use Rattle.lexical_forms.specs.declared.token.Token.{Token}
pub use Rattle.lexical_literal.proofs.OneCauseLemmas.{one_refusal}
pub use Rattle.lexical_literal.proofs.PieceLemmas.{front_cut, front_read, measured_cut, whole_read}
pub use Rattle.lexical_literal.specs.Additions.GroupSize.{goes, with_rules}
pub use Rattle.lexical_literal.specs.Additions.Literal.{AreSums, HasSums, before_exponent, cut}
pub use Rattle.lexical_literal.specs.Additions.Step.{Cuts, HasLengths, cuts_of, role_at}
pub use Rattle.lexical_literal.specs.Additions.Stop.{IsCountedFront, IsFronted, IsMeasured, IsStopped, IsWithin}
pub use Rattle.lexical_literal.specs.Cause.{Explained, IsCause, IsRefusal, bare, is_in}
pub use Rattle.lexical_literal.specs.Front.{BeginsBy, IsFront, IsValidBy, IsValidUpTo, NoFront, NoFrontBy, NoLiteral, NoneBy, ReadsFront, ReadsFrontBy}
pub use Rattle.lexical_literal.specs.Literal.{Literal, Reads, begins_with, is_absent, is_float, is_none_or_one, is_none_or_prefix, is_present, may_begin}
pub use Rattle.lexical_literal.specs.Literal.{text_of}
pub use Rattle.lexical_literal.specs.Notation.{Notation, has, notation_of, radix_of, set_of_role}
pub use Rattle.lexical_literal.specs.Read.{Read}
pub use Rattle.lexical_literal.specs.Readings.{AllIn, prefix_byte, run_byte}
pub use Rattle.lexical_literal.specs.Syntax.{IsSyntax}
pub use Rattle.lexical_literal.specs.declared.cause.ReadErrorKind.{ReadErrorKind}
pub use Rattle.lexical_literal.specs.declared.cause.Refusal.{Refusal}
pub use Rattle.lexical_literal.specs.declared.stop.Found.{Found}
pub use Rattle.lexical_literal.specs.declared.stop.Stopped.{Stopped}
pub use Rattle.lexical_literal.specs.declared.syntax.Grammar.{Grammar}
pub use Rattle.lexical_util.specs.Ascii.{ByteSet}
pub use Rattle.lexical_util.specs.Layout.{Flag}
pub use Rattle.lexical_util.specs.Record.{Record, raw}
pub use Rattle.lexical_util.specs.Roles.{other_case, signs}
pub use Rattle.lexical_util.specs.declared.feature_format.roles.Role.{Role}
pub use Rattle.lexical_util.specs.declared.format_flags.Part.{Part}
pub use Rattle.std.proofs.Common.{All, Bool, Err, IfSome, IsNone, IsSomeAnd, IsTrue, List, None, Ok, Option, Some, [], ap, append-nil, arith, cond, drop}
pub use Rattle.std.proofs.Common.{false, filter, fold, get_or, if◌then◌else◌, inl, inr, length, length-append, map, max, min, nat_eq, nat_le, nat_lt, not}
pub use Rattle.std.proofs.Common.{option_map, position, refl, rules, slice_get, subst, sym, take, true, unwrap_or, ℕ, ◌&&◌, ◌*◌, ◌++◌, ◌+◌, ◌-◌, ◌<◌, ◌==◌}
pub use Rattle.std.proofs.Common.{◌||◌, ◌∙◌, ◌∷◌, ◌≡◌, ◌≤◌, ◌⊎◌}
pub use Rattle.std.proofs.Math.Nat.{le_antisymm}
pub use Rattle.std.proofs.lemmas.Bool.{cases_lt, false≢true}
pub use Rattle.std.proofs.lemmas.Bool.Decides.{nat_tests}
pub use Rattle.std.proofs.lemmas.Grind.{common_steps}
pub use Rattle.std.proofs.lemmas.List.{append_assoc, drop-append-le, drop-drop, drop-take, drop_all, drop_at, drop_more, get_or-append_right, get_or-drop}
pub use Rattle.std.proofs.lemmas.List.{get_or-take, get_or_append_left, length-drop, length-take, length-take-le, take-append-drop, take-append-le, take-take}
pub use Rattle.std.proofs.lemmas.List.{take_all, take_at}
pub use Rattle.std.proofs.lemmas.List.Elements.{All-append, All-from_recursion, All-get_or, All-more, All-take, All-weaker}
pub use Rattle.std.proofs.lemmas.Option.{get_or_from_slice_get, slice_get-get_or, slice_get_past, slice_get_within}
pub use Rattle.std.specs.Borrow.{Bor}
pub use Rattle.std.specs.Char.{is_ascii_digit}
pub use Rattle.std.specs.List.{AllByRecursion, list_any}
