-- Lemmas on the names of setters, and on white space.
use Rattle.std.proofs.Common.{rules, ℕ, ◌≡◌, ◌∙◌, List, Option, Some, refl, sym, ap}
use Rattle.std.proofs.lemmas.Str.Ascii.{trim_ascii_is}
use Rattle.std.specs.List.{AllByRecursion, find}
use Rattle.std.specs.Str.{IsTrimAscii, bytes_eq}
use Rattle.lexical_util.specs.declared.edits.setters.Setter.{Setter}
use Rattle.lexical_util.specs.declared.edits.setters.TheConstants.{ALL_SETTERS}
use Rattle.lexical_util.specs.Additions.Settings.{name_of, trimmed, unindented}

-- `named text` is the first setter with the name `text`.
named : List ℕ → Option Setter
unfolding name_of
named text = find (λ setter. bytes_eq (name_of setter) text) ALL_SETTERS

-- Each setter is the first with its name.
named_itself : (setter : Setter) → named (name_of setter) ≡ Some setter
unfolding named name_of
named_itself setter = search rules

-- Setters with the same name are equal.
pub same_name : (s t : Setter) → name_of s ≡ name_of t → s ≡ t
same_name s t same = let equal : Some s ≡ Some t = sym (named_itself s) ∙ ap named same ∙ named_itself t in cc

-- What holds of each setter in the list of all setters holds of every setter.
pub every : (P : Setter → Type 0) → AllByRecursion P ALL_SETTERS → (setter : Setter) → P setter
every P all setter = search rules

-- The trimmed text is what std's `trim_ascii` returns.
pub trimmed_is : (text own : List ℕ) → IsTrimAscii text own → trimmed text ≡ own
trimmed_is text own is = sym (trim_ascii_is text own (unindented text) refl is)
