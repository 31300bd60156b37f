-- What a list reads is the number that a form has written.
use Rattle.lexical_writer.proofs.Common.{Bool, Form, Grammar, IsFirst, IsWhole, Kind, List, Literal, NoForm, None, Ok, Option, Read, Reads, Record, Some, Task}
use Rattle.lexical_writer.proofs.Common.{arith, eqb-true, exact, false, float_worth, integer_worth, is_binary, is_decimal, is_exact, is_float, is_minus}
use Rattle.lexical_writer.proofs.Common.{length-take-le, mantissa, nat_tests, nearest, negsuc, notation_of, pos, raw, refl, slice_get, subst, suc, sym, text_of}
use Rattle.lexical_writer.proofs.Common.{true, whole_of, with_sign, within, worth, ℕ, ℤ, ◌<◌, ◌==◌, ◌||◌, ◌≡◌}
use Rattle.std.proofs.lemmas.Option.{get_or_from_slice_get, slice_get_within}
use Rattle.std.specs.Float.{Float, Format}
use Rattle.lexical_forms.specs.FormList.{FormList}
use Rattle.lexical_forms.specs.Forms.{ReadsIn}
use Rattle.lexical_literal.specs.Front.{NoneBy}
use Rattle.std.specs.Prelude.{Err, IsFalse, MatchOption, MatchResult, Result, is_ok}
use Rattle.lexical_number.specs.Numeral.{size_of}
use Rattle.lexical_number.specs.declared.numeral.Numeral.{Numeral}
use Rattle.lexical_value.specs.Integer.{integer_size}
use Rattle.lexical_value.specs.Kind.{IsNotWorth}
use Rattle.lexical_value.specs.declared.integer.ValueErrorKind.{ValueErrorKind}
use Rattle.lexical_value.specs.declared.integer.ValueErrorKind.TheVariants as kinds
use Rattle.lexical_writer.specs.Choice.{IsAmount, IsReadWith, IsReal, has_worth}
use Rattle.lexical_forms.proofs.BehindLemmas.{plain_in, plain_of}
use Rattle.lexical_value.proofs.KindLemmas.{exact_float, limited_worth}
use Rattle.lexical_literal.specs.declared.kind.FloatKind.TheVariants as floats

-- A literal of the exact kind is worth the float that is nearest to it.
nearest_is : (f : Format) (x : Float) (read : Read) → read.kind ≡ exact → IsReal f x read → x ≡ nearest f (raw read.format).byte read.literal
nearest_is f x read kind real = grind (arith, exact_float)

-- Within the limits, a float, or an integer of the exact kind, is worth the float that is nearest to it.
worth_nearest : (f : Format) (kind : Kind) (r : Record) (l : Literal) → (is_decimal r.byte || is_binary r.byte) ≡ true → kind.floats ≡ floats.Nearest
    → within kind.limits (is_minus l.sign) (mantissa r.byte l) (nearest f r.byte l) ≡ Ok (nearest f r.byte l)
    → (is_exact kind.integers || is_float l) ≡ true → float_worth kind f r.byte l ≡ Ok (nearest f r.byte l)
worth_nearest f kind r l known near fits plain = grind (arith, limited_worth)

-- What is worth the float that is nearest to a literal that is written for a float is this float in the style.
amount_is : (f : Format) (x : Float) (decimals : Option ℕ) (g : Grammar) (l : Literal) (read : Read)
    → (decimals ≡ None → x ≡ nearest f (raw g.word).byte l) → IsReal f (nearest f (raw g.word).byte l) read → IsAmount f x decimals g l read
amount_is f x None g l read near worth = subst (λ y. IsReal f y read) (sym (near refl)) worth
amount_is f x (Some n) g l read near worth = worth

-- If a literal is written for a float, and worth the nearest one, it is this float in the style.
pub plain_real : (f : Format) (x : Float) (decimals : Option ℕ) (g : Grammar) (read : Read) → read.format ≡ g.word
    → (is_decimal (raw g.word).byte || is_binary (raw g.word).byte) ≡ true → read.kind.floats ≡ floats.Nearest
    → ((negative : Bool) → (n : ℕ) → (y : Float) → (decimals ≡ None → x ≡ y) → within read.kind.limits negative n y ≡ Ok y)
    → (is_exact read.kind.integers || is_float read.literal) ≡ true → (decimals ≡ None → x ≡ nearest f (raw g.word).byte read.literal)
    → IsAmount f x decimals g read.literal read
plain_real f x decimals g read word known near fits plain has = grind (arith, amount_is, worth_nearest)

-- What is worth the same float as a literal of the exact kind that is written for a float is this float in the style.
pub same_real : (f : Format) (x : Float) (decimals : Option ℕ) (g : Grammar) (own read : Read) → own.kind ≡ exact → own.format ≡ g.word
    → (decimals ≡ None → x ≡ nearest f (raw g.word).byte own.literal) → (y : Float) → IsReal f y own → IsReal f y read
    → IsAmount f x decimals g own.literal read
same_real f x decimals g own read kind word has y same real = amount_is f x decimals g own.literal read has
    (subst (λ z. IsReal f z read) (subst (λ w. y ≡ nearest f (raw w).byte own.literal) word (nearest_is f y own kind same)) real)

abbrev size_without : ℤ → ℕ
size_without (pos n) = n
size_without (negsuc n) = suc n

size_with : (a : Bool) (n : ℕ) → size_without (with_sign a n) ≡ n
size_with a n = grind arith

-- An integer literal that is written for an integer is worth it by a kind that keeps its size.
pub kept_whole : (negative : Bool) (size : ℕ) (g : Grammar) (read : Read) → read.format ≡ g.word → is_float read.literal ≡ false
    → worth read.kind.integers negative size ≡ Some (negative, size)
    → is_minus read.literal.sign ≡ negative
    → with_sign negative size ≡ with_sign (is_minus read.literal.sign) (integer_size (raw g.word).byte read.literal)
    → IsWhole (with_sign negative size) read
kept_whole negative size g read word whole kept sign has = grind (arith, size_with)

-- What is written by the first form of a list is its first literal.
pub first_reads : (forms : List Form) (form : Form) (text : List ℕ) (l : Literal) (index : ℕ) → slice_get forms index ≡ Some form → index ≡ 0
    → form.opening.size ≡ 0 → Reads (notation_of form.syntax) l text
    → IsFirst forms text index (record { format = form.syntax.word; literal = l; kind = form.kind; opened = 0 })
first_reads forms form text l index here first none reads = grind (arith, plain_in, length-take-le)

-- An integer literal is worth what its kind says.
pub whole_is : (read : Read) (o : Option (Bool × ℕ)) → is_float read.literal ≡ false
    → integer_worth read.kind.integers (raw read.format).byte read.literal ≡ o → whole_of read ≡ o
whole_is read o whole is = cc

-- What is above each number is none.
above : (o : Option (Bool × ℕ)) (A : Type 0) (B : Bool × ℕ → Type 0) → ((most : ℕ) → MatchOption o A (λ w. B w × (most < w.1))) → o ≡ None
above None A B all = refl
above (Some w) A B all = absurd (omega (arith, (all w.1).1))

-- What is worth no integer of any type, as an error says, is worth none.
pub never_whole : (read : Read) (error : ValueErrorKind)
    → ((least largest : ℕ) → IsNotWorth read.kind.integers least largest (raw read.format).byte read.literal error) → whole_of read ≡ None
never_whole read kinds.Float none = let float = none 0 0 in cc
never_whole read kinds.TooLarge none = whole_is read None (none 0 0).0 (above _ _ (λ w. w.0 ≡ false) (λ most. (none 0 most).1))
never_whole read kinds.TooSmall none = whole_is read None (none 0 0).0 (above _ _ (λ w. w.0 ≡ true) (λ most. (none most 0).1))
never_whole read other none = absurd (none 0 0)

-- A literal without a decimal point and an exponent has a worth if it is worth an integer.
pub worth_is : (read : Read) (result : Result Numeral ValueErrorKind) → is_float read.literal ≡ false
    → MatchResult result (λ own. IsFalse (is_float read.literal)
    × (integer_worth read.kind.integers (raw read.format).byte read.literal ≡ Some (own.negative, size_of own)))
    (λ error. (least largest : ℕ) → IsNotWorth read.kind.integers least largest (raw read.format).byte read.literal error)
    → is_ok result ≡ has_worth read
worth_is read (Ok own) whole is = let worth = is.1 in cc
worth_is read (Err error) whole is = let none = never_whole read error is in cc

-- What is a literal of a form of a list is not a literal of none.
pub none_at : (forms : List Form) (form : Form) (text : List ℕ) (index : ℕ) (l : Literal) → slice_get forms index ≡ Some form
    → form.opening.size ≡ 0 → Reads (notation_of form.syntax) l text → NoForm forms text → ⊥
none_at forms form text index l here none reads never = subst (λ (f : Form). NoneBy (ReadsIn f) text)
    (get_or_from_slice_get forms index form form here) (never index form (slice_get_within forms index form here)) l
    (plain_in form text none l reads)

-- What a list reads by a form without an opening is a literal of the form, with its kind.
pub own_read : (forms : List Form) (form : Form) (text : List ℕ) (at index : ℕ) (read : Read) → (at == index) ≡ true → IsFirst forms text at read
    → slice_get forms index ≡ Some form → form.opening.size ≡ 0
    → (read.format ≡ form.syntax.word) × (read.kind ≡ form.kind) × Reads (notation_of form.syntax) read.literal text
own_read forms form text at index read same first here none = grind (arith, eqb-true, plain_of)

-- What a form writes as `l`, and a list reads as what this is, is read as the number.
pub read_as : (task : Task) (list : FormList) (form : Form) (text : List ℕ) (syntax : Grammar) (l own : Literal) (read : Read) (index : ℕ)
    → syntax ≡ form.syntax → l ≡ own → Reads (notation_of form.syntax) l text → task.writes form.syntax (Ok l) → IsFirst list.forms text index read
    → (task.writes syntax (Ok own) → task.is syntax own read)
    → (l : Literal) × task.writes form.syntax (Ok l) × (text ≡ text_of l) × IsReadWith list None text (task.is form.syntax l)
read_as task list form text syntax l own read index same one reads has first is = grind (arith, nat_tests)
