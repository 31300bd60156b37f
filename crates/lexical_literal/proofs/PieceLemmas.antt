-- A literal is cut by the lengths of its parts.
use Rattle.lexical_literal.proofs.Common.{Cuts, Grammar, HasLengths, IsCountedFront, IsCut, IsMeasured, IsRead, List, Literal, NoFront, NoLiteral, Notation, Ok}
use Rattle.lexical_literal.proofs.Common.{Read, Reads, ReadsFront, [], ap, append_assoc, arith, cut, cuts_of, drop, exact, length, notation_of, refl, subst}
use Rattle.lexical_literal.proofs.Common.{sym, take, take_all, text_of, ℕ, ◌++◌, ◌+◌, ◌∙◌, ◌≡◌}
use Rattle.std.proofs.Math.Seq.{drop-append_seam, take-append_seam}
use lib.ListN.{length-append}
use Rattle.lexical_literal.specs.declared.step.Piece.TheVariants as pieces

-- One part, and where the next one begins.
next : (text before x rest : List ℕ) (n k : ℕ) → text ≡ before ++ (x ++ rest) → n ≡ length before → length x ≡ k
    → (take k (drop n text) ≡ x) × (text ≡ (before ++ x) ++ rest) × (n + k ≡ length (before ++ x)) × (drop (n + k) text ≡ rest)
next text before x rest n k whole N K =
    let more : text ≡ (before ++ x) ++ rest = whole ∙ sym (append_assoc before x rest) in
    let size : n + k ≡ length (before ++ x) = omega (arith, N, K, length-append before x) in (
      (λ j. take (sym K j) (drop (N j) (whole j))) ∙ ap (take (length x)) (drop-append_seam before (x ++ rest)) ∙ take-append_seam x rest,
      more,
      size,
      (λ j. drop (size j) (more j)) ∙ drop-append_seam (before ++ x) rest,
    )

pub cut_is : (text : List ℕ) (c : Cuts) (l : Literal) → text ≡ text_of l → HasLengths l c → cut text c ≡ l
cut_is text c l whole has =
    let a = next text [] l.sign _ 0 (c pieces.Sign) whole refl has.sign in
    let one : c pieces.Sign ≡ length l.sign = sym has.sign in
    let b = next text l.sign l.prefix _ (c pieces.Sign) (c pieces.Prefix) a.1 one has.prefix in
    let d = next text _ l.integer _ _ (c pieces.Integer) b.1 b.2 has.integer in
    let e = next text _ l.point _ _ (c pieces.Point) d.1 d.2 has.point in
    let f = next text _ l.fraction _ _ (c pieces.Fraction) e.1 e.2 has.fraction in
    let g = next text _ l.exponent_character _ _ (c pieces.ExponentCharacter) f.1 f.2 has.exponent_character in
    let h = next text _ l.exponent_sign _ _ (c pieces.ExponentSign) g.1 g.2 has.exponent_sign in
    let i = next text _ l.exponent l.suffix _ (c pieces.Exponent) h.1 h.2 has.exponent in
    λ j. record {
      sign = a.0 j;
      prefix = b.0 j;
      integer = d.0 j;
      point = e.0 j;
      fraction = f.0 j;
      exponent_character = g.0 j;
      exponent_sign = h.0 j;
      exponent = i.0 j;
      suffix = i.3 j;
    }

pub is_cut : (m : Notation) (text : List ℕ) (c : Cuts) (l : Literal) → Reads m l text → HasLengths l c → IsCut m text c
is_cut m text c l reads has = let same = sym (cut_is text c l reads.whole has) in record {
  reads = subst (λ (l : Literal). Reads m l text) same reads;
  lengths = subst (λ (l : Literal). HasLengths l c) same has;
}

-- `read_as g text c` is `text` as a literal of `g` whose parts have the lengths `c`.
abbrev pub read_as : Grammar → List ℕ → List ℕ → Read
read_as g text counts = record { format = g.word; literal = cut text (cuts_of counts); kind = exact; opened = 0 }

module _ (g : Grammar) (text counts : List ℕ) (is : IsMeasured (notation_of g) text counts) where
  pub measured_cut : IsCut (notation_of g) text (cuts_of counts)
  measured_cut = let l = is.literal in is_cut (notation_of g) text (cuts_of counts) l.0 l.1 (is.counted l.0 l.1)

  pub whole_read : (read : Read) → read ≡ read_as g text counts → (read.format ≡ g.word) × Reads (notation_of g) read.literal text
  whole_read read same =
      let l = is.literal in
      let literal : read.literal ≡ l.0 = ap (λ (r : Read). r.literal) same ∙ cut_is text (cuts_of counts) l.0 l.1.whole (is.counted l.0 l.1) in
      (ap (λ (r : Read). r.format) same, subst (λ (k : Literal). Reads (notation_of g) k text) (sym literal) l.1)

  pub is_read : (read : Read) → read ≡ read_as g text counts → IsRead g text (Ok read)
  is_read read same = record {
    found = whole_read read same;
    kind = ap (λ (r : Read). r.kind) same;
    opened = ap (λ (r : Read). r.opened) same;
    only = λ l reads. ap (λ (r : Read). r.literal) same ∙ cut_is text (cuts_of counts) l reads.whole (is.counted l reads);
    error = tt;
  }

module _ (g : Grammar) (text front : List ℕ) (size : ℕ) (counts : List ℕ) (at : front ≡ take size text)
    (is : IsCountedFront (notation_of g) text (record { size = size; counts = counts })) where
  pub front_cut : IsCut (notation_of g) front (cuts_of counts)
  front_cut = is_cut (notation_of g) front (cuts_of counts) is.literal (subst (Reads (notation_of g) is.literal) (sym at) is.reads.reads)
      (is.counted is.literal is.reads.reads)

  pub front_read : (read : Read) → read ≡ read_as g front counts
      → (read.format ≡ g.word) × ReadsFront (notation_of g) read.literal text size
  front_read read same =
      let literal : read.literal ≡ is.literal = ap (λ (r : Read). r.literal) same
      ∙ cut_is front (cuts_of counts) is.literal (at ∙ is.reads.reads.whole) (is.counted is.literal is.reads.reads) in
      (ap (λ (r : Read). r.format) same, subst (λ (k : Literal). ReadsFront (notation_of g) k text size) (sym literal) is.reads)

-- A text of which no front is a literal is none.
pub none_whole : (m : Notation) (text : List ℕ) → NoFront m text → NoLiteral m text
none_whole m text none l reads = none (length text) (omega arith) l (subst (Reads m l) (sym (take_all (length text) text (omega arith))) reads)
