-- Each byte is the next letter, or takes the place of a separator, or is left out.
use Rattle.lexical_forms.proofs.Common.{Bool, ap, arith, drop_all, drop_more, false, get_or, if◌then◌else◌, inl, inr, letter_of, nat_lt, nat_tests, notation_of, subst, sym}
use Rattle.lexical_forms.proofs.Common.{true, ℕ, ◌&&◌, ◌+◌, ◌-◌, ◌<◌, ◌==◌, ◌∙◌, ◌≡◌, ◌≤◌}
use Rattle.lexical_forms.proofs.SpecialLemmas.{HasRead, Moves, at_end, fails, one_separator, read_more}
use Rattle.lexical_forms.proofs.specials.is_spelled.Goals as goal
use Rattle.lexical_forms.proofs.specials.is_spelled.Goals.{else-letters-word-via-then-letters-word+else-is_letter, else-letters-word-via-else-letters-word}
use Rattle.lexical_forms.proofs.specials.is_spelled.Goals.{else-letters-word+else-not-is_separator, then-letters-word+then-is_letter+then-is_separator}
use Rattle.lexical_forms.proofs.specials.is_spelled.Goals.{else-letters-word+then-not-is_separator+else-taken-eq0+else-not-is_letter-2}
use Rattle.lexical_forms.proofs.specials.is_spelled.Goals.{then-letters-word+then-is_letter+else-is_separator+else-not-is_letter}
use Rattle.lexical_forms.proofs.specials.is_spelled.Goals.{then-letters-word+then-is_letter+else-is_separator+then-not-is_letter}
use Rattle.lexical_forms.proofs.specials.is_spelled.Goals.{then-taken-eq0-via-then-taken-eq0, then-taken-eq0-via-else-taken-eq0+then-not-is_letter-2}

-- Whether the byte is the next letter, of which `a` and `b` are compared.
fit : (n size a b : ℕ) (test : Bool) → n < size → test ≡ (a == b) → test ≡ true → (nat_lt n size && (a == b)) ≡ true
fit n size a b test inside same on = grind (arith, nat_tests)

unfit : (n size a b : ℕ) (test : Bool) → test ≡ (a == b) → test ≡ false → (nat_lt n size && (a == b)) ≡ false
unfit n size a b test same off = grind (arith, nat_tests)

past : (n size : ℕ) (same : Bool) → size ≤ n → (nat_lt n size && same) ≡ false
past n size same off = grind (arith, nat_tests)

equal : (a b : ℕ) (test : Bool) → test ≡ (a == b) → test ≡ true → a ≡ b
equal a b test same on = grind (arith, nat_tests)

-- How many separators are taken then.
more : (next taken : ℕ) (kept test same : Bool) → next ≡ taken + 1 → test ≡ kept → test ≡ true
    → next ≡ (if kept then taken + 1 else (if same then taken else 0))
more next taken kept test same is sep on = grind arith

none : (next taken : ℕ) (kept test same letter : Bool) → next ≡ 0 → test ≡ kept → test ≡ false → letter ≡ same → letter ≡ false
    → next ≡ (if kept then taken + 1 else (if same then taken else 0))
none next taken kept test same letter is sep off by other = grind arith

as_many : (next taken : ℕ) (kept test same letter : Bool) → next ≡ taken → test ≡ kept → test ≡ false → letter ≡ same → letter ≡ true
    → next ≡ (if kept then taken + 1 else (if same then taken else 0))
as_many next taken kept test same letter is sep off by on = grind arith

less : (next taken : ℕ) → next ≡ taken - 1 → (taken ≡ 0 → ⊥) → taken ≡ next + 1
less next taken is some = grind arith

-- What the branches do with the letter.
moves : (c : goal.Joined-letters-word) → Moves (notation_of c.args.grammar) c.separator_of-separator.result c.args.word.now c.loop-index.taken
    c.loop-index.letters (get_or c.args.text.now c.loop-index.index 0) c.if-letters-word.taken c.if-letters-word.letters
moves c = elim c.if-letters-word.branch [
  | then-letters-word+then-is_letter+then-is_separator w ↦ inl (
    fit _ _ _ _ _ w.if-letters-word.true w.is_letter.ensures w.if-is_letter.true,
    (let is = w.letters-is in omega (arith, is)),
    more _ _ _ _ _ (let is = w.taken-is in omega (arith, is)) w.is_separator.ensures w.if-is_separator.true,
  )
  | then-letters-word+then-is_letter+else-is_separator+then-not-is_letter w ↦ inl (
    fit _ _ _ _ _ w.if-letters-word.true w.is_letter.ensures w.if-is_letter.true,
    (let is = w.letters-is in omega (arith, is)),
    none _ _ _ _ _ _ (let is = w.taken-is in omega (arith, is)) w.is_separator.ensures w.if-is_separator.false
        w.is_letter-else-is_separator.ensures w.if-not-is_letter.true,
  )
  | then-letters-word+then-is_letter+else-is_separator+else-not-is_letter w ↦ inl (
    fit _ _ _ _ _ w.if-letters-word.true w.is_letter.ensures w.if-is_letter.true,
    (let is = w.letters-is in omega (arith, is)),
    as_many _ _ _ _ _ _ (let is = w.taken-is in omega (arith, is)) w.is_separator.ensures w.if-is_separator.false
        w.is_letter-else-is_separator.ensures w.if-not-is_letter.false,
  )
  | else-letters-word+then-not-is_separator+else-taken-eq0+else-not-is_letter-2 w ↦ inr (
    (elim w.else-letters-word.branch [
      | else-letters-word-via-then-letters-word+else-is_letter w' ↦ unfit _ _ _ _ _ w'.is_letter.ensures w'.if-is_letter.false
      | else-letters-word-via-else-letters-word w' ↦ past _ _ _ w'.if-letters-word.false
    ]),
    (let is = w.letters-is in omega (arith, is)),
    inr (
      sym w.is_separator-else-letters-word.ensures ∙ w.if-not-is_separator.true,
      equal _ _ _ w.is_letter-else-taken-eq0.ensures w.if-not-is_letter-2.false,
      less _ _ (let is = w.taken-is in omega (arith, is)) w.if-taken-eq0.false,
    ),
  )
  | else-letters-word+else-not-is_separator w ↦ inr (
    (elim w.else-letters-word.branch [
      | else-letters-word-via-then-letters-word+else-is_letter w' ↦ unfit _ _ _ _ _ w'.is_letter.ensures w'.if-is_letter.false
      | else-letters-word-via-else-letters-word w' ↦ past _ _ _ w'.if-letters-word.false
    ]),
    (let is = w.letters-is in omega (arith, is)),
    inl (
      sym w.is_separator-else-letters-word.ensures ∙ w.if-not-is_separator.false,
      (let is = w.taken-is in omega (arith, is)),
    ),
  )
]

pub loop-index-preserved : goal.loop-index-preserved
loop-index-preserved c =
    let m = notation_of c.args.grammar in
    let text = c.args.text.now in
    let index = c.loop-index.index in
    let x = c.separator_of-separator.result in
    let only = one_separator c.args.grammar (get_or text index 0) in
    let now = subst (HasRead _ _ c.args.word.now text _ _) (drop_more text index 0 c.loop-index-test.true) c.loop-index.invariant in
    read_more m x c.args.word.now text _ _ _ _ now (λ is. ap (letter_of m) (only is ∙ sym c.separator_of-separator.ensures)) _ _
    (moves c)

pub returns-then-taken-eq0 : goal.returns-then-taken-eq0
returns-then-taken-eq0 c =
    let text = c.args.text.now in
    let now = subst (HasRead _ _ c.args.word.now text _ _) (drop_more text c.loop-index.index 0 c.loop-index-test.true) c.loop-index.invariant in
    fails _ _ c.args.word.now text _ _ _ _ now
    (elim c.else-letters-word.branch [
      | else-letters-word-via-then-letters-word+else-is_letter w ↦
          (let same = w.is_letter.ensures in let none = w.if-is_letter.false in grind (arith, nat_tests))
      | else-letters-word-via-else-letters-word w ↦ (let past = w.if-letters-word.false in grind (arith, nat_tests))
    ])
    (sym c.is_separator-else-letters-word.ensures ∙ c.if-not-is_separator.true)
    (elim c.then-taken-eq0.branch [
      | then-taken-eq0-via-then-taken-eq0 w ↦ (let none = w.if-taken-eq0.true in grind (arith, nat_tests))
      | then-taken-eq0-via-else-taken-eq0+then-not-is_letter-2 w ↦
          (let same = w.is_letter-else-taken-eq0.ensures in let none = w.if-not-is_letter-2.true in grind (arith, nat_tests))
    ])

pub returns : goal.returns
returns c = at_end _ _ c.args.word.now c.args.text.now _ _
    (subst (HasRead _ _ _ _ _ _) (drop_all c.loop-index.index c.args.text.now c.loop-index-test.false) c.loop-index.invariant)
