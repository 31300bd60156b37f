-- The digits of a run, their number, and the number that they represent, modulo `2 ^ 64`.
use Rattle.std.proofs.Common.{rules}
use Rattle.lexical_literal.proofs.Common.{Grammar, HasRoles, IsDigitAt, IsReadOn, IsRunOn, IsSeparated, List, None, Notation, Option, Part, Reading, Some}
use Rattle.lexical_literal.proofs.Common.{Stage, [], add_more, ap, arith, at_stage, between, byte_value, common_steps, cond, cons_option, digit_of, digits_in}
use Rattle.lexical_literal.proofs.Common.{digits_piece, drop, drop-drop, false, filter_map-append, get_or, is_run, length, length-drop, mod-add-mod, mod-mod}
use Rattle.lexical_literal.proofs.Common.{nat_lt, number_after_append, number_from_digits_after, part_of, radix_of, raw, steps_of, subst, sym, take, take_more}
use Rattle.lexical_literal.proofs.Common.{true, up_to, ℕ, ◌%◌, ◌*◌, ◌++◌, ◌+◌, ◌-◌, ◌<◌, ◌^◌, ◌∙◌, ◌∷◌, ◌≡◌, ◌≤◌}
use Rattle.std.proofs.Math.Seq.{take-add}
use lib.ListN.{length-append}
use Rattle.lexical_number.proofs.SmallLemmas.{push_same}
use Rattle.lexical_literal.proofs.ScanLemmas.{go_on, read_digit, read_separated}
use Rattle.lexical_literal.proofs.WalkLemmas.{is_role, no_digit}
use Rattle.lexical_util.specs.declared.feature_format.roles.Role.TheVariants as roles

-- The value of a digit.
pub is_digit : (radix b v : ℕ) → digit_of b radix ≡ Some v → nat_lt (byte_value b) radix ≡ true
is_digit radix b v is = grind arith

no_value : (radix b : ℕ) → nat_lt (byte_value b) radix ≡ false → digit_of b radix ≡ None
no_value radix b other = ap (λ test. cond test (Some (byte_value b)) None) other

-- Digits behind a number are those behind each number that is the same modulo `2 ^ 64`.
pub after_same : (radix s t : ℕ) (ds : List ℕ) → s % 2 ^ 64 ≡ t % 2 ^ 64 → number_from_digits_after radix s ds % 2 ^ 64 ≡ number_from_digits_after radix t ds %
    2 ^ 64
after_same radix s t [] same = same
after_same radix s t (v ∷ ds) same = after_same radix (s * radix + v) (t * radix + v) ds (push_same radix s t v same)

module _ (radix : ℕ) (text : List ℕ) where
  -- The digits of two pieces that follow one another.
  both_between : (a b c : ℕ) → a ≤ b → b ≤ c → digits_in radix (between text a c) ≡ digits_in radix (between text a b) ++ digits_in radix (between text b c)
  both_between a b c low high =
      let sum : c - a ≡ b - a + (c - b) = omega (arith, low, high) in
      let at : a + (b - a) ≡ b = omega (arith, low) in
      ap (λ n. digits_in radix (take n (drop a text))) sum ∙ ap (digits_in radix) (take-add (b - a) (c - b) (drop a text))
      ∙ filter_map-append _ (take (b - a) (drop a text)) (take (c - b) (drop (b - a) (drop a text)))
      ∙ ap (λ rest. digits_in radix (between text a b) ++ digits_in radix (take (c - b) rest)) (drop-drop (b - a) a text ∙ ap (λ n. drop n text) at)

  -- One byte.
  byte_between : (n : ℕ) (o : Option ℕ) → n < length text → digit_of (get_or text n 0) radix ≡ o → digits_in radix (between text n (n + 1)) ≡ cons_option o []
  byte_between n o inside is = grind (arith, common_steps, length-drop, take_more)

-- `pushed radix run value bytes` is the run with one more digit, the last of so many bytes.
abbrev pub pushed : ℕ → Reading → ℕ → ℕ → Reading
pushed radix run value bytes = record run {
  size = run.size + bytes;
  sum = record { digits = run.sum.digits + 1; value = (run.sum.value * radix % 2 ^ 64 + value) % 2 ^ 64 };
}

module _ (m : Notation) (radix : ℕ) (text : List ℕ) (part : Part) where
  -- No bytes.
  pub same_run : (run : Reading) → IsRunOn m radix text part run run
  same_run run = search (rules, digits_in, between, add_more, digits_piece, at_stage, number_from_digits_after)

  pub no_run : (run : Reading) → IsRunOn m radix text part run (up_to run run.size 0 run.sum.value)
  no_run run = grind (arith, same_run)

  -- Two runs that follow one another.
  pub both_runs : (a b c : Reading) → IsRunOn m radix text part a b → IsRunOn m radix text part b c → IsRunOn m radix text part a c
  both_runs a b c first second =
      let low = first.on.more in
      let high = second.on.more in
      let all = both_between radix text a.size b.size c.size low high in
      record {
        on = go_on m text (at_stage a.size a.stage) (at_stage b.size b.stage) (at_stage c.size c.stage) (digits_piece part) first.on second.on;
        within = λ is. second.within (first.within is);
        digits = omega (
          arith,
          second.digits,
          first.digits,
          ap length all,
          length-append (digits_in radix (between text a.size b.size)) (digits_in radix (between text b.size c.size)),
        );
        sum = second.sum ∙ after_same radix b.sum.value _ (digits_in radix (between text b.size c.size)) first.sum
            ∙ ap (λ n. n % 2 ^ 64) (sym (number_after_append radix a.sum.value (digits_in radix (between text a.size b.size)) (digits_in radix (between text
            b.size c.size)))) ∙ ap (λ ds. number_from_digits_after radix a.sum.value ds % 2 ^ 64) (sym all);
      }

  -- One more digit is one more byte, or two with the separator before it.
  pub one_more : (begun : Reading) (size separators value v bytes more next : ℕ) → begun.size + separators ≤ size → bytes + separators ≡ more + 1
      → next ≡ (value * radix % 2 ^ 64 + v) % 2 ^ 64 → let run = up_to begun size separators value in IsRunOn m radix text part begun run
      → IsRunOn m radix text part run (pushed radix run v bytes) → IsRunOn m radix text part begun (up_to begun (size + bytes) more next)
  one_more begun size separators value v bytes more next within one is on digit =
      let digits : begun.sum.digits + (size - begun.size - separators) + 1 ≡ begun.sum.digits + (size + bytes - begun.size - more) =
      omega (arith, within, one) in
      subst (IsRunOn m radix text part begun) (λ j. record begun { size = size + bytes; sum = record { digits = digits j; value = sym is j } })
      (both_runs begun (up_to begun size separators value) _ on digit)

pushed_sum : (radix s v : ℕ) → (s * radix % 2 ^ 64 + v) % 2 ^ 64 % 2 ^ 64 ≡ (s * radix + v) % 2 ^ 64
pushed_sum radix s v = mod-mod (s * radix % 2 ^ 64 + v) (2 ^ 64) ∙ mod-add-mod (s * radix) (2 ^ 64) v

-- One digit, and those behind it.
pub behind_digit : (m : Notation) (radix : ℕ) (text : List ℕ) (part : Part) (run : Reading) (stage : Stage) (v : ℕ) (one last : Reading)
    → IsDigitAt radix text run.size v → one ≡ pushed radix run v 1
    → IsReadOn m text (at_stage run.size run.stage) (digits_piece part) (at_stage (run.size + 1) stage)
    → IsRunOn m radix text part (record one { stage = stage }) last → IsRunOn m radix text part run last
behind_digit m radix text part run stage v one last digit same on = both_runs m radix text part run (record one { stage = stage }) last
    (subst (λ (one : Reading). IsRunOn m radix text part run (record one { stage = stage })) (sym same) (grind (arith, byte_between)))

module _ (g : Grammar) (text : List ℕ) (part : Part) (run : Reading) (v : ℕ) (h : HasRoles (steps_of g)) (is : is_run run.stage ≡ true)
    (in_part : part_of run.stage ≡ part) where
  abbrev m : Notation
  m = steps_of g

  abbrev radix : ℕ
  radix = radix_of (raw g.word) part

  pub more_digit : IsDigitAt radix text run.size v → IsRunOn m radix text part run (pushed radix run v 1)
  more_digit digit =
      grind (arith, byte_between, read_digit m text h part run.size run.stage in_part is digit.0 (is_digit radix (get_or text run.size 0) v digit.1))

  pub more_separated : IsSeparated m radix text part run.size v → IsRunOn m radix text part run (pushed radix run v 2)
  more_separated separated =
      let two : run.size + 1 + 1 ≡ run.size + 2 = omega arith in
      let inside : run.size < length text = omega (arith, separated.digit.0) in
      let first = byte_between radix text run.size None inside (no_value radix (get_or text run.size 0) (no_digit m part (get_or text run.size 0)
      (is_role m part (get_or text run.size 0) h roles.Separator (λ same. cc) separated.separator))) in
      let second = byte_between radix text (run.size + 1) (Some v) separated.digit.0 separated.digit.1 in
      let one : digits_in radix (between text run.size (run.size + 2)) ≡ v ∷ [] =
      both_between radix text run.size (run.size + 1) (run.size + 2) (omega arith) (omega arith)
      ∙ ap (λ ds. ds ++ digits_in radix (between text (run.size + 1) (run.size + 2))) first
      ∙ ap (λ n. digits_in radix (between text (run.size + 1) n)) (sym two) ∙ second in
      record {
        on = read_separated m text h part run.size run.stage in_part is separated.digit.0 separated.separator
            (is_digit radix (get_or text (run.size + 1) 0) v separated.digit.1) separated.allowed;
        within = λ is. omega (arith, separated.digit.0);
        digits = sym (ap (λ ds. run.sum.digits + length ds) one);
        sum = pushed_sum radix run.sum.value v ∙ sym (ap (λ ds. number_from_digits_after radix run.sum.value ds % 2 ^ 64) one);
      }
