-- Digits and their characters.
use Rattle.lexical_writer.proofs.Common.{AllBelowBase, Bool, ByteSet, List, None, Option, Pattern, Some, Source, [], add-one, all_below_base_digits_of, ap}
use Rattle.lexical_writer.proofs.Common.{append-nil, append_assoc, arith, at_least, begins_decimal, begins_with, below, byte_value, character, cons_option}
use Rattle.lexical_writer.proofs.Common.{digit_characters, digit_of, digits_in, digits_of, digits_of_step, div-div-eq-div-mul, div-mul-add, drop, drop-cons}
use Rattle.lexical_writer.proofs.Common.{drop-set, ends_group, false, false≢true, get_or, get_or_from_slice_get, grouped, grouped_front, is_present, length}
use Rattle.lexical_writer.proofs.Common.{length-append, length-digits_of_step, length-map, length-replicate, length-set, ltb-true, map, map_push, max}
use Rattle.lexical_writer.proofs.Common.{mod-mul-add, nat_lt, nat_tests, no_groups, number, number_after_append, number_from_digits, number_from_digits_after}
use Rattle.lexical_writer.proofs.Common.{only_if, option_to_list, pow-suc, pow-zero, refl, replicate, replicate-append-replicate, separated, set, slice_get}
use Rattle.lexical_writer.proofs.Common.{suc, sym, true, values_of, zero, ℕ, ◌%◌, ◌*◌, ◌++◌, ◌+◌, ◌-◌, ◌/◌, ◌<◌, ◌^◌, ◌||◌, ◌∙◌, ◌∷◌, ◌≡◌, ◌≤◌}
use Rattle.lexical_base.proofs.ValueLemmas.{byte_value-digit_character, same_at}
use Rattle.lexical_writer.specs.declared.run.Source.TheVariants as sources

-- What is left of some bytes, where a digit is, or none.
pub left_of : (radix i : ℕ) (bytes : List ℕ) (digit : Option ℕ) → i < length bytes → digit ≡ digit_of (get_or bytes i 0) radix
    → digits_in radix (drop i bytes) ≡ cons_option digit (digits_in radix (drop (i + 1) bytes))
left_of radix i bytes digit inside is = grind (arith, nat_tests, add-one, drop-cons)

-- Digits are below the radix.
pub zeros_below : (radix k : ℕ) → 2 ≤ radix → AllBelowBase radix (replicate k 0)
zeros_below radix zero two = tt
zeros_below radix (suc k) two = (omega arith, zeros_below radix k two)

both_below : (radix : ℕ) (xs ys : List ℕ) → AllBelowBase radix xs → AllBelowBase radix ys → AllBelowBase radix (xs ++ ys)
both_below radix [] ys all rest = rest
both_below radix (x ∷ xs) ys all rest = (all.0, both_below radix xs ys all.1 rest)

pub values_below : (radix : ℕ) (source : Source) → 2 ≤ radix → AllBelowBase radix (values_of radix source)
values_below radix (sources.Bytes bytes) two = below radix bytes.now
values_below radix (sources.Number n) two = all_below_base_digits_of radix n two
values_below radix (sources.Least n least) two =
    both_below radix _ _ (zeros_below radix (least - length (digits_of radix n)) two) (all_below_base_digits_of radix n two)
values_below radix (sources.Padded padded) two = both_below radix _ _ (zeros_below radix padded.before two)
    (both_below radix _ _ (below radix padded.digits.now) (zeros_below radix padded.after two))

-- Digits that follow those of a number, and do not begin the whole with a zero, are digits of the whole.
last : (radix n d : ℕ) → 2 ≤ radix → 0 < n * radix + d → d < radix → digits_of radix (n * radix + d) ≡ digits_of radix n ++ d ∷ []
last radix n d two some below = grind (arith, nat_tests, digits_of_step, div-mul-add, mod-mul-add)

more : (n radix d : ℕ) → 0 < n → 2 ≤ radix → 0 < n * radix + d
more n radix d some two = grind arith

after : (radix n d : ℕ) (digits : List ℕ) → 2 ≤ radix → 0 < n * radix + d → AllBelowBase radix (d ∷ digits)
    → digits_of radix (number_from_digits_after radix n (d ∷ digits)) ≡ digits_of radix n ++ d ∷ digits
after radix n d [] two some all = last radix n d two some all.0
after radix n d (e ∷ digits) two some all =
    after radix (n * radix + d) e digits two (more (n * radix + d) radix e some two) all.1
    ∙ ap (λ front. front ++ e ∷ digits) (last radix n d two some all.0) ∙ append_assoc (digits_of radix n) (d ∷ []) (e ∷ digits)

-- Zeros before digits do not change the number.
pub zeros_number : (radix k : ℕ) (digits : List ℕ) → number_from_digits radix (replicate k 0 ++ digits) ≡ number_from_digits radix digits
zeros_number radix zero digits = refl
zeros_number radix (suc k) digits =
    ap (λ n. number_from_digits_after radix n (replicate k 0 ++ digits)) {x = 0 * radix + 0} {y = 0} (omega arith) ∙ zeros_number radix k digits

-- Digits behind those of a number that is not 0.
pub followed : (radix n : ℕ) (digits : List ℕ) → 2 ≤ radix → 0 < n → AllBelowBase radix digits
    → digits_of radix (number_from_digits_after radix n digits) ≡ digits_of radix n ++ digits
followed radix n [] two some all = sym (append-nil (digits_of radix n))
followed radix n (d ∷ digits) two some all = after radix n d digits two (more n radix d some two) all

-- A number has digits if and only if it is not 0.
pub some_number : (radix n : ℕ) → 0 < length (digits_of radix n) → 0 < n
some_number radix n some = grind arith

pub no_number : (radix n : ℕ) → 2 ≤ radix → length (digits_of radix n) ≤ 0 → n ≡ 0
no_number radix n two none = grind (arith, nat_tests, more, length-digits_of_step)

-- Digits without leading zeros are those of the whole, with what follows.
pub lean_front : (radix zeros : ℕ) (xs ys front : List ℕ) → 2 ≤ radix → front ≡ digits_of radix (number_from_digits radix xs) → 0 < length front
    → AllBelowBase radix ys → front ++ ys ≡ digits_of radix (number_from_digits radix (replicate zeros 0 ++ (xs ++ ys)))
lean_front radix zeros xs ys front two is some all = grind (arith, nat_tests, some_number, followed, zeros_number, number_after_append)

pub zero_front : (radix zeros : ℕ) (xs ys : List ℕ) → number_from_digits radix xs ≡ 0
    → number_from_digits radix (replicate zeros 0 ++ (xs ++ ys)) ≡ number_from_digits radix ys
zero_front radix zeros xs ys none = grind (arith, nat_tests, zeros_number, number_after_append)

-- What is left of the bytes at the index `i`, where a digit other than 0 is.
pub lead : (radix i d : ℕ) (bytes : List ℕ) → 2 ≤ radix → i < length bytes → digit_of (get_or bytes i 0) radix ≡ Some d → 0 < d
    → digits_in radix (drop i bytes) ≡ digits_of radix (number radix (drop i bytes))
lead radix i d bytes two inside is some =
    let rest = drop (suc i) bytes in
    let small : d < radix = grind (arith, nat_tests) in
    let first : digits_in radix (drop i bytes) ≡ d ∷ digits_in radix rest = rw (drop-cons bytes i 0 inside, is) refl in
    first ∙ sym (ap (λ digits. digits_of radix (number_from_digits radix digits)) first
    ∙ after radix 0 d (digits_in radix rest) two (omega arith) (small, below radix rest))

-- The character of a digit, in either case, has its value.
pub character_value : (lowercase : Bool) (d : ℕ) → d < 36 → byte_value (character lowercase d) ≡ d
unfolding byte_value
character_value true d below = same_at (λ d. byte_value (character true d)) (λ d. d) 36 d refl below
character_value false d below = byte_value-digit_character d below

character_digit : (lowercase : Bool) (radix d : ℕ) → radix ≤ 36 → d < radix → digit_of (character lowercase d) radix ≡ Some d
character_digit lowercase radix d small below =
    let value = character_value lowercase d (omega (arith, small, below)) in
    let test : nat_lt d radix ≡ true = grind (arith, nat_tests) in
    rw (value, test) refl

-- Behind zeros, or a decimal digit where there are none, begins what is written.
pub zero_first : (A : ByteSet) (pattern : Pattern) (k : ℕ) (digits : List ℕ) → A (character pattern.lowercase 0) ≡ true → 0 < k
    → begins_with A (grouped pattern (replicate k 0 ++ digits)) ≡ true
zero_first A pattern zero digits fits some = absurd (omega (arith, some))
zero_first A pattern (suc k) digits fits some = fits

pub decimal_first : (A : ByteSet) (pattern : Pattern) (radix k : ℕ) (digits : List ℕ) → A (character pattern.lowercase 0) ≡ true
    → ((d : ℕ) → d < radix → d < 10 → A (character pattern.lowercase d) ≡ true) → AllBelowBase radix digits → begins_decimal digits ≡ true
    → begins_with A (grouped pattern (replicate k 0 ++ digits)) ≡ true
decimal_first A pattern radix (suc k) digits naught fits all is = naught
decimal_first A pattern radix zero [] naught fits all is = absurd (false≢true is)
decimal_first A pattern radix zero (d ∷ digits) naught fits all is = fits d all.0 (ltb-true _ _ is)

-- The digits among grouped ones are those that were grouped.
pub grouped_digits : (radix : ℕ) (pattern : Pattern) → radix ≤ 36 → (0 < pattern.higher → digit_of pattern.separator radix ≡ None) → (digits : List ℕ)
    → AllBelowBase radix digits → digits_in radix (grouped pattern digits) ≡ digits
grouped_digits radix pattern small apart [] all = refl
grouped_digits radix pattern small apart (d ∷ digits) all =
    let first = character_digit pattern.lowercase radix d small all.0 in
    let between = skipped (ends_group pattern (length digits)) (λ is. apart (grind (arith, nat_tests))) in
    let rest = grouped_digits radix pattern small apart digits all.1 in
    ap (λ digit. cons_option digit (digits_in radix (separated pattern (length digits) ++ grouped pattern digits))) first
    ∙ ap (λ digits. d ∷ digits) (between ∙ rest)
  where
    skipped : (test : Bool) → (test ≡ true → digit_of pattern.separator radix ≡ None)
        → digits_in radix (option_to_list (only_if test pattern.separator) ++ grouped pattern digits) ≡ digits_in radix (grouped pattern digits)
    skipped true none = rw (none refl) refl
    skipped false none = refl

-- Without groups, digits are written one after the other.
pub grouped_plain : (pattern : Pattern) (digits : List ℕ) → pattern.higher ≡ 0 → grouped pattern digits ≡ map (character pattern.lowercase) digits
grouped_plain pattern [] plain = refl
grouped_plain pattern (d ∷ digits) plain =
    let none : ends_group pattern (length digits) ≡ false = grind (arith, nat_tests) in
    rw (none, grouped_plain pattern digits plain) refl

-- The characters of a number are its digits, and as many.
pub read_back : (radix n : ℕ) (bytes : List ℕ) → 2 ≤ radix → radix ≤ 36 → bytes ≡ map (character false) (digits_of radix n)
    → (digits_in radix bytes ≡ digits_of radix n) × (bytes ≡ map (character false) (digits_in radix bytes))
read_back radix n bytes two small is =
    let digits = ap (digits_in radix) (is ∙ sym (grouped_plain (no_groups false) (digits_of radix n) refl))
    ∙ grouped_digits radix (no_groups false) small (λ some. absurd (omega (arith, some))) (digits_of radix n) (all_below_base_digits_of radix n two) in
    (digits, is ∙ sym (ap (map (character false)) digits))

pub as_many : (bytes digits : List ℕ) → bytes ≡ map (character false) digits → length digits ≡ length bytes
as_many bytes digits is = sym (ap length is ∙ length-map digits (character false))

-- Enough digits are those that there are.
pub enough : (least : ℕ) (digits : List ℕ) → least ≤ length digits → at_least least digits ≡ digits
enough least digits most = ap (λ k. replicate k 0 ++ digits) {x = least - length digits} {y = 0} (omega (arith, most))

-- Digits with zeros before them, and more of them.
pub least_length : (least : ℕ) (digits : List ℕ) → length (at_least least digits) ≡ max least (length digits)
least_length least digits = grind (arith, nat_tests, length-append {A = ℕ}, length-replicate {A = ℕ})

pub least_of : (more least : ℕ) (digits : List ℕ) → at_least (max more least) digits ≡ at_least more (at_least least digits)
least_of more least digits =
    let zeros : List ℕ = replicate (least - length digits) 0 in
    let count = least_length least digits in
    ap (λ k. replicate k 0 ++ digits) {x = max more least - length digits} {y = (more - length (at_least least digits)) + (least - length digits)}
    (omega (arith, count))
    ∙ ap (λ zeros. zeros ++ digits) (sym (replicate-append-replicate (more - length (at_least least digits)) (least - length digits) 0))
    ∙ append_assoc (replicate (more - length (at_least least digits)) 0) zeros digits

-- A power of one less.
pub one_less : (p k : ℕ) → 0 < k → p ^ k ≡ p ^ (k - 1) * p
one_less p k some = ap (λ k. p ^ k) {x = k} {y = suc (k - 1)} (omega (arith, some)) ∙ pow-suc p (k - 1)

-- Digits behind those of a number.
pub after_is : (radix n : ℕ) (digits : List ℕ)
    → number_from_digits_after radix n digits ≡ n * radix ^ length digits + number_from_digits radix digits
after_is radix n [] = omega (arith, ap (λ p. n * p) (pow-zero radix))
after_is radix n (d ∷ digits) =
    after_is radix (n * radix + d) digits
    ∙ omega (arith, ap (λ p. n * p) (pow-suc radix (length digits)), after_is radix (0 * radix + d) digits)

pub plain_text : (pattern : Pattern) (least : ℕ) (bytes digits : List ℕ) → bytes ≡ map (character false) digits → pattern.higher ≡ 0
    → pattern.lowercase ≡ false → least ≤ length bytes → grouped pattern (at_least least digits) ≡ bytes
plain_text pattern least bytes digits are plain upper most = grind (arith, nat_tests, length-map, enough, grouped_plain)

-- The last digit of what is left of a number is written before the digits that have been written.
pub one_more : (radix n start c : ℕ) (buffer : List ℕ) → 2 ≤ radix → 0 < n → 1 ≤ start → start ≤ length buffer
    → slice_get digit_characters (n % radix) ≡ Some c
    → map (character false) (digits_of radix (n / radix)) ++ drop (start - 1) (set buffer (start - 1) c)
    ≡ map (character false) (digits_of radix n) ++ drop start buffer
one_more radix n start c buffer two some room inside is =
    let same : start ≡ start - 1 + 1 = omega arith in
    let text : map (character false) (digits_of radix n) ≡ map (character false) (digits_of radix (n / radix)) ++ c ∷ [] =
    ap (map (character false)) (digits_of_step radix n two some) ∙ map_push (character false) (digits_of radix (n / radix)) (n % radix)
    ∙ ap (λ b. map (character false) (digits_of radix (n / radix)) ++ b ∷ []) (get_or_from_slice_get digit_characters (n % radix) c 0 is) in
    rw (drop-set buffer (start - 1) c (omega arith), text, append_assoc)
    (ap (λ k. map (character false) (digits_of radix (n / radix)) ++ c ∷ drop k buffer) (sym same))

-- The last two digits, of which the last is written first.
pub two_more : (n start a b : ℕ) (buffer : List ℕ) → 10 ≤ n → 2 ≤ start → start ≤ length buffer
    → slice_get digit_characters (n % 100 / 10) ≡ Some a → slice_get digit_characters (n % 100 % 10) ≡ Some b
    → map (character false) (digits_of 10 (n / 100)) ++ drop (start - 2) (set (set buffer (start - 1) b) (start - 2) a)
    ≡ map (character false) (digits_of 10 n) ++ drop start buffer
two_more n start a b buffer two room inside first second =
    let front : n / 10 / 10 ≡ n / 100 = div-div-eq-div-mul n 10 10 in
    let place : start - 1 - 1 ≡ start - 2 = omega arith in
    let high : n / 10 % 10 ≡ n % 100 / 10 = omega (arith, two) in
    let low : n % 10 ≡ n % 100 % 10 = omega (arith, two) in
    let before = one_more 10 (n / 10) (start - 1) a (set buffer (start - 1) b) (omega arith) (omega (arith, two)) (omega (arith, room))
    (omega (arith, inside, length-set buffer (start - 1) b)) (ap (slice_get digit_characters) high ∙ first) in
    sym (λ i. map (character false) (digits_of 10 (front i)) ++ drop (place i) (set (set buffer (start - 1) b) (place i) a)) ∙ before
    ∙ one_more 10 n start b buffer (omega arith) (omega (arith, two)) (omega (arith, room)) inside (ap (slice_get digit_characters) low ∙ second)

-- Whether grouped digits are present.
grouped_some : (pattern : Pattern) (digits : List ℕ) → is_present (grouped pattern digits) ≡ is_present digits
grouped_some pattern [] = refl
grouped_some pattern (d ∷ digits) = refl

pub grouped_present : (pattern : Pattern) (least : ℕ) (digits : List ℕ)
    → is_present (grouped pattern (at_least least digits)) ≡ (nat_lt 0 least || is_present digits)
grouped_present pattern least digits = grind (arith, nat_tests, length-append {A = ℕ}, length-replicate {A = ℕ}, present_if, grouped_some)
  where
    present_if : (xs : List ℕ) → is_present xs ≡ nat_lt 0 (length xs)
    present_if [] = refl
    present_if (x ∷ xs) = grind (arith, nat_tests)

-- Zeros before digits are digits, and do not change the number.
pub least_below : (radix least : ℕ) (digits : List ℕ) → 2 ≤ radix → AllBelowBase radix digits → AllBelowBase radix (at_least least digits)
least_below radix least digits two all = both_below radix _ _ (zeros_below radix (least - length digits) two) all

pub least_number : (radix least : ℕ) (digits : List ℕ) → number_from_digits radix (at_least least digits) ≡ number_from_digits radix digits
least_number radix least digits = zeros_number radix (least - length digits) digits

-- What is written of digits is what is written of the first ones, and then of the others.
pub grouped_parts : (pattern : Pattern) (left : ℕ) (xs ys : List ℕ) → left ≡ length (xs ++ ys)
    → grouped pattern (xs ++ ys) ≡ grouped_front pattern left xs ++ grouped pattern ys
grouped_parts pattern left [] ys is = refl
grouped_parts pattern left (x ∷ xs) ys is =
    let fewer : length (xs ++ ys) ≡ left - 1 = omega (arith, is) in
    ap (λ rest. character pattern.lowercase x ∷ separated pattern (length (xs ++ ys)) ++ rest) (grouped_parts pattern (left - 1) xs ys (sym fewer))
    ∙ ap (λ k. character pattern.lowercase x ∷ separated pattern k ++ (grouped_front pattern (left - 1) xs ++ grouped pattern ys)) fewer
    ∙ sym (ap (λ rest. character pattern.lowercase x ∷ rest) (append_assoc (separated pattern (left - 1)) (grouped_front pattern (left - 1) xs)
    (grouped pattern ys)))

grouped_last : (pattern : Pattern) (left : ℕ) (digits : List ℕ) → left ≡ length digits
    → grouped_front pattern left digits ≡ grouped pattern digits
grouped_last pattern left digits is =
    sym (append-nil (grouped_front pattern left digits))
    ∙ sym (grouped_parts pattern left digits [] (is ∙ sym (ap length (append-nil digits)))) ∙ ap (grouped pattern) (append-nil digits)

-- Digits between zeros are written one part after the other.
pub padded_text : (pattern : Pattern) (text a b c : List ℕ) (n behind last : ℕ) → n ≡ length (a ++ (b ++ c)) → behind ≡ n - length a
    → last ≡ behind - length b
    → ((text ++ grouped_front pattern n a) ++ grouped_front pattern behind b) ++ grouped_front pattern last c ≡ text ++ grouped pattern (a ++ (b ++ c))
padded_text pattern text a b c n behind last all second third = grind (arith, nat_tests, length-append {A = ℕ}, append_assoc, grouped_parts, grouped_last)

-- Bytes from an index on that are uppercase digits.
pub more_characters : (radix i d : ℕ) (bytes : List ℕ) (digit : Option ℕ) → i < length bytes → digit ≡ digit_of (get_or bytes i 0) radix
    → digit ≡ Some d → character false d ≡ get_or bytes i 0 → drop (i + 1) bytes ≡ map (character false) (digits_in radix (drop (i + 1) bytes))
    → drop i bytes ≡ map (character false) (digits_in radix (drop i bytes))
more_characters radix i d bytes digit inside is some same rest = grind (arith, nat_tests, add-one, drop-cons, left_of)

-- A number without its last digit is shorter, and without two.
pub shorter : (radix n : ℕ) → 2 ≤ radix → 0 < n → length (digits_of radix n) ≡ length (digits_of radix (n / radix)) + 1
shorter radix n two some = let step = length-digits_of_step radix n two some in omega arith

pub two_shorter : (n : ℕ) → 10 ≤ n → length (digits_of 10 n) ≡ length (digits_of 10 (n / 100)) + 2
two_shorter n two =
    let last = length-digits_of_step 10 n (omega arith) (omega (arith, two)) in
    let before = length-digits_of_step 10 (n / 10) (omega arith) (omega (arith, two)) in
    omega (arith, last, before, ap (λ k. length (digits_of 10 k)) (div-div-eq-div-mul n 10 10))
