-- Fronts of a text, and where the loop is left.
use Rattle.lexical_literal.proofs.Common.{Allows, Bool, Found, Group, HasBegun, HasFound, HasLengths, HasRoles, HasSizes, IsAt, IsCountedFront, IsFront}
use Rattle.lexical_literal.proofs.Common.{IsFronted, IsLiteral, IsLongest, IsMeasured, IsNone, IsReady, IsRefused, IsStopped, IsTrue, IsUnderway, IsValidUpTo}
use Rattle.lexical_literal.proofs.Common.{IsWithin, List, Literal, NoFront, NoLiteral, None, Notation, Option, Reads, Role, Some, Stopped, Summary, []}
use Rattle.lexical_literal.proofs.Common.{and_parts, ap, append-nil, append_assoc, arith, cases_Bool, cases_lt, common_steps, count, cuts_of, drop, false}
use Rattle.lexical_literal.proofs.Common.{false_from_ne_true, false≢true, first_group, get_or, goes, group_after, group_allows, grow, grown}
use Rattle.lexical_literal.proofs.Common.{has_sizes, if◌then◌else◌, inl, inr, is_accepted, is_complete, is_grouped, is_some, length, length-take-le, no_cuts}
use Rattle.lexical_literal.proofs.Common.{not, part_of, refl, replicate, role_at, slice_get, slice_get-get_or, start, step, subst, sym, take}
use Rattle.lexical_literal.proofs.Common.{take-append-drop, take-take, take_all, take_more, tally, true, unsized, ℕ, ◌++◌, ◌+◌, ◌<◌, ◌||◌, ◌↔◌, ◌∙◌, ◌∷◌, ◌≡◌}
use Rattle.lexical_literal.proofs.Common.{◌≤◌, ◌⊎◌}
use Rattle.std.proofs.lemmas.Option.{slice_get_past}
use Rattle.lexical_literal.specs.declared.stop.Begun.{Begun}
use Rattle.lexical_literal.proofs.WalkLemmas.{walk_append, tally_append}
use Rattle.lexical_literal.proofs.ConditionLemmas.{has_lengths, literal_from, literal_arrives}
use Rattle.lexical_literal.proofs.LiteralLemmas.{all_cuts}
use Rattle.lexical_literal.proofs.DecideLemmas.{decides_there, grows}
use Rattle.lexical_literal.proofs.FitLemmas.{front_of, linked_there}
use Rattle.lexical_literal.proofs.RefusalLemmas.{other_roles}
use Rattle.lexical_literal.proofs.SizeLemmas.{all_end, as_sized, as_unsized, ends, group_append, may_end, small_after}

front_shorter : (m : Notation) (text : List ℕ) (k n : ℕ) → k ≤ n → IsFront m (take n text) → IsFront m (take k text)
front_shorter m text k n below is = record {
  more = drop k (take n text) ++ is.more;
  literal = is.literal;
  reads = record {
    whole = rw (← append_assoc (take k text) (drop k (take n text)) is.more, ← take-take k n text below, take-append-drop k (take n text)) is.reads.whole;
    literal = is.reads.literal;
  };
}

-- `HasCounted m text at group counts found` holds if `at` has what has been read of `text`, `group` its last group, `counts` the
-- lengths of its parts, and `found` the longest front that is a literal.
pub record HasCounted (m : Notation) (text : List ℕ) (at : Stopped) (group : Group) (counts : List ℕ) (found : Option Found) : Type 0 where
  pub nine : length counts ≡ 9
  pub small : (k : ℕ) → get_or counts k 0 ≤ at.size + 1
  pub read : IsUnderway m text at group
  pub counted : tally (unsized m) (Some start) no_cuts (take at.size text) ≡ cuts_of counts
  pub longest : IsLongest m text at.size found

module _ (m : Notation) (text : List ℕ) where
  -- A literal is no longer than the longest front that some literal begins with.
  no_longer_than : (n : ℕ) → IsValidUpTo m text n → (more : ℕ) → more ≤ length text → (l : Literal) → Reads m l (take more text) → more ≤ n
  no_longer_than n wrong more within l reads =
      let front : IsFront m (take more text) =
      record { more = []; literal = l; reads = record { whole = append-nil (take more text) ∙ reads.whole; literal = reads.literal } } in
      let longer = λ (past : n < more). wrong.no_longer more past within front in grind arith

  module _ (stop : Stopped) (is : IsStopped m text stop) where
    -- If the text is a literal, then reading stopped at its end.
    all_right : (l : Literal) → Reads m l text → length text ≤ stop.size
    all_right l reads =
        no_longer_than stop.size is.valid (length text) (omega arith) l (subst (Reads m l) (sym (take_all (length text) text (omega arith))) reads)

    -- If what was read is not a literal, but is one without its last byte, then this is the longest front that is one.
    pub front_before : (size : ℕ) (shorter counts : List ℕ) → stop.size ≡ size + 1 → goes m stop.read is.group None ≡ false
        → shorter ≡ take size text → IsMeasured m shorter counts → IsCountedFront m text (record { size = size; counts = counts })
    front_before size shorter counts last none same measured = let l = measured.literal in let all = is.valid.within in record {
      literal = l.0;
      reads = record {
        within = omega (arith, last, all);
        reads = subst (Reads m l.0) same l.1;
        no_longer = λ more past below k reads.
            let up = no_longer_than stop.size is.valid more below k reads in
            let equal : more ≡ stop.size = omega (arith, up, past, last) in is.incomplete none k (subst (λ n. Reads m k (take n text)) equal reads);
      };
      counted = λ k reads. measured.counted k (subst (Reads m k) (sym same) reads);
    }

    -- If what was read is not all of the text, or not a literal, then the text is not a literal.
    pub none_whole : (stop.size ≡ length text → goes m stop.read is.group None ≡ false) → NoLiteral m text
    none_whole partial l reads = let all = all_right l reads in
        is.incomplete (partial (omega (arith, all, is.valid.within))) l (subst (Reads m l) (sym (take_all stop.size text all)) reads)

    -- If it is all of the text, and a literal, then the text has the lengths that are counted.
    pub whole_measured : (counts : List ℕ) → stop.size ≡ length text → goes m stop.read is.group None ≡ true
        → ((l : Literal) → Reads m l text → HasLengths l (cuts_of counts)) → IsMeasured m text counts
    whole_measured counts all ends counted = let l = is.complete ends in
        record { literal = (l.0, subst (Reads m l.0) (take_all stop.size text (omega (arith, all))) l.1); counted = counted }

    -- If the text is not a literal, what was read does not allow what follows.
    pub refused_there : NoLiteral m text → goes m stop.read is.group (slice_get text stop.size) ≡ false
    refused_there none = elim (cases_lt stop.size (length text)) [
      | inl short ↦ is.refused short
      | inr long ↦ ap (goes m stop.read is.group) (slice_get_past text stop.size long) ∙ false_from_ne_true _ (λ ends.
          let l = is.complete ends in none l.0 (subst (Reads m l.0) (take_all stop.size text long) l.1))
    ]

  -- The longest front that is a literal.
  pub front_literal : (found : Found) → IsLongest m text (length text) (Some found) → IsCountedFront m text found
  front_literal found is = let l = is.found found refl in record {
    literal = l.1;
    reads = record {
      within = l.0;
      reads = l.2;
      no_longer = λ more past below. is.no_longer more below (λ other same. let equal : found ≡ other = cc in subst (λ (f : Found). f.size < more) equal past);
    };
    counted = is.counted found refl;
  }

  -- The longest front where reading stops.
  pub longest_all : (stop : Stopped) (longest : Option Found) → IsStopped m text stop
      → IsLongest m text stop.size longest → IsLongest m text (length text) longest
  longest_all stop longest stopped is = record {
    found = λ found some. let before = is.found found some in let within = stopped.valid.within in (omega (arith, before.0, within), before.1, before.2);
    counted = is.counted;
    no_longer = λ more within past l reads. is.no_longer more (no_longer_than stop.size stopped.valid more within l reads) past l reads;
  }

  -- All of a literal is its longest front.
  pub all_counted : (longest : Option Found) → IsLongest m text (length text) longest → (l : Literal) → Reads m l text
      → (found : Found) × (longest ≡ Some found) × HasLengths l (cuts_of found.counts)
  all_counted longest is l reads = go longest refl where
    whole : Reads m l (take (length text) text)
    whole = subst (Reads m l) (sym (take_all (length text) text (omega arith))) reads

    go : (o : Option Found) → longest ≡ o → (found : Found) × (longest ≡ Some found) × HasLengths l (cuts_of found.counts)
    go None none = absurd (is.no_longer (length text) (omega arith) (λ other same. let clash : None ≡ Some other = sym none ∙ same in cc) l whole)
    go (Some found) some =
        let within = (is.found found some).0 in
        let all : length text ≤ found.size = elim (cases_lt found.size (length text)) [
          | inl short ↦ absurd (is.no_longer (length text) (omega arith)
              (λ other same. let equal : found ≡ other = cc in subst (λ (f : Found). f.size < length text) equal short) l whole)
          | inr long ↦ long
        ] in
        (found, some, is.counted found some l (subst (Reads m l) (sym (take_all found.size text all)) reads))

-- Without a longest front, no front is a literal.
pub no_front : (m : Notation) (text : List ℕ) (longest : Option Found) → IsLongest m text (length text) longest → IsNone longest → NoFront m text
no_front m text x2 is none size below = grind arith

-- A literal that has been found is the longest front that is one if reading stops behind it.
pub found_there : (m : Notation) (text : List ℕ) (counted : Begun) → HasBegun m text counted → counted.complete ≡ true
    → (stop : Stopped) → IsStopped m text stop
    → stop.size ≡ counted.at.size → IsCountedFront m text (record { size = stop.size; counts = counted.counts })
found_there m text counted has complete stop is same = let l = has.literal complete in record {
  literal = l.0;
  reads = let here = subst (λ n. Reads m l.0 (take n text)) (sym same) l.1 in grind (arith, no_longer_than);
  counted = λ k reads. has.lengths complete k (subst (λ n. Reads m k (take n text)) same reads);
}

-- What a pass finds that seeks the longest front.
pub fronted : (m : Notation) (text : List ℕ) (stop : Stopped) (found : Found) → IsStopped m text stop → IsCountedFront m text found
    → IsFronted m text stop (Some found)
fronted m text stop found reached is = grind arith

-- WITHOUT SIZES

module _ (m : Notation) (ready : IsReady m) (text : List ℕ) where
  -- The lengths of the parts of a literal.
  pub has_counted : (n : ℕ) (counts : List ℕ) → tally m (Some start) no_cuts (take n text) ≡ cuts_of counts → (l : Literal) → Reads m l (take n text)
      → HasLengths l (cuts_of counts)
  has_counted n counts lengths l reads =
      rw (← lengths, reads.whole, (literal_arrives m ready.roles l reads.literal).1) (has_lengths l)

  -- Where a literal may have been found.
  pub complete_at : (counted : Begun) → IsAt m text counted.at (cuts_of counted.counts) → counted.complete ≡ is_complete m counted.at.read
      → (IsTrue counted.refused → IsRefused m text counted.at) → HasFound m text counted
  complete_at counted is complete refused = record {
    begun = is.begun;
    literal = λ yes. literal_from m ready.roles ready.no_sizes (take counted.at.size text) (ap (is_accepted m) is.begun.read ∙ sym complete ∙ yes);
    lengths = λ yes. has_counted counted.at.size counted.counts is.counted;
    refused = refused;
  }

  -- A text has one reading.
  pub one_reading : (l k : Literal) → Reads m l text → Reads m k text → l ≡ k
  one_reading l k first second =
      let a = has_lengths l in
      let counts = λ (l : Literal) (is : IsLiteral m l). (literal_arrives m ready.roles l is).1 in
      let b : HasLengths k (all_cuts l) =
      rw (← counts l first.literal, ← first.whole, second.whole, counts k second.literal) (has_lengths k) in
      let sign = same_part l.sign k.sign _ _ (a.sign ∙ sym b.sign) (sym first.whole ∙ second.whole) in
      let prefix = same_part l.prefix k.prefix _ _ (a.prefix ∙ sym b.prefix) sign.1 in
      let integer = same_part l.integer k.integer _ _ (a.integer ∙ sym b.integer) prefix.1 in
      let point = same_part l.point k.point _ _ (a.point ∙ sym b.point) integer.1 in
      let fraction = same_part l.fraction k.fraction _ _ (a.fraction ∙ sym b.fraction) point.1 in
      let exponent_character = same_part l.exponent_character k.exponent_character _ _ (a.exponent_character ∙ sym b.exponent_character) fraction.1 in
      let exponent_sign = same_part l.exponent_sign k.exponent_sign _ _ (a.exponent_sign ∙ sym b.exponent_sign) exponent_character.1 in
      let exponent = same_part l.exponent k.exponent _ _ (a.exponent ∙ sym b.exponent) exponent_sign.1 in
      grind arith where
        same_part : (x y X Y : List ℕ) → length x ≡ length y → x ++ X ≡ y ++ Y → (x ≡ y) × (X ≡ Y)
        same_part [] [] X Y same e = (refl, e)
        same_part (b ∷ x) (c ∷ y) X Y same e =
            let head : b ≡ c = cc in
            let more = same_part x y X Y (omega (arith, same)) cc in ((λ j. head j ∷ more.0 j), more.1)
        same_part _ _ X Y same e = cc

-- What has been read has one last group.
pub same_group : (m : Notation) (text : List ℕ) (at : Stopped) (a b : Group) → IsUnderway m text at a → IsUnderway m text at b → a ≡ b
same_group m text at a b is also = let first = is.grouped in let second = also.grouped in cc

-- WITH SIZES

module _ (m : Notation) (ready : IsReady (unsized m)) (sizes : HasSizes m) (text : List ℕ) where
  abbrev u : Notation
  u = unsized m

  h : HasRoles m
  h = other_roles u m.flag m.condition ready.roles

  -- A text has one reading.
  pub one_sized_reading : (l k : Literal) → Reads m l text → Reads m k text → l ≡ k
  one_sized_reading l k first second = one_reading u ready text l k (as_unsized m h sizes l text first).0 (as_unsized m h sizes k text second).0

  module _ (at : Stopped) (group : Group) (is : IsUnderway m text at group) where
    abbrev b : ℕ
    b = get_or text at.size 0

    decides : (next : Option ℕ) → (goes m at.read group next ≡ true) ↔ Allows m (take at.size text) next
    decides = decides_there m ready sizes (take at.size text) at.read group is.begun.read is.grouped

    -- What has been read is a literal if it ends.
    no_literal_at : goes m at.read group None ≡ false → NoLiteral m (take at.size text)
    no_literal_at none l reads = false≢true (sym none ∙ (decides None).1 (l, reads))

    abbrev step_of : Option Summary
    step_of = step u at.read b

    abbrev group_of : Option Group
    group_of = grow m group (role_at m group.part b)

    next_group : at.size < length text → group_after m (Some first_group) (take (at.size + 1) text) ≡ group_of
    next_group inside = rw (take_more text at.size 0 inside, group_append m (Some first_group) (take at.size text) (b ∷ []), is.grouped) refl

    -- The role of a byte in the last group is that in what has been read.
    pub same_grow : (role : Role) → role_at m (part_of at.read.stage) b ≡ Some role → group_of ≡ grow m group (Some role)
    same_grow role plays = elim (cases_Bool (has_sizes m)) [
      | inl sized ↦ ap (grow m group) (ap (λ part. role_at m part b) (linked_there m sized (take at.size text) at.read group is.begun.read is.grouped) ∙ plays)
      | inr none ↦ rw (none) refl
    ]

    -- A group has no more digits than bytes have been read.
    pub small_group : group.digits ≤ at.size
    small_group = omega (arith, small_after m first_group group (take at.size text) is.grouped, length-take-le at.size text is.begun.within)

    -- One more byte.
    pub underway_more : (t : Summary) (g : Group) (role : Role) → at.size < length text → step_of ≡ Some t
        → role_at m (part_of at.read.stage) b ≡ Some role → grow m group (Some role) ≡ Some g
        → IsUnderway m text (record { size = at.size + 1; read = t }) g
    underway_more t g role inside taken plays grown = grind (arith, common_steps, take_more, walk_append, next_group, same_grow)

    stopped_by : IsWithin m text at.size → (at.size < length text → goes m at.read group (Some b) ≡ false) → IsStopped m text at
    stopped_by none refused = record {
      valid = record {
        within = is.begun.within;
        front = front_of m ready sizes (take at.size text) at.read group is.begun.read is.grouped;
        no_longer = none;
      };
      group = group;
      read = is;
      refused = λ inside. rw (slice_get-get_or text at.size 0 inside) (refused inside);
      complete = (decides None).0;
      incomplete = no_literal_at;
    }

    -- No literal goes on.
    pub stops_before : IsWithin m text at.size → IsStopped m text at
    stops_before none = stopped_by none (λ inside. false_from_ne_true _ (λ going. none (at.size + 1) (omega arith) (omega (arith, inside))
        (subst (IsFront m) (sym (take_more text at.size 0 inside)) ((decides (Some b)).0 going))))

    -- A byte that is not taken, or the end of the text.
    pub stops_at : (at.size < length text → (step_of ≡ None) ⊎ (group_of ≡ None)) → IsStopped m text at
    stops_at none = stopped_by (λ more over within front.
        let inside : at.size < length text = omega (arith, over, within) in
        false≢true (sym (refused inside) ∙ (decides (Some b)).1 (subst (IsFront m) (take_more text at.size 0 inside)
        (front_shorter m text (at.size + 1) more (omega (arith, over)) front)))) refused where
          refused : at.size < length text → goes m at.read group (Some b) ≡ false
          refused inside = false_from_ne_true _ (λ goes. let both = and_parts (is_some step_of) _ goes in elim (none inside) [
            | inl step ↦ false≢true (sym (ap is_some step) ∙ both.0)
            | inr grown ↦ grows m ready sizes _ at.read group is.begun.read is.grouped (role_at m group.part b) both.1 grown
          ])

  -- Nothing is the longest front of nothing.
  pub first_counted : HasCounted m text (record { size = 0; read = start }) first_group (replicate 9 0) None
  first_counted = grind arith

  module _ (at next : Stopped) (group last : Group) (counts : List ℕ) (found : Option Found) (has : HasCounted m text at group counts found) (role : Role)
      (follows : (role_at m (part_of at.read.stage) (get_or text at.size 0) ≡ Some role) × IsUnderway m text next last × (next.size ≡ at.size + 1)) where
    inside : at.size < length text
    inside = omega (arith, follows.1.begun.within, follows.2)

    -- A longer front that is a literal, or none.
    longer : (counts : List ℕ) → tally u (Some start) no_cuts (take next.size text) ≡ cuts_of counts → (complete : Bool)
        → complete ≡ goes m next.read last None
        → IsLongest m text next.size (if complete then Some (record { size = next.size; counts = counts }) else found)
    longer counts counted true complete = record {
      found = λ found is. let same : record { size = next.size; counts = counts } ≡ found = cc in
          subst (λ (f : Found). (f.size ≤ next.size) × (l : Literal) × Reads m l (take f.size text)) same
          (let l = (decides next last follows.1 None).0 (sym complete) in (omega arith, l.0, l.1));
      counted = λ found is. let same : record { size = next.size; counts = counts } ≡ found = cc in
          subst (λ (f : Found). (l : Literal) → Reads m l (take f.size text) → HasLengths l (cuts_of f.counts)) same
          (λ l reads. has_counted u ready text next.size counts counted l (as_unsized m h sizes l (take next.size text) reads).0);
      no_longer = λ more over past. absurd (let low : next.size < more = past _ refl in omega (arith, over, low));
    }
    longer counts counted false incomplete = record {
      found = λ found is. let before = has.longest.found found is in (omega (arith, follows.2, before.0), before.1, before.2);
      counted = has.longest.counted;
      no_longer = λ more over past l reads. elim (cases_lt at.size more) [
        | inl new ↦ let same : more ≡ next.size = omega (arith, over, new, follows.2) in
            no_literal_at next last follows.1 (sym incomplete) l (subst (λ n. Reads m l (take n text)) same reads)
        | inr before ↦ has.longest.no_longer more before past l reads
      ];
    }

    -- One more byte is counted.
    pub more_counted : (more : List ℕ) → length more ≡ 9 → cuts_of more ≡ count (part_of at.read.stage) (Some role) (cuts_of counts)
        → ((k : ℕ) → get_or more k 0 ≤ at.size + 1 + 1) → (complete : Bool) → complete ≡ goes m next.read last None
        → HasCounted m text next last more (if complete then Some (record { size = next.size; counts = more }) else found)
    more_counted more nine same small complete is =
        let counted : tally u (Some start) no_cuts (take next.size text) ≡ cuts_of more = ap (λ n. tally u (Some start) no_cuts (take n text)) follows.2
        ∙ rw (
          take_more text at.size 0 inside,
          tally_append u.condition u (Some start) no_cuts (take at.size text) (get_or text at.size 0 ∷ []),
          has.read.begun.read,
          has.counted,
          follows.0,
        )
        (sym same) in record {
          nine = nine;
          small = λ k. let one = small k in omega (arith, one, follows.2);
          read = follows.1;
          counted = counted;
          longest = longer more counted complete is;
        }

  -- What has been found without sizes, if its groups fit.
  pub begun_with : (counted : Begun) → HasFound u text counted → (group : Group) → group_after m (Some first_group) (take counted.at.size text) ≡ Some group
      → (counted.complete ≡ true → group_allows m group None ≡ true) → HasBegun m text counted
  begun_with counted found group grouped ends_there = record {
    group = group;
    begun = record { begun = found.begun; grouped = grouped };
    literal = λ yes. let l = found.literal yes in
        (l.0, as_sized m h sizes l.0 (take counted.at.size text) l.1 (ap (ends m) grouped ∙ ends_there yes));
    lengths = λ yes l reads. found.lengths yes l (as_unsized m h sizes l (take counted.at.size text) reads).0;
    refused = λ yes. let is = found.refused yes in
        (is.0, stops_at counted.at group (record { begun = found.begun; grouped = grouped }) (λ _. inl is.1));
  }

  -- What has been found without sizes, if its integer is grouped.
  pub begun_grouped : (counted : Begun) (found : HasFound u text counted) (whole : IsTrue counted.complete)
      → is_grouped m (found.literal whole).0.integer ≡ true → HasBegun m text counted
  begun_grouped counted found whole fit =
      let l = found.literal whole in let last = may_end m h sizes l.0 (take counted.at.size text) l.1 fit in
      begun_with counted found last.0 last.1 (λ _. last.2)

  pub begun_free : (counted : Begun) → HasFound u text counted → has_sizes m ≡ false → HasBegun m text counted
  begun_free counted found none = begun_with counted found first_group (all_end m none first_group (take counted.at.size text))
      (λ _. ap (λ t. not t || true) none)
