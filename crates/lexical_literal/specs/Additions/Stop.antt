-- What a syntax finds in one pass over a text.
use Rattle.std.specs.Prelude.{ℕ, ◌≡◌, ◌<◌, ◌≤◌, IsNone, IsTrue, List, None, Option, Some, false, true, length, slice_get, take}
use Rattle.std.specs.Option.{ForSome}
use Rattle.lexical_literal.specs.Notation.{Notation}
use Rattle.lexical_literal.specs.Literal.{Literal, Reads}
use Rattle.lexical_literal.specs.Front.{IsFront, IsValidUpTo, NoFront, NoLiteral, ReadsFront}
use Rattle.lexical_literal.specs.Additions.GroupSize.{first_group, goes, group_after, unsized}
use Rattle.lexical_literal.specs.Additions.Step.{HasLengths, cuts_of}
use Rattle.lexical_literal.specs.declared.stop.Found.{Found}
use Rattle.lexical_literal.specs.Additions.Scan.{IsBegun, IsRefused}
use Rattle.lexical_literal.specs.declared.group_size.Group.{Group}
use Rattle.lexical_literal.specs.declared.stop.Stopped.{Stopped}
use Rattle.lexical_literal.specs.declared.stop.Begun.{Begun}

-- `IsLongest m text bound longest` holds if `longest` has the longest front of `text` that is a literal and has at most `bound`
-- bytes, and the lengths of its parts, or if it is `None` and there is none.
pub record IsLongest (m : Notation) (text : List ℕ) (bound : ℕ) (longest : Option Found) : Type 0 where
  pub found : ForSome longest (λ found. (found.size ≤ bound) × (l : Literal) × Reads m l (take found.size text))
  pub counted : ForSome longest (λ found. (l : Literal) → Reads m l (take found.size text) → HasLengths l (cuts_of found.counts))
  pub no_longer : (more : ℕ) → more ≤ bound → ForSome longest (λ found. found.size < more) → NoLiteral m (take more text)

-- `IsUnderway m text at group` holds if `at` has the summary of the first bytes of `text`, and `group` their last group, and if some
-- literal begins with them.
pub record IsUnderway (m : Notation) (text : List ℕ) (at : Stopped) (group : Group) : Type 0 where
  pub begun : IsBegun (unsized m) text at
  pub grouped : group_after m (Some first_group) (take at.size text) ≡ Some group

-- `IsStopped m text stop` holds if `stop` has the length of the longest front of `text` that some literal begins with, and its
-- summary, which with its last group tells whether it is a literal and does not allow a byte that follows.
pub record IsStopped (m : Notation) (text : List ℕ) (stop : Stopped) : Type 0 where
  pub valid : IsValidUpTo m text stop.size
  pub group : Group
  pub read : IsUnderway m text stop group
  pub refused : stop.size < length text → goes m stop.read group (slice_get text stop.size) ≡ false
  pub complete : goes m stop.read group None ≡ true → (l : Literal) × Reads m l (take stop.size text)
  pub incomplete : goes m stop.read group None ≡ false → NoLiteral m (take stop.size text)

-- `HasFound m text counted` holds if `counted` has what has been read of `text` and, if it says that this is a literal, the
-- lengths of its parts, and if the byte that follows is refused, if it says so.
pub record HasFound (m : Notation) (text : List ℕ) (counted : Begun) : Type 0 where
  pub begun : IsBegun m text counted.at
  pub literal : IsTrue counted.complete → (l : Literal) × Reads m l (take counted.at.size text)
  pub lengths : IsTrue counted.complete → (l : Literal) → Reads m l (take counted.at.size text) → HasLengths l (cuts_of counted.counts)
  pub refused : IsTrue counted.refused → IsRefused m text counted.at

-- `HasBegun m text counted` is the same for a notation with sizes of groups: reading stops there, before the end, if it says so.
pub record HasBegun (m : Notation) (text : List ℕ) (counted : Begun) : Type 0 where
  pub group : Group
  pub begun : IsUnderway m text counted.at group
  pub literal : IsTrue counted.complete → (l : Literal) × Reads m l (take counted.at.size text)
  pub lengths : IsTrue counted.complete → (l : Literal) → Reads m l (take counted.at.size text) → HasLengths l (cuts_of counted.counts)
  pub refused : IsTrue counted.refused → (counted.at.size < length text) × IsStopped m text counted.at

-- `IsWithin m text size` holds if no literal begins with more than the first `size` bytes of `text`.
abbrev pub IsWithin : Notation → List ℕ → ℕ → Type 0
IsWithin m text size = (more : ℕ) → size < more → more ≤ length text → IsFront m (take more text) → ⊥

-- `IsMeasured m text counts` holds if `text` is a literal, and if its parts have the lengths `counts`.
pub record IsMeasured (m : Notation) (text counts : List ℕ) : Type 0 where
  pub literal : (l : Literal) × Reads m l text
  pub counted : (l : Literal) → Reads m l text → HasLengths l (cuts_of counts)

-- `IsCountedFront m text found` holds if `found` has the length of the longest front of `text` that is a literal, and the
-- lengths of its parts.
pub record IsCountedFront (m : Notation) (text : List ℕ) (found : Found) : Type 0 where
  pub literal : Literal
  pub reads : ReadsFront m literal text found.size
  pub counted : (l : Literal) → Reads m l (take found.size text) → HasLengths l (cuts_of found.counts)

-- `IsFronted m text stop found` holds if `stop` is where reading `text` stops, and `found` the longest front that is a literal,
-- or `None` if there is none.
pub record IsFronted (m : Notation) (text : List ℕ) (stop : Stopped) (found : Option Found) : Type 0 where
  pub reached : IsStopped m text stop
  pub longest : ForSome found (IsCountedFront m text)
  pub none : IsNone found → NoFront m text
