-- What an error answers, computed from where reading stopped.
use Rattle.std.specs.Prelude.{ℕ, ◌+◌, ◌-◌, ◌==◌, ◌&&◌, not, nat_lt, if◌then◌else◌, Bool, Option, Some, None, List, [], ◌∷◌, get_or}
use Rattle.std.specs.List.{list_any}
use Rattle.lexical_util.specs.Layout as layout
use Rattle.lexical_util.specs.Layout.{Flag}
use Rattle.lexical_util.specs.Record.{word_of}
use Rattle.lexical_util.specs.Roles.{other_case}
use Rattle.lexical_literal.specs.Additions.Causes.{is_at_gap, place_of}
use Rattle.lexical_literal.specs.Additions.GroupSize.{goes}
use Rattle.lexical_literal.specs.Additions.Step.{part_of, role_at}
use Rattle.lexical_literal.specs.Cause.{Explained, Marks, adding, bare, binds, case_set, first_unmet, is_one_of}
use Rattle.lexical_literal.specs.Cause.{lowest, marks_of, number_separator_flags, requiring, shown}
use Rattle.lexical_literal.specs.Notation.{all_conditions, Notation, kept, notation_of}
use Rattle.lexical_literal.specs.declared.cause.Blame.{Blame}
use Rattle.lexical_literal.specs.declared.cause.ReadErrorKind.TheVariants as causes
use Rattle.lexical_literal.specs.declared.cause.Refusal.{Refusal}
use Rattle.lexical_literal.specs.declared.cause.Spot.{Spot}
use Rattle.lexical_literal.specs.declared.syntax.Condition.{Condition}
use Rattle.lexical_literal.specs.declared.syntax.Grammar.{Grammar}
use Rattle.lexical_literal.specs.declared.group_size.Group.{Group}
use Rattle.lexical_literal.specs.declared.step.Summary.{Summary}

-- `mask_of flag` is the mask of the flags for which `flag` is true.
abbrev pub mask_of : (Flag → Bool) → ℕ
mask_of flag = word_of (record { flag = flag; byte = λ b. 0 })

-- `alone m s g next f` is true if the flag `f` requires something, and alone refuses what cannot follow `s`.
abbrev pub alone : Notation → Summary → Group → Option ℕ → Flag → Bool
alone m s g next f = binds m f && not (goes (adding f (bare m)) s g next)

-- `unmet m s g next c` is true if the condition `c` alone refuses what cannot follow `s`.
abbrev pub unmet : Notation → Summary → Group → Option ℕ → Condition → Bool
unmet m s g next c = m.condition c && (goes (bare m) s g next && not (goes (requiring c (bare m)) s g next))

-- `leading_zero_flags` lists the two flags on leading zeros.
abbrev pub leading_zero_flags : List Flag
leading_zero_flags = layout.no_integer_leading_zeros ∷ layout.no_float_leading_zeros ∷ []

-- `zeros m f` is true if the flag `f` is on leading zeros, and requires something.
abbrev pub zeros : Notation → Flag → Bool
zeros m f = binds m f && is_one_of leading_zero_flags f

-- `some_unmet m s g next` is true if some condition alone refuses what cannot follow `s`.
abbrev pub some_unmet : Notation → Summary → Group → Option ℕ → Bool
some_unmet m s g next = list_any (unmet m s g next) all_conditions

-- `requirements m s g next` is the mask of the flags that are to blame for a requirement.
abbrev pub requirements : Notation → Summary → Group → Option ℕ → ℕ
requirements m s g next =
    if mask_of (alone m s g next) == 0 && not (some_unmet m s g next) then mask_of (zeros m) else mask_of (alone m s g next)

-- `separators m s g next f` is true if the flag `f` would allow a separator that is not allowed.
abbrev pub separators : Notation → Summary → Group → Option ℕ → Flag → Bool
separators m s g next f = is_at_gap m s next && (is_one_of number_separator_flags f && goes (adding f (bare m)) s g next)

-- `cases m s g byte f` is true if the other case of `byte` may follow `s`, and counts by the flag `f`.
abbrev pub cases : Notation → Summary → Group → ℕ → Flag → Bool
cases m s g byte f = goes (bare m) s g (Some (other_case byte)) && case_set f m (other_case byte)

-- `otherwise m s g next` is the cause, and the mask of the flags that are to blame, if no requirement is the cause.
abbrev pub otherwise : Notation → Summary → Group → Option ℕ → Blame
otherwise m s g None = record { kind = causes.Missing (part_of s.stage); mask = 0 }
otherwise m s g (Some byte) =
    if mask_of (separators m s g (Some byte)) == 0
    then record { kind = if mask_of (cases m s g byte) == 0 then causes.Byte else causes.Case; mask = mask_of (cases m s g byte) }
    else record {
      kind = causes.Separator (part_of s.stage) (place_of m (part_of s.stage) s.stage s.gap (role_at m (part_of s.stage) byte));
      mask = mask_of (separators m s g (Some byte));
    }

-- `blame m s g next` is why the byte `next` cannot follow `s`, or why `s` is not a literal, where `next` is `None`.
abbrev pub blame : Notation → Summary → Group → Option ℕ → Blame
blame m s g next = if goes (bare m) s g next then record { kind = causes.Requirement; mask = requirements m s g next } else otherwise m s g next

-- `group_at spot` is the last group of digits before `spot`.
abbrev pub group_at : Spot → Group
group_at spot = record { part = part_of spot.read.stage; separated = spot.separated; digits = spot.size - spot.group }

-- `marks_at spot` has the indexes that `spot` has.
abbrev pub marks_at : Spot → Marks
marks_at spot = record { size = spot.size; exponent = spot.exponent; first = spot.first; run = spot.run; group = spot.group }

-- `spot_of g front s byte tail separated` is where reading stopped behind `front` with the summary `s`.
abbrev pub spot_of : Grammar → List ℕ → Summary → Option ℕ → List ℕ → Bool → Spot
spot_of g front s byte tail separated = let k = marks_of (notation_of g) front in record {
  grammar = g;
  read = s;
  byte = byte;
  tail = tail;
  size = k.size;
  exponent = k.exponent;
  first = k.first;
  run = k.run;
  group = k.group;
  separated = separated;
}

-- `refusal_of m spot` is what an error answers that was made at `spot` since no literal goes on there.
abbrev pub refusal_of : Notation → Spot → Refusal
refusal_of m spot =
    let b = blame m spot.read (group_at spot) spot.byte in
    let unmet = kept (unmet m spot.read (group_at spot) spot.byte) m.number in
    let shown = shown m (marks_at spot) spot.byte b.kind (lowest b.mask) (first_unmet b.mask unmet) in record {
      valid_up_to = spot.size;
      byte = spot.byte;
      tail = spot.tail;
      kind = b.kind;
      mask = b.mask;
      conditions = unmet;
      start = shown.0;
      end = shown.1;
      code = shown.2;
    }

-- `explained spot` is the error that was made at `spot`.
abbrev pub explained : Spot → Explained
explained spot = record { refusal = refusal_of (notation_of spot.grammar) spot; spot = spot }

-- `tail_byte text size tail place` is the byte of `text` behind the first `size + place` if `place` is at most `tail`, and 0
-- where there is none.
abbrev pub tail_byte : List ℕ → ℕ → ℕ → ℕ → ℕ
tail_byte text size tail place = if nat_lt tail place then 0 else get_or text (size + place) 0
