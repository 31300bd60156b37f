-- The order in which forms are asked.
use Rattle.lexical_writer.proofs.Common.{AreBefore, ArePassed, Bool, Form, IsRefused, IsSearched, List, Option, Some, Task, WriteError, [], arith, cases_lt}
use Rattle.lexical_writer.proofs.Common.{false, if◌then◌else◌, inl, inr, is_short, length, nat_tests, slice_get, slice_index_or, true, unwrap_or, ways}
use Rattle.lexical_writer.proofs.Common.{words_of, ℕ, ◌+◌, ◌<◌, ◌≡◌, ◌≤◌}
use Rattle.std.specs.Borrow.{Bor}
use Rattle.std.proofs.lemmas.List.{length-map}
use Rattle.std.proofs.lemmas.Option.{slice_get-map, slice_get-get_or, slice_get_within}
use Rattle.lexical_forms.specs.FormList.{FormList}
use Rattle.lexical_writer.specs.declared.choice.Own.{Own}

-- In a step, the next form is asked behind those before it.
pub before_more : {P : ℕ → Form → Type 0} {asked : ℕ → Form → Bool} {forms : List Form} {step index : ℕ} (form : Form) → slice_get forms index ≡ Some form
    → (asked step form ≡ true → P index form) → AreBefore P asked forms step index → AreBefore P asked forms step (index + 1)
before_more {P} {asked} {forms} {step} {index} form here new old = grind (arith, nat_tests)

-- Behind the last form of a step is the first one of the next step.
pub before_next : {P : ℕ → Form → Type 0} {asked : ℕ → Form → Bool} {forms : List Form} {step index : ℕ} → length forms ≤ index
    → AreBefore P asked forms step index → AreBefore P asked forms (step + 1) 0
before_next {P} {asked} {forms} {step} {index} end old = grind (arith, slice_get_within)

module _ (P : ℕ → Form → WriteError → Type 0) (asked : ℕ → Form → Bool) (forms : List Form) where
  module _ (step index : ℕ) (reason : Option WriteError) (old : IsSearched P asked forms step index reason) where
    -- Behind forms that are not asked, the reason is the same.
    moved : (to at : ℕ) → ((Q : ℕ → Form → Type 0) → AreBefore Q asked forms step index → AreBefore Q asked forms to at)
        → IsSearched P asked forms to at reason
    moved to at carry = record { passed = carry _ old.passed; none = λ same. carry _ (old.none same); first = old.first }

    pub searched_next : length forms ≤ index → IsSearched P asked forms (step + 1) 0 reason
    searched_next end = moved (step + 1) 0 (λ Q. before_next end)

    module _ (form : Form) (here : slice_get forms index ≡ Some form) where
      pub searched_skip : (asked step form ≡ true → ⊥) → IsSearched P asked forms step (index + 1) reason
      searched_skip none = moved step (index + 1) (λ Q. before_more form here (λ now. absurd (none now)))

      -- The first error is that of the list.
      pub searched_more : (error : WriteError) → asked step form ≡ true → P index form error
          → IsSearched P asked forms step (index + 1) (Some (unwrap_or reason error))
      searched_more error now holds = grind (arith, nat_tests, before_more {P = λ index form. (error : WriteError) × P index form error})

-- The ways in which a form is asked to write a number, in their order.
module _ (task : Task) (room : ℕ) (list : FormList) (index : ℕ) (form : Form) where
  -- The form does not write the number in the next way either.
  pub passed_more : (n : ℕ) (word : Option (List ℕ)) (error : WriteError) → slice_get (ways task.own.integer form) n ≡ Some word
      → IsRefused task room list index form word error → is_short error ≡ false → ArePassed task room list index form n
      → ArePassed task room list index form (n + 1)
  passed_more n word error here refused fits old at it less there = elim (cases_lt at n) [
    | inl earlier ↦ old at it earlier there
    | inr least ↦ grind arith
  ]

-- `words integer form` are the words with which a form writes a number.
abbrev pub words : Bool → Form → List (Bor (List ℕ))
words integer form = if integer then words_of form.suffixes else []

abbrev pub no_word : Bor (List ℕ)
no_word = record { ref_ptr = (0, 0); now = [] }

-- Behind the way without a word, there is one with each word.
pub word_way : (it own : Own) (form : Form) (list : List (Bor (List ℕ))) (n : ℕ) → it ≡ own → list ≡ words it.integer form → n < length list
    → slice_get (ways own.integer form) (n + 1) ≡ Some (Some (slice_index_or list n no_word).now)
word_way it own form list n same is below = grind (arith, slice_get-map, slice_get-get_or)

pub ways_count : (it own : Own) (form : Form) (list : List (Bor (List ℕ))) → it ≡ own → list ≡ words it.integer form
    → length (ways own.integer form) ≡ length list + 1
ways_count it own form list same is = grind (arith, length-map)
