use Rattle.lexical_forms.proofs.Common.{Bor, List, begins, filter, fold, length, map, max, nat_le, ℕ, ◌&&◌, ◌≡◌, ◌≤◌}
use Rattle.lexical_forms.proofs.suffix.longest_word.Given as goal

abbrev pub invariant-loop-rest : goal.invariant-loop-rest
invariant-loop-rest l = record {
  within : l.longest ≤ l.most;
  same : fold max 0 (map (λ (word : Bor (List ℕ)). length word.now) (filter
      (λ word. nat_le l.least (length word.now) && nat_le (length word.now) l.most && begins l.either' word.now l.text) l.words))
      ≡ fold max l.longest (map (λ (word : Bor (List ℕ)). length word.now) (filter
      (λ word. nat_le l.least (length word.now) && nat_le (length word.now) l.most && begins l.either' word.now l.text) l.rest));
}

abbrev pub decreases-loop-rest : goal.decreases-loop-rest
decreases-loop-rest l = length l.rest
