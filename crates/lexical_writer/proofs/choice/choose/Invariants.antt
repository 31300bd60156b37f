use Rattle.lexical_writer.proofs.Common.{IsPassedOver, IsSearched, is_asked, length, ◌-◌, ◌≡◌, ◌≤◌}
use Rattle.lexical_writer.proofs.choice.choose.Given as goal

abbrev pub invariant-loop-step : goal.invariant-loop-step
invariant-loop-step g l = record {
  most : l.step ≤ l.end;
  room : length l.buffer ≡ length l.fn.buffer;
  searched : IsSearched (IsPassedOver (g.N.Writable.task l.number l.style) (length l.fn.buffer) l.forms)
      (is_asked (g.N.Writable.task l.number l.style).own) l.forms.forms l.step 0 l.error;
}

abbrev pub decreases-loop-step : goal.decreases-loop-step
decreases-loop-step g l = l.end - l.step

abbrev pub invariant-loop-index : goal.invariant-loop-index
invariant-loop-index g l = record {
  room : length l.buffer ≡ length l.fn.buffer;
  searched : IsSearched (IsPassedOver (g.N.Writable.task l.number l.style) (length l.fn.buffer) l.forms)
      (is_asked (g.N.Writable.task l.number l.style).own) l.forms.forms l.step l.index l.error;
}

abbrev pub decreases-loop-index : goal.decreases-loop-index
decreases-loop-index g l = length l.list - l.index
