use Rattle.std.proofs.Common.{◌≡◌, ℕ, ◌-◌, ◌<◌, ◌≤◌, get_or}
use Rattle.tk_keeper.proofs.timekeeper.tracing.stretch_end.Given as goal

abbrev pub invariant-eights : goal.invariant-eights
invariant-eights l = record {
  further : l.first < l.next;
  inside : l.next ≤ l.end;
  same : (k : ℕ) → l.first ≤ k → k < l.next → get_or l.fronts k 0 ≡ get_or l.fronts l.first 0;
}

abbrev pub decreases-eights : goal.decreases-eights
decreases-eights l = l.end - l.next

abbrev pub invariant-loop-place : goal.invariant-loop-place
invariant-loop-place l = (k : ℕ) → l.first ≤ k → k < l.place →
    get_or l.fronts k 0 ≡ get_or l.fronts l.first 0
