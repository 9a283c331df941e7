use Rattle.std.proofs.Common.{◌≡◌, ◌-◌, ◌≤◌, ◌⊎◌}
use Rattle.tk_counter.specs.Frequency.{rounded_mult, chosen_shift}
use Rattle.tk_counter.proofs.Frequency.{found_from}
use Rattle.tk_counter.proofs.counter.frequency.chosen_shift.Given as goal

abbrev pub invariant-loop-shift : goal.invariant-loop-shift
invariant-loop-shift l = record {
  rest : chosen_shift l.unit_ns l.rate l.span ≡ found_from l.unit_ns l.rate l.span (l.shift - 1);
  above : (l.shift ≡ 33) ⊎ (l.limit ≤ rounded_mult l.unit_ns l.rate l.shift);
  least : 2 ≤ l.shift;
}
