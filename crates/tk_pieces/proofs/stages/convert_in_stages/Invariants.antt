use Rattle.std.proofs.Common.{◌<◌, ◌≤◌, ◌-◌, length}
use Rattle.tk_keeper.specs.Trace.{AreValues}
use Rattle.tk_pieces.specs.Input.{of_input}
use Rattle.tk_pieces.proofs.stages.convert_in_stages.Given as goal

abbrev pub invariant-stages : goal.invariant-stages
invariant-stages g l = record {
  so_far : of_input AreValues l.input (length l.values.items) l.values.items;
  inside : length l.values.items ≤ length l.input.stamps.now;
  filled : 0 < l.most;
}

abbrev pub decreases-stages : goal.decreases-stages
decreases-stages g l = length l.input.stamps.now - length l.values.items
