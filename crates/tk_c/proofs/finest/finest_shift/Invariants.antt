use Rattle.std.proofs.Common.{◌≡◌, ◌≤◌, ℕ, false}
use Rattle.tk_c.specs.Finest.{counter_at, is_exact}
use Rattle.tk_c.proofs.finest.finest_shift.Given as goal

abbrev pub invariant-loop-shift : goal.invariant-loop-shift
invariant-loop-shift l = record {
  above : (shift : ℕ) → l.shift ≤ shift → shift ≤ 32 →
      is_exact (counter_at 64 l.hz shift) l.cycles ≡ false;
  least : 2 ≤ l.shift;
  most : l.shift ≤ 33;
}
