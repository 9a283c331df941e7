use Rattle.std.proofs.Common.{◌≡◌, List, ℕ}
use Rattle.crossbeam_utils.specs.Seq.{Stays}
use Rattle.crossbeam_utils.specs.declared.atomic.seq_cell.Stage.TheVariants.{Writing}
use Rattle.tk_page.proofs.cell.put.Given as goal

abbrev pub invariant-loop-i : goal.invariant-loop-i
invariant-loop-i g l = Stays l.initial.pass l.pass
    × ((former : List ℕ) → l.initial.pass.me.0.stage ≡ Writing l.fn.version former l.fn.new 0
    → l.pass.me.0.stage ≡ Writing l.fn.version former l.fn.new l.i)
