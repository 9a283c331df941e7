use Rattle.crossbeam_utils.specs.Seq.{Stays}
use Rattle.tk_page.proofs.cell.hold.Given as goal

abbrev pub invariant-loop : goal.invariant-loop
invariant-loop g l = Stays l.initial.pass l.pass
