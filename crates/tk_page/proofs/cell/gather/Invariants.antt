use Rattle.std.proofs.Common.{◌≡◌, length, List, ℕ}
use Rattle.crossbeam_utils.specs.Seq.{Gathered, Stays}
use Rattle.tk_page.proofs.cell.gather.Given as goal

abbrev pub invariant-loop-i : goal.invariant-loop-i
invariant-loop-i l = Stays l.initial.pass l.pass × (length l.words ≡ 8)
    × Gathered (λ (x : List ℕ). x) l.i l.words l.initial.pass.me.0.stage l.pass.me.0.stage
