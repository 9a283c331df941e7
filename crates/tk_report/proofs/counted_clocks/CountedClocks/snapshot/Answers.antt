use Rattle.std.proofs.Common.{◌∙◌, ap}
use Rattle.tk_clock.specs.Snapshot.{Snapshot}
use Rattle.tk_report.specs.CountedClocks.{Counted}
use Rattle.tk_report.proofs.counted_clocks.CountedClocks.snapshot.Goals as goal

pub returns : goal.returns
returns c =
    c.snapshot.ensures
    ∙ ap (λ (k : Counted). let now : Snapshot = record { front = k.count; base = k.clock.base }
    in now) c.self.view_is
