use Rattle.std.proofs.Common.{ap}
use Rattle.tk_clock.specs.Snapshot.{Snapshot}
use Rattle.tk_keeper.proofs.Items.{tells_items}
use Rattle.tk_keeper.proofs.timekeeper.Timekeeper.item_snapshot.Goals as goal

pub returns-in-Ok-clause-converts : goal.returns-in-Ok-clause-converts
returns-in-Ok-clause-converts g c =
    tells_items c.args.self.now.journal c.args.front c.in-Ok.snapshot.base
    c.in-Ok.ensures.answer.0 c.in-Ok.ensures.clocks
    (ap (λ (s : Snapshot). s.base.counter) c.in-Ok.ensures.answer.1) c.never_negative.ensures
