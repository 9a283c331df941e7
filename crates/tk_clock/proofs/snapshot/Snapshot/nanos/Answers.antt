use Rattle.tk_clock.proofs.Reading.{read_result}
use Rattle.tk_clock.proofs.snapshot.Snapshot.nanos.Goals as goal

pub returns : goal.returns
returns c =
    rw (← c.self.view_is)
    (read_result c.self.inside.base c.args.clock c.args.reading c.nanos.result c.nanos.ensures)
