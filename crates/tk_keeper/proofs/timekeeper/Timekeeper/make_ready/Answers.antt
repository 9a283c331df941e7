use Rattle.std.proofs.Common.{sym}
use Rattle.tk_keeper.specs.Room.{IsFull}
use Rattle.tk_keeper.proofs.Giving.{reserved}
use Rattle.tk_keeper.proofs.timekeeper.Timekeeper.make_ready.Goals as goal

pub returns-then-not-fits-clause-answer : goal.returns-then-not-fits-clause-answer
returns-then-not-fits-clause-answer g c = IsFull (sym c.if-not-fits.ensures)

pub returns-clause-answer : goal.returns-clause-answer
returns-clause-answer g c =
    reserved c.args.count c.args.self.now.journal c.reserve.new.self c.reserve.result
    (sym c.if-not-fits.ensures) c.reserve.ensures.journal c.reserve.ensures.answer
