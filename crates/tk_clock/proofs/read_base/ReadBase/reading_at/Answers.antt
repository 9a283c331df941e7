use Rattle.std.proofs.Common.{Some, None}
use Rattle.tk_clock.specs.Time.{nanoseconds}
use Rattle.tk_clock.proofs.Reach.{never_enough, is_first, is_never, gives_again}
use Rattle.tk_clock.proofs.read_base.ReadBase.reading_at.Goals as goal

pub returns-in_default-clause-first : goal.returns-in_default-clause-first
returns-in_default-clause-first c =
    never_enough c.args.self.now c.args.clock (nanoseconds c.args.time) c.in_default.ensures

pub returns-in_default-clause-again : goal.returns-in_default-clause-again
returns-in_default-clause-again c =
    gives_again c.args.self.now c.args.clock (nanoseconds c.args.time) None
    (returns-in_default-clause-first c)

pub returns-in-Ok-clause-first : goal.returns-in-Ok-clause-first
returns-in-Ok-clause-first c =
    is_first c.args.self.now c.args.clock (nanoseconds c.args.time) c.in-Some.cycles
    c.reading_after-reading.result c.reading_after-reading.ensures.low
    c.reading_after-reading.ensures.distance c.in-Some.ensures.0 c.in-Some.ensures.1
    c.in-Some.ensures.2 c.in-Ok.ensures.0

pub returns-in-Ok-clause-again : goal.returns-in-Ok-clause-again
returns-in-Ok-clause-again c =
    gives_again c.args.self.now c.args.clock (nanoseconds c.args.time)
    (Some c.reading_after-reading.result) (returns-in-Ok-clause-first c)

pub returns-in-Err-clause-first : goal.returns-in-Err-clause-first
returns-in-Err-clause-first c =
    is_never c.args.self.now c.args.clock (nanoseconds c.args.time) c.in-Some.cycles
    c.reading_after-reading.result c.reading_after-reading.ensures.low
    c.reading_after-reading.ensures.distance c.in-Some.ensures.0 c.in-Some.ensures.1
    c.in-Some.ensures.2 c.in-Err.field-0 c.in-Err.ensures

pub returns-in-Err-clause-again : goal.returns-in-Err-clause-again
returns-in-Err-clause-again c =
    gives_again c.args.self.now c.args.clock (nanoseconds c.args.time) None
    (returns-in-Err-clause-first c)
