use Rattle.std.proofs.Common.{◌≤◌, ap, arith}
use Rattle.tk_counter.specs.Counter.{mask}
use Rattle.tk_clock.specs.State.{ReadBase}
use Rattle.tk_clock.proofs.Reading.{read_given, read_refused}
use Rattle.tk_clock.proofs.read_base.ReadBase.nanos_of.Goals as goal
use Rattle.tk_clock.proofs.read_base.ReadBase.nanos_of.Goals.{After-nanos_at-nanos}

-- the reading is one of the counter's
read : (c : After-nanos_at-nanos) → c.args.reading ≤ mask c.args.self.now.counter
read c =
    let same = ap (λ (b : ReadBase). mask b.counter) c.self.view_is in
    omega (arith, c.if-reading-mask.false, c.mask.ensures.value, same)

pub returns-then-nanos-awake_origin : goal.returns-then-nanos-awake_origin
returns-then-nanos-awake_origin c =
    let given = (goal.at.returns-then-nanos-awake_origin c).After-nanos_at-nanos in
    let line = c.awake_origin.result in
    read_refused c.args.self.now c.args.clock line c.args.reading c.nanos_at-nanos.result
    c.awake_origin.ensures (read given) (c.nanos_at-nanos.ensures line c.awake_origin.ensures)
    c.if-nanos-awake_origin.true

pub returns : goal.returns
returns c =
    let given = (goal.at.returns c).After-nanos_at-nanos in
    let line = c.awake_origin.result in
    read_given c.args.self.now c.args.clock line c.args.reading c.nanos_at-nanos.result
    c.awake_origin.ensures (read given) (c.nanos_at-nanos.ensures line c.awake_origin.ensures)
    c.if-nanos-awake_origin.false
