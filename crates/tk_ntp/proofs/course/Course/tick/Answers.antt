use Rattle.std.proofs.Common.{refl, subst}
use Rattle.tk_clock.specs.State.{State}
use Rattle.tk_ntp.specs.Course.{seen}
use Rattle.tk_ntp.specs.Staged.{IsSettled}
use Rattle.tk_ntp.proofs.Keeping.{ticked}
use Rattle.tk_ntp.proofs.course.Course.tick.Goals as goal

pub returns-then-is_ready : goal.returns-then-is_ready
returns-then-is_ready g c =
    let kept = g.C.Clocks in
    let a = c.args.clocks.now in
    let before = c.args.self.now in
    ticked kept.state kept.is_after kept.has_room kept.is_short g.met.C.Clocks.stays c.args.who
    c.args.reading a before c.apply_settled.result c.apply_settled.new.clocks c.apply_settled.new.self
    (subst (λ (k : State). IsSettled (seen k before) c.args.reading) c.clock.ensures
    (c.is_soon.ensures c.if-is_soon.true))
    (c.if-is_ready.ensures.0 refl) c.apply_settled.ensures
