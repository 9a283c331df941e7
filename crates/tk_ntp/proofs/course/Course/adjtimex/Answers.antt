use Rattle.std.proofs.Common.{◌∙◌, sym}
use Rattle.tk_ntp.proofs.Keeping.{answered}
use Rattle.tk_ntp.proofs.course.Course.adjtimex.Goals as goal

pub returns : goal.returns
returns g c =
    let kept = g.C.Clocks in
    let told = c.in_ok-ready.ensures in
    answered kept.state kept.is_after kept.has_room kept.is_short c.args.who c.args.reading
    c.args.request.now c.args.clocks.now c.advance.new.clocks c.ready.new.self c.args.self.now
    c.advance.new.self c.ask.result c.ask.new.clocks c.ask.new.self
    (sym c.is_faulty.ensures ∙ c.if-is_faulty.false) c.in_ok-advance.ensures
    (record { same = told.state; kept = told.kept; room = told.answer }) c.ask.ensures
