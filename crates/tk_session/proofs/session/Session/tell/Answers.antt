use Rattle.std.proofs.Common.{subst, sym}
use Rattle.tk_session.specs.Session.{IsSessionOf, Session}
use Rattle.tk_session.proofs.Sessions.{told-plain, told-steered}
use Rattle.tk_session.proofs.session.Session.tell.Goals as goal

pub returns-then-self-clause-told : goal.returns-then-self-clause-told
returns-then-self-clause-told c = λ clocks same.
    let inside = c.self.inside in
    let old : Session = record {
      clocks = inside.clocks;
      course = inside.course;
      is_steered = inside.is_steered;
      records = inside.records;
      differences = inside.differences;
    } in
    let new : Session = record old { clocks = c.tell.new.clocks; course = c.tell.new.course } in
    told-steered old new c.args.row c.tell.result.0 c.tell.result.1 c.if-self.true c.if-self.true
    c.tell.ensures.told clocks
    (subst (λ (s : Session). IsSessionOf s clocks) (sym c.self.view_is) same)

pub returns-else-self-clause-told : goal.returns-else-self-clause-told
returns-else-self-clause-told c = λ clocks same.
    let inside = c.self.inside in
    let old : Session = record {
      clocks = inside.clocks;
      course = inside.course;
      is_steered = inside.is_steered;
      records = inside.records;
      differences = inside.differences;
    } in
    let new : Session = record old { clocks = c.tell-else-self.new.clocks } in
    told-plain old new c.args.row c.tell-else-self.result.0 c.tell-else-self.result.1
    c.if-self.false c.if-self.false c.tell-else-self.ensures.told clocks
    (subst (λ (s : Session). IsSessionOf s clocks) (sym c.self.view_is) same)
