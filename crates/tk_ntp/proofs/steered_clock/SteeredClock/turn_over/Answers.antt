use Rattle.std.proofs.Common.{◌≡◌, ◌∙◌, ap, refl, subst, sym}
use Rattle.tk_clock.specs.Snapshot.{Snapshot}
use Rattle.tk_clock.specs.State.{State}
use Rattle.tk_ntp.specs.Account.{IsConsistent}
use Rattle.tk_ntp.specs.ChangeCounter.{steered_over, turned_over}
use Rattle.tk_ntp.specs.Course.{seen}
use Rattle.tk_ntp.specs.SteeredClock.{SteeredClock}
use Rattle.tk_ntp.proofs.Consistent.{consistent_at_last}
use Rattle.tk_ntp.proofs.steered_clock.SteeredClock.turn_over.Goals as goal

pub returns-clause-answer : goal.returns-clause-answer
returns-clause-answer c =
    let inside = c.self.inside in
    let base : inside.clock.base ≡ c.snapshot-former.result.base =
    sym (ap (λ (s : Snapshot). s.base) c.snapshot-former.ensures) in
    let answer = c.in_ok-change_counter.ensures.answer in
    rw (← c.self.view_is) (
      answer.0,
      c.turn_over.ensures inside.clock c.change_counter.new.self base
          ∙ ap (λ (k : State). turned_over c.args.reading c.args.desc c.args.first k
          (seen inside.clock inside.course)) answer.1,
    )

pub returns-clause-consistent : goal.returns-clause-consistent
returns-clause-consistent c =
    subst (λ (s : SteeredClock). IsConsistent s) (sym (returns-clause-answer c).1)
    (consistent_at_last
    (steered_over c.args.reading c.args.desc c.args.first c.args.self.now) refl)
