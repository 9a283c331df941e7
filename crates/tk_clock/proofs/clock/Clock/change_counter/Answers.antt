use Rattle.std.proofs.Common.{sym, subst}
use Rattle.tk_clock.specs.State.{State}
use Rattle.tk_clock.specs.ChangeCounter.{KeepsTimes, NeverFallsOver, KeepsAmounts, KeepsSettings}
use Rattle.tk_clock.proofs.ChangeCounter.{KeepsTimes-changed, NeverFallsOver-changed, KeepsAmounts-changed, KeepsSettings-changed}
use Rattle.tk_clock.proofs.clock.Clock.change_counter.Goals as goal

pub returns-clause-times : goal.returns-clause-times
returns-clause-times c =
    let state = c.args.self.now in
    let stated = c.in_ok-self.ensures.answer in
    subst (λ (s : State). KeepsTimes state.base c.args.reading s.base c.args.first) (sym stated.1)
    (KeepsTimes-changed state c.args.reading c.args.desc c.args.first stated.0)

pub returns-clause-rises : goal.returns-clause-rises
returns-clause-rises c =
    let state = c.args.self.now in
    subst (λ (s : State). NeverFallsOver state.base c.args.reading s.base)
    (sym c.in_ok-self.ensures.answer.1)
    (NeverFallsOver-changed state c.args.reading c.args.desc c.args.first)

pub returns-clause-amounts : goal.returns-clause-amounts
returns-clause-amounts c =
    let state = c.args.self.now in
    subst (λ (s : State). KeepsAmounts state.base c.args.reading s.base)
    (sym c.in_ok-self.ensures.answer.1)
    (KeepsAmounts-changed state c.args.reading c.args.desc c.args.first)

pub returns-clause-settings : goal.returns-clause-settings
returns-clause-settings c =
    let state = c.args.self.now in
    subst (λ (s : State). KeepsSettings state s) (sym c.in_ok-self.ensures.answer.1)
    (KeepsSettings-changed state c.args.reading c.args.desc c.args.first)
