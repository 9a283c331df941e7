use Rattle.std.proofs.Common.{refl, subst}
use Rattle.std.specs.Prelude.{Ok, Err}
use Rattle.tk_clock.specs.declared.command.Command.TheVariants.{Update}
use Rattle.tk_clock.specs.State.{State}
use Rattle.tk_ntp.specs.Course.{seen}
use Rattle.tk_ntp.specs.Staged.{IsSettled}
use Rattle.tk_steered.specs.Kept.{IsObeyed, SteeredKeeper}
use Rattle.tk_steered.proofs.Settled.{followed}
use Rattle.tk_steered.proofs.steered.Steered.apply_first.Goals as goal

pub returns-in-Ok : goal.returns-in-Ok
returns-in-Ok g c =
    let reading = c.args.reading in
    let kept = c.self.inside in
    subst (λ (k : SteeredKeeper). IsObeyed c.args.who reading Update k (Ok (tt {0}))
    (record { keeper = c.apply_settled.new.clocks; course = c.apply_settled.new.self }))
    c.self.view_is
    (followed c.args.who reading kept.keeper kept.course (Ok (tt {0})) c.apply_settled.new.clocks
    c.apply_settled.new.self
    (subst (λ (k : State). IsSettled (seen k kept.course) reading) c.clock.ensures
    (c.if-not-is_settled.ensures.settled refl))
    (c.if-not-is_ready.ensures.0 refl) c.in-Ok.ensures)

pub returns-in-Err : goal.returns-in-Err
returns-in-Err g c =
    let reading = c.args.reading in
    let kept = c.self.inside in
    subst (λ (k : SteeredKeeper). IsObeyed c.args.who reading Update k (Err c.in-Err.refusal)
    (record { keeper = c.apply_settled.new.clocks; course = c.apply_settled.new.self }))
    c.self.view_is
    (followed c.args.who reading kept.keeper kept.course (Err c.in-Err.refusal)
    c.apply_settled.new.clocks c.apply_settled.new.self
    (subst (λ (k : State). IsSettled (seen k kept.course) reading) c.clock.ensures
    (c.if-not-is_settled.ensures.settled refl))
    (c.if-not-is_ready.ensures.0 refl) c.in-Err.ensures)
