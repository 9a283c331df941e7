use Rattle.std.proofs.Common.{◌≡◌, ap, refl, subst, ◌∙◌, inl, inr, Option, Ok, Err}
use Rattle.std.proofs.lemmas.Result.{err_from_is_err_and}
use Rattle.std.specs.Prelude.{MatchResult, Result, ⊤}
use Rattle.tk_clock.specs.declared.command.Command.{Command}
use Rattle.tk_ntp.specs.Course.{seen}
use Rattle.tk_ntp.specs.declared.change.Change.{Change}
use Rattle.tk_ntp.specs.Change.{frequency_command, tick_command}
use Rattle.tk_shared_steered.specs.declared.fault.SteeringFault.{SteeringFault}
use Rattle.tk_shared_steered.specs.Late.{IsSet, IsSteered, StaysAfterTick, StaysAt, change_for}
use Rattle.tk_shared_steered.specs.Owner.{Owner, owner_of}
use Rattle.tk_shared_steered.proofs.KnownBy.{tried_known}
use Rattle.tk_shared_steered.proofs.Readings.{further_since}
use Rattle.tk_shared_steered.proofs.Steps.{frequency_plain, tick_plain}
use Rattle.tk_shared_steered.proofs.shared_steering.SharedSteering.steer.Goals as goal

pub same-self : goal.same-self
same-self g c = refl

pub set-requires-clause-known : goal.set-requires-clause-known
set-requires-clause-known g c κs within = c.requires.known

pub set-requires-clause-plain : goal.set-requires-clause-plain
set-requires-clause-plain g c κs within =
    rw c.tick_command.ensures (tick_plain c.needed_change-change.result.tick)

set_as : (cmd other : Option Command) (old new : Owner) → cmd ≡ other → IsSet cmd old new →
    IsSet other old new
set_as cmd other old new is h = subst (λ (c : Option Command). IsSet c old new) is h

stays_as : (cmd other : Option Command) (fault : SteeringFault) (old new : Owner) → cmd ≡ other →
    StaysAt cmd fault old new → StaysAt other fault old new
stays_as cmd other fault old new is h =
    subst (λ (c : Option Command). StaysAt c fault old new) is h

-- a first command that stopped, by the owner that the commands are for
stays_at_tick : (cmd : Option Command) (change : Change) (fault : SteeringFault)
    (here old new : Owner) → cmd ≡ tick_command change → change ≡ change_for here → here ≡ old →
    StaysAt cmd fault old new → StaysAfterTick fault old new
stays_at_tick cmd change fault here old new tick is same h =
    inl (stays_as cmd (tick_command (change_for old)) fault old new
    (tick ∙ ap tick_command (is ∙ ap change_for same)) h)

pub returns-in_err-set-clause-answer : goal.returns-in_err-set-clause-answer
returns-in_err-set-clause-answer g c =
    let inside = c.self.inside in
    let p = err_from_is_err_and c.from_residual.result c.from_residual.ensures.1 in
    rw (p.1, p.2) (stays_at_tick c.tick_command.result c.needed_change-change.result
    c.in_err-set.field-0.0 (owner_of inside.caller (seen inside.clock inside.course) inside.count)
    c.args.self.now c.set.new.self c.tick_command.ensures
    c.needed_change-change.ensures c.self.view_is c.in_err-set.ensures.answer)

pub returns-in_err-set-clause-readings : goal.returns-in_err-set-clause-readings
returns-in_err-set-clause-readings g c = c.set.ensures.readings

pub set-requires-2-clause-known : goal.set-requires-2-clause-known
set-requires-2-clause-known g c κs within = c.in_ok-set.ensures.known

pub set-requires-2-clause-plain : goal.set-requires-2-clause-plain
set-requires-2-clause-plain g c κs within =
    rw c.frequency_command.ensures (frequency_plain c.needed_change-change.result.frequency)

steered : (result : Result ⊤ SteeringFault) (change : Change) (first second : Option Command)
    (old middle new : Owner) → change ≡ change_for old → first ≡ tick_command change →
    second ≡ frequency_command change → IsSet first old middle →
    MatchResult result (λ _. IsSet second middle new) (λ fault. StaysAt second fault middle new) →
    MatchResult result (λ _. IsSteered old new) (λ fault. StaysAfterTick fault old new)
steered (Ok done) change first second old middle new is one two set h = (
  middle,
  set_as first (tick_command (change_for old)) old middle (one ∙ ap tick_command is) set,
  set_as second (frequency_command (change_for old)) middle new (two ∙ ap frequency_command is) h,
)
steered (Err fault) change first second old middle new is one two set h = inr (
  middle,
  set_as first (tick_command (change_for old)) old middle (one ∙ ap tick_command is) set,
  stays_as second (frequency_command (change_for old)) fault middle new
      (two ∙ ap frequency_command is) h,
)

pub returns-clause-answer : goal.returns-clause-answer
returns-clause-answer g c =
    steered c.set-2.result c.needed_change-change.result c.tick_command.result
    c.frequency_command.result c.args.self.now c.set.new.self c.set-2.new.self
    (c.needed_change-change.ensures ∙ ap change_for c.self.view_is) c.tick_command.ensures
    c.frequency_command.ensures c.in_ok-set.ensures.answer c.set-2.ensures.answer

pub returns-clause-readings : goal.returns-clause-readings
returns-clause-readings g c =
    let ticked = c.set.new.self in
    let new = c.set-2.new.self in
    further_since g.C.Counter.answers_after ticked.caller new.caller c.args.self.now.count
    ticked.count new.count
    (tried_known c.set-2.result c.frequency_command.result ticked new c.set-2.ensures.answer)
    c.set.ensures.readings c.set-2.ensures.readings
