use Rattle.std.proofs.Common.{◌≡◌, refl, sym, subst, ◌∙◌, ℕ, false, inl, inr, Option}
use Rattle.std.proofs.lemmas.Result.{err_from_is_err_and}
use Rattle.std.specs.Prelude.{Ok, Err}
use Rattle.tk_clock.specs.declared.command.Command.TheVariants.{Update}
use Rattle.tk_ntp.specs.declared.leap.Leap.{Leap}
use Rattle.tk_ntp.specs.Advance.{leap_of_clock, seconds_left}
use Rattle.tk_shared_steered.specs.declared.fault.SteeringFault.{SteeringFault}
use Rattle.tk_shared_steered.specs.declared.fault.SteeringFault.TheVariants.{Foreign}
use Rattle.tk_shared_steered.specs.Late.{AfterLeap, AfterTick, AfterUpdate, AtFirst, HasStopped, IsLeapMadeIf, IsUpdated, Lost, StaysAfterTick, StaysAtLeap, Stops}
use Rattle.tk_shared_steered.specs.Owner.{Owner, is_lost}
use Rattle.tk_shared_steered.specs.Readings.{AreAtReadings}
use Rattle.tk_shared_steered.proofs.Readings.{further_since, none_since}
use Rattle.tk_shared_steered.proofs.KnownBy.{after_tick_known, at_leap_known, late_known, leapt_known, steered_known}
use Rattle.tk_shared_steered.proofs.Taken.{fewer}
use Rattle.tk_shared_steered.proofs.shared_steering.SharedSteering.begin_late.Goals as goal

pub returns-then-is_lost-clause-answer : goal.returns-then-is_lost-clause-answer
returns-then-is_lost-clause-answer g c =
    Lost refl (sym c.is_lost.ensures.value ∙ c.if-is_lost.true) refl

pub update-requires-clause-known : goal.update-requires-clause-known
update-requires-clause-known g c κs within = c.is_lost.ensures.known c.if-is_lost.false

pub returns-in_err-leap-clause-answer : goal.returns-in_err-leap-clause-answer
returns-in_err-leap-clause-answer g c =
    let p = err_from_is_err_and c.from_residual.result c.from_residual.ensures.1 in
    let known = sym c.is_lost.ensures.value ∙ c.if-is_lost.false in
    rw (p.1, p.2) (Stops known Update c.args.self.now AtFirst c.in_err-leap.ensures.answer)

pub returns-in_err-leap-clause-fewer : goal.returns-in_err-leap-clause-fewer
returns-in_err-leap-clause-fewer g c =
    let p = err_from_is_err_and c.from_residual.result c.from_residual.ensures.1 in
    rw p.1 tt

pub make_leap-requires-clause-known : goal.make_leap-requires-clause-known
make_leap-requires-clause-known g c κs within = c.in_ok-leap.ensures.known

pub make_leap-requires-clause-next : goal.make_leap-requires-clause-next
make_leap-requires-clause-next g c κs within = c.in_ok-leap.ensures.next

stopped_at_leap : (fault : SteeringFault) (leap : Option Leap) (old updated new : Owner) →
    is_lost old ≡ false → IsUpdated leap old updated → StaysAtLeap leap fault updated new →
    HasStopped fault old new
stopped_at_leap fault leap old updated new known u h =
    Stops known (leap_of_clock h.it updated.clock.clock) updated
    (AfterUpdate h.it updated (subst (λ (l : Option Leap). IsUpdated l old updated) h.due u)
    h.leaps) h.stays

pub returns-in_err-make_leap-clause-answer : goal.returns-in_err-make_leap-clause-answer
returns-in_err-make_leap-clause-answer g c =
    let p = err_from_is_err_and c.from_residual-in_err-make_leap.result
    c.from_residual-in_err-make_leap.ensures.1 in
    let known = sym c.is_lost.ensures.value ∙ c.if-is_lost.false in
    rw (p.1, p.2) (stopped_at_leap c.in_err-make_leap.field-0.0 c.in_ok-leap.leap c.args.self.now
    c.update.new.self c.make_leap.new.self known c.in_ok-leap.ensures.answer
    c.in_err-make_leap.ensures.answer)

pub returns-in_err-make_leap-clause-fewer : goal.returns-in_err-make_leap-clause-fewer
returns-in_err-make_leap-clause-fewer g c =
    let p = err_from_is_err_and c.from_residual-in_err-make_leap.result
    c.from_residual-in_err-make_leap.ensures.1 in
    rw p.1 tt

pub steer-requires-clause-known : goal.steer-requires-clause-known
steer-requires-clause-known g c κs within = c.in_ok-make_leap.ensures.known

stopped_late : (fault : SteeringFault) (leap : Option Leap) (old updated leapt new : Owner) →
    is_lost old ≡ false → IsUpdated leap old updated → IsLeapMadeIf leap updated leapt →
    StaysAfterTick fault leapt new → HasStopped fault old new
stopped_late fault leap old updated leapt new known u m (inl h) =
    Stops known h.it leapt (AfterLeap h.it leap updated leapt u m h.is) h.stays
stopped_late fault leap old updated leapt new known u m (inr ticked) =
    Stops known ticked.2.it ticked.0
    (AfterTick ticked.2.it leap updated leapt ticked.0 u m ticked.1 ticked.2.is) ticked.2.stays

pub returns-in_err-steer-clause-answer : goal.returns-in_err-steer-clause-answer
returns-in_err-steer-clause-answer g c =
    let p = err_from_is_err_and c.from_residual-in_err-steer.result
    c.from_residual-in_err-steer.ensures.1 in
    let known = sym c.is_lost.ensures.value ∙ c.if-is_lost.false in
    rw (p.1, p.2) (stopped_late c.in_err-steer.field-0.0 c.in_ok-leap.leap c.args.self.now
    c.update.new.self c.make_leap.new.self c.steer.new.self known c.in_ok-leap.ensures.answer
    c.in_ok-make_leap.ensures.answer c.in_err-steer.ensures.answer)

pub returns-in_err-steer-clause-fewer : goal.returns-in_err-steer-clause-fewer
returns-in_err-steer-clause-fewer g c =
    let p = err_from_is_err_and c.from_residual-in_err-steer.result
    c.from_residual-in_err-steer.ensures.1 in
    rw p.1 tt

pub returns-clause-answer : goal.returns-clause-answer
returns-clause-answer g c = record {
  known = sym c.is_lost.ensures.value ∙ c.if-is_lost.false;
  leap = c.in_ok-leap.leap;
  updated = c.update.new.self;
  leapt = c.make_leap.new.self;
  update = c.in_ok-leap.ensures.answer;
  made = c.in_ok-make_leap.ensures.answer;
  steered = c.in_ok-steer.ensures.answer;
  is = c.is_some.ensures;
}

pub returns-clause-fewer : goal.returns-clause-fewer
returns-clause-fewer g c = λ begun.
    fewer c.in_ok-leap.leap (seconds_left c.args.self.now.clock) c.update.new.self
    c.make_leap.new.self c.steer.new.self (sym c.is_some.ensures ∙ begun)
    c.in_ok-leap.ensures.fewer c.in_ok-make_leap.ensures.answer c.in_ok-steer.ensures.answer

-- in each case the caller knows all that it knew

pub returns-then-is_lost-clause-known : goal.returns-then-is_lost-clause-known
returns-then-is_lost-clause-known g c =
    late_known (Err Foreign) c.args.self.now c.args.self.now
    (returns-then-is_lost-clause-answer g c)

pub returns-in_err-leap-clause-known : goal.returns-in_err-leap-clause-known
returns-in_err-leap-clause-known g c =
    late_known c.from_residual.result c.args.self.now c.update.new.self
    (returns-in_err-leap-clause-answer g c)

pub returns-in_err-make_leap-clause-known : goal.returns-in_err-make_leap-clause-known
returns-in_err-make_leap-clause-known g c =
    late_known c.from_residual-in_err-make_leap.result c.args.self.now c.make_leap.new.self
    (returns-in_err-make_leap-clause-answer g c)

pub returns-in_err-steer-clause-known : goal.returns-in_err-steer-clause-known
returns-in_err-steer-clause-known g c =
    late_known c.from_residual-in_err-steer.result c.args.self.now c.steer.new.self
    (returns-in_err-steer-clause-answer g c)

pub returns-clause-known : goal.returns-clause-known
returns-clause-known g c =
    late_known (Ok c.is_some.result) c.args.self.now c.steer.new.self (returns-clause-answer g c)

-- each command that was followed was given at a reading

pub returns-then-is_lost-clause-readings : goal.returns-then-is_lost-clause-readings
returns-then-is_lost-clause-readings g c =
    let old = c.args.self.now in
    none_since g.C.Counter.answers_after old.caller old.count old.count refl

pub returns-in_err-leap-clause-readings : goal.returns-in_err-leap-clause-readings
returns-in_err-leap-clause-readings g c = c.update.ensures.readings

pub returns-in_err-make_leap-clause-readings : goal.returns-in_err-make_leap-clause-readings
returns-in_err-make_leap-clause-readings g c =
    let updated = c.update.new.self in
    let new = c.make_leap.new.self in
    further_since g.C.Counter.answers_after updated.caller new.caller c.args.self.now.count
    updated.count new.count
    (at_leap_known c.in_ok-leap.leap c.in_err-make_leap.field-0.0 updated new
    c.in_err-make_leap.ensures.answer)
    c.update.ensures.readings c.make_leap.ensures.readings

leapt_since : {C : Type 0} (answers : C → ℕ → ℕ → Type 0) (leap : Option Leap)
    (old updated leapt : Owner) → IsLeapMadeIf leap updated leapt →
    AreAtReadings answers updated.caller old.count updated.count →
    AreAtReadings answers leapt.caller updated.count leapt.count →
    AreAtReadings answers leapt.caller old.count leapt.count
leapt_since answers leap old updated leapt made early late =
    further_since answers updated.caller leapt.caller old.count updated.count leapt.count
    (leapt_known updated leap leapt made) early late

pub returns-in_err-steer-clause-readings : goal.returns-in_err-steer-clause-readings
returns-in_err-steer-clause-readings g c =
    let leapt = c.make_leap.new.self in
    let new = c.steer.new.self in
    further_since g.C.Counter.answers_after leapt.caller new.caller c.args.self.now.count
    leapt.count new.count
    (after_tick_known c.in_err-steer.field-0.0 leapt new c.in_err-steer.ensures.answer)
    (leapt_since g.C.Counter.answers_after c.in_ok-leap.leap c.args.self.now c.update.new.self leapt
    c.in_ok-make_leap.ensures.answer c.update.ensures.readings c.make_leap.ensures.readings)
    c.steer.ensures.readings

pub returns-clause-readings : goal.returns-clause-readings
returns-clause-readings g c =
    let leapt = c.make_leap.new.self in
    let new = c.steer.new.self in
    further_since g.C.Counter.answers_after leapt.caller new.caller c.args.self.now.count
    leapt.count new.count (steered_known leapt new c.in_ok-steer.ensures.answer)
    (leapt_since g.C.Counter.answers_after c.in_ok-leap.leap c.args.self.now c.update.new.self leapt
    c.in_ok-make_leap.ensures.answer c.update.ensures.readings c.make_leap.ensures.readings)
    c.steer.ensures.readings
