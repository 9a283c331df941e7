use Rattle.std.proofs.Common.{◌≡◌, ap, refl, sym, subst, ◌<◌, ◌≤◌}
use Rattle.std.proofs.lemmas.Result.{err_from_is_err_and}
use Rattle.std.specs.Prelude.{MatchOption}
use Rattle.tk_clock.specs.declared.command.Command.TheVariants.{Update}
use Rattle.tk_clock.specs.Limits.{clock_end}
use Rattle.tk_clock.specs.State.{State, effect}
use Rattle.tk_ntp.specs.Course.{seen}
use Rattle.tk_ntp.specs.Advance.{seconds_left}
use Rattle.tk_ntp.specs.Followed.{followed, seconds_left_after}
use Rattle.tk_ntp.specs.SteeredClock.{SteeredClock}
use Rattle.tk_ntp.proofs.Followed.{followed_owed}
use Rattle.tk_shared_steered.specs.Late.{IsTaken, IsUpdated}
use Rattle.tk_shared_steered.specs.Owner.{IsFollowing, IsInStep, Owner, owner_of}
use Rattle.tk_shared_steered.proofs.Readings.{given_since, stays_since}
use Rattle.tk_shared_steered.proofs.Taken.{in_step, same_clock, stopped, stopped_in_step, taken, update_order, updated}
use Rattle.tk_shared_steered.proofs.shared_steering.SharedSteering.update.Given.{Over}
use Rattle.tk_shared_steered.proofs.shared_steering.SharedSteering.update.Goals as goal

pub invariant_of-self : goal.invariant_of-self
invariant_of-self g c =
    let inside = c.self.inside in
    stopped_in_step Update c.in_err-reading.field-0.0
    (owner_of inside.caller (seen inside.clock inside.course) inside.count) c.args.self.now c.give.new.caller
    c.self.view_is c.self.invariant c.requires.known c.in_err-reading.ensures.answer

pub returns-in_err-reading-clause-answer : goal.returns-in_err-reading-clause-answer
returns-in_err-reading-clause-answer g c =
    let inside = c.self.inside in
    let p = err_from_is_err_and c.from_residual.result c.from_residual.ensures.1 in
    rw (p.1, p.2) (stopped Update c.in_err-reading.field-0.0
    (owner_of inside.caller (seen inside.clock inside.course) inside.count) c.args.self.now c.give.new.caller
    c.self.view_is c.in_err-reading.ensures.answer)

pub returns-in_err-reading-clause-known : goal.returns-in_err-reading-clause-known
returns-in_err-reading-clause-known g c =
    let p = err_from_is_err_and c.from_residual.result c.from_residual.ensures.1 in
    rw p.1 tt

pub returns-in_err-reading-clause-next : goal.returns-in_err-reading-clause-next
returns-in_err-reading-clause-next g c =
    let p = err_from_is_err_and c.from_residual.result c.from_residual.ensures.1 in
    rw p.1 tt

pub returns-in_err-reading-clause-fewer : goal.returns-in_err-reading-clause-fewer
returns-in_err-reading-clause-fewer g c =
    let p = err_from_is_err_and c.from_residual.result c.from_residual.ensures.1 in
    rw p.1 tt

abbrev Here : (g : Over) → goal.After-self-1 g → Owner
Here g c = owner_of c.self.inside.caller (seen c.self.inside.clock c.self.inside.course) c.self.inside.count

step : (g : Over) (c : goal.After-self-1 g) → IsInStep (Here g c)
step g c = c.self.invariant (subst IsFollowing (sym c.self.view_is) c.requires.known)

abbrev New : (g : Over) → goal.After-self-1 g → Owner
New g c = owner_of c.give.new.caller (seen c.follow_command-accepted.new.clock c.follow_command-accepted.new.self) c.front-self-inside.result

same : (g : Over) (c : goal.After-self-1 g) →
    c.self.inside.clock ≡ c.self.inside.clock
same g c =
    same_clock c.begin_alone-leap.result c.in_ok-reading.reading (seen c.self.inside.clock c.self.inside.course)
    (seen c.self.inside.clock c.begin_alone-leap.new.self) c.begin_alone-leap.ensures.begun

given : (g : Over) (c : goal.After-self-1 g) →
    IsTaken Update c.in_ok-reading.reading (followed c.in_ok-reading.reading Update)
    (seen c.self.inside.clock c.begin_alone-leap.new.self) (Here g c) (New g c)
given g c =
    let s = (seen c.self.inside.clock c.begin_alone-leap.new.self) in
    let reading = c.in_ok-reading.reading in
    taken (Here g c) (New g c) Update reading (followed reading Update) s
    c.follow_command-accepted.result (step g c) (same g c) c.in_ok-reading.ensures.answer
    c.follow_command-accepted.ensures.answer c.front-self-inside.ensures
    (followed_owed reading Update s refl
    (update_order c.begin_alone-leap.result reading (seen c.self.inside.clock c.self.inside.course) s (step g c).last_account
    c.begin_alone-leap.ensures.begun))

pub invariant_of-self-2 : goal.invariant_of-self-2
invariant_of-self-2 g c = λ following.
    in_step (Here g c) (New g c) Update c.in_ok-reading.reading
    (followed c.in_ok-reading.reading Update) (seen c.self.inside.clock c.begin_alone-leap.new.self) (step g c) (given g c)
    (ap (λ (s : State). effect s c.in_ok-reading.reading Update) (same g c)) refl

pub returns-clause-answer : goal.returns-clause-answer
returns-clause-answer g c =
    subst (λ (o : Owner). IsUpdated c.begin_alone-leap.result o (New g c)) c.self.view_is
    (updated c.begin_alone-leap.result c.in_ok-reading.reading (Here g c) (New g c)
    (seen c.self.inside.clock c.begin_alone-leap.new.self) (step g c) c.begin_alone-leap.ensures.begun (given g c))

pub returns-clause-known : goal.returns-clause-known
returns-clause-known g c = sym c.front-self-inside.ensures

pub returns-clause-next : goal.returns-clause-next
returns-clause-next g c =
    subst (λ (n : SteeredClock). MatchOption c.begin_alone-leap.result (Unit {0})
    (λ _. (0 < n.next) × (n.next ≤ clock_end))) (sym (given g c).clock)
    c.begin_alone-leap.ensures.next

pub returns-clause-fewer : goal.returns-clause-fewer
returns-clause-fewer g c =
    subst (λ (o : Owner). MatchOption c.begin_alone-leap.result (Unit {0})
    (λ leap. seconds_left_after leap (seen c.follow_command-accepted.new.clock c.follow_command-accepted.new.self) < seconds_left o.clock))
    c.self.view_is
    (subst (λ (n : SteeredClock). MatchOption c.begin_alone-leap.result (Unit {0})
    (λ leap. seconds_left_after leap n < seconds_left (seen c.self.inside.clock c.self.inside.course)))
    (sym (given g c).clock) c.begin_alone-leap.ensures.fewer)

pub returns-in_err-reading-clause-readings : goal.returns-in_err-reading-clause-readings
returns-in_err-reading-clause-readings g c =
    let inside = c.self.inside in
    stays_since g.C.Counter.answers_after
    (owner_of inside.caller (seen inside.clock inside.course) inside.count) c.args.self.now
    c.give.new.caller c.self.view_is

pub returns-clause-readings : goal.returns-clause-readings
returns-clause-readings g c =
    given_since g.C.Counter.answers_after Update c.in_ok-reading.reading (Here g c) c.args.self.now
    c.give.new.caller c.front-self-inside.result c.self.view_is c.requires.known
    c.in_ok-reading.ensures.answer c.front-self-inside.ensures c.in_ok-reading.ensures.reading
