use Rattle.std.proofs.Common.{◌≡◌, ap, refl, sym, subst, ◌∙◌, ℕ, ◌<◌, ◌≤◌, Some, Option, rules}
use Rattle.std.proofs.lemmas.Result.{err_from_is_err_and}
use Rattle.std.specs.Prelude.{MatchOption, pos, unsigned_abs}
use Rattle.tk_clock.specs.declared.command.Command.{Command}
use Rattle.tk_clock.specs.Limits.{clock_end}
use Rattle.tk_clock.specs.Snapshot.{Snapshot}
use Rattle.tk_clock.specs.State.{State}
use Rattle.tk_ntp.specs.Course.{seen}
use Rattle.tk_ntp.specs.declared.leap.Leap.{Leap}
use Rattle.tk_ntp.specs.declared.leap.Leap.TheVariants.{None as NoLeap}
use Rattle.tk_ntp.specs.Advance.{leap_of_clock}
use Rattle.tk_ntp.specs.Leap.{leap_command}
use Rattle.tk_ntp.specs.Followed.{leap_followed}
use Rattle.tk_ntp.proofs.Followed.{leapt_owed}
use Rattle.tk_shared_steered.specs.Given.{IsGiven}
use Rattle.tk_shared_steered.specs.Late.{IsLeapMade, IsTaken}
use Rattle.tk_shared_steered.specs.Owner.{IsFollowing, IsInStep, Owner, owner_of}
use Rattle.tk_shared_steered.proofs.Readings.{given_since, none_since, stays_since}
use Rattle.tk_shared_steered.proofs.Steps.{no_earlier}
use Rattle.tk_shared_steered.proofs.Taken.{in_step, made_none, made_some, stopped_at_leap, stopped_in_step, taken}
use Rattle.tk_shared_steered.proofs.shared_steering.SharedSteering.make_leap.Given.{Over}
use Rattle.tk_shared_steered.proofs.shared_steering.SharedSteering.make_leap.Goals as goal

pub returns-in_default-clause-answer : goal.returns-in_default-clause-answer
returns-in_default-clause-answer g c = rw c.in_default.is refl

pub returns-in_default-clause-known : goal.returns-in_default-clause-known
returns-in_default-clause-known g c = c.requires.known

pub returns-then-eq-clause-answer : goal.returns-then-eq-clause-answer
returns-then-eq-clause-answer g c =
    let none : c.in-Some.leap ≡ NoLeap = search rules in
    rw c.in-Some.is (made_none c.in-Some.leap c.args.self.now none)

pub returns-then-eq-clause-known : goal.returns-then-eq-clause-known
returns-then-eq-clause-known g c = c.requires.known

-- the command is that of the clocks' TAI offset
command_is : (leap : Leap) (tai : ℕ) (cmd : Command) (snapshot : Snapshot) (clock : State) →
    cmd ≡ leap_command leap tai → pos tai ≡ snapshot.base.tai →
    snapshot ≡ (record { front = 0; base = clock.base }) → cmd ≡ leap_of_clock leap clock
command_is leap tai cmd snapshot clock is offset here =
    is
    ∙ ap (leap_command leap)
    (ap unsigned_abs (offset ∙ ap (λ (s : Snapshot). s.base.tai) here))

pub invariant_of-self : goal.invariant_of-self
invariant_of-self g c =
    let inside = c.self.inside in
    stopped_in_step c.command-cmd.result c.in_err-reading.field-0.0
    (owner_of inside.caller (seen inside.clock inside.course) inside.count) c.args.self.now c.give.new.caller
    c.self.view_is c.self.invariant c.requires.known c.in_err-reading.ensures.answer

pub returns-in_err-reading-clause-answer : goal.returns-in_err-reading-clause-answer
returns-in_err-reading-clause-answer g c =
    let inside = c.self.inside in
    let p = err_from_is_err_and c.from_residual.result c.from_residual.ensures.1 in
    let other : (c.in-Some.leap ≡ NoLeap → ⊥) = search rules in
    rw (p.1, p.2) (stopped_at_leap c.in-Some.leap c.args.leap c.command-cmd.result
    c.in_err-reading.field-0.0 (owner_of inside.caller (seen inside.clock inside.course) inside.count) c.args.self.now
    c.give.new.caller c.in-Some.is other
    (command_is c.in-Some.leap c.tai.result c.command-cmd.result c.snapshot.result
    inside.clock c.command-cmd.ensures c.tai.ensures c.snapshot.ensures) c.self.view_is
    c.in_err-reading.ensures.answer)

pub returns-in_err-reading-clause-known : goal.returns-in_err-reading-clause-known
returns-in_err-reading-clause-known g c =
    let p = err_from_is_err_and c.from_residual.result c.from_residual.ensures.1 in
    rw p.1 tt

can_leap : (leap : Leap) (given : Option Leap) (here old : Owner) → given ≡ Some leap → here ≡ old →
    MatchOption given (Unit {0}) (λ _. (0 < old.clock.next) × (old.clock.next ≤ clock_end)) →
    (0 < here.clock.next) × (here.clock.next ≤ clock_end)
can_leap leap given here old some is h =
    subst (λ (o : Owner). (0 < o.clock.next) × (o.clock.next ≤ clock_end)) (sym is)
    (subst (λ (l : Option Leap). MatchOption l (Unit {0})
    (λ _. (0 < old.clock.next) × (old.clock.next ≤ clock_end))) some h)

pub follow_leap-accepted-requires-clause-some : goal.follow_leap-accepted-requires-clause-some
follow_leap-accepted-requires-clause-some g c =
    let inside = c.self.inside in
    (can_leap c.in-Some.leap c.args.leap (owner_of inside.caller (seen inside.clock inside.course) inside.count)
    c.args.self.now c.in-Some.is c.self.view_is c.requires.next).0

pub follow_leap-accepted-requires-clause-early : goal.follow_leap-accepted-requires-clause-early
follow_leap-accepted-requires-clause-early g c =
    let inside = c.self.inside in
    (can_leap c.in-Some.leap c.args.leap (owner_of inside.caller (seen inside.clock inside.course) inside.count)
    c.args.self.now c.in-Some.is c.self.view_is c.requires.next).1

abbrev Here : (g : Over) → goal.After-self-1 g → Owner
Here g c = owner_of c.self.inside.caller (seen c.self.inside.clock c.self.inside.course) c.self.inside.count

step : (g : Over) (c : goal.After-self-1 g) → IsInStep (Here g c)
step g c = c.self.invariant (subst IsFollowing (sym c.self.view_is) c.requires.known)

abbrev New : (g : Over) → goal.After-self-1 g → Owner
New g c = owner_of c.give.new.caller (seen c.follow_leap-accepted.new.clock c.follow_leap-accepted.new.self) c.front-self-inside.result

cmd_is : (g : Over) (c : goal.After-self-1 g) →
    c.command-cmd.result ≡ leap_of_clock c.in-Some.leap c.self.inside.clock
cmd_is g c =
    command_is c.in-Some.leap c.tai.result c.command-cmd.result c.snapshot.result
    c.self.inside.clock c.command-cmd.ensures c.tai.ensures c.snapshot.ensures

given : (g : Over) (c : goal.After-self-1 g) →
    IsTaken (leap_of_clock c.in-Some.leap c.self.inside.clock) c.in_ok-reading.reading
    (leap_followed c.in_ok-reading.reading c.in-Some.leap) (seen c.self.inside.clock c.self.inside.course) (Here g c) (New g c)
given g c =
    let s = (seen c.self.inside.clock c.self.inside.course) in
    let leap = c.in-Some.leap in
    let reading = c.in_ok-reading.reading in
    taken (Here g c) (New g c) (leap_of_clock leap s.clock) reading (leap_followed reading leap) s
    c.follow_leap-accepted.result (step g c) refl
    (subst (λ (cmd : Command). IsGiven cmd reading c.self.inside.caller c.give.new.caller)
    (cmd_is g c) c.in_ok-reading.ensures.answer)
    c.follow_leap-accepted.ensures.answer c.front-self-inside.ensures
    (leapt_owed reading leap s (no_earlier s reading (step g c).last_account))

pub invariant_of-self-2 : goal.invariant_of-self-2
invariant_of-self-2 g c = λ following.
    in_step (Here g c) (New g c) (leap_of_clock c.in-Some.leap c.self.inside.clock)
    c.in_ok-reading.reading (leap_followed c.in_ok-reading.reading c.in-Some.leap)
    (seen c.self.inside.clock c.self.inside.course) (step g c) (given g c) refl refl

pub returns-clause-answer : goal.returns-clause-answer
returns-clause-answer g c =
    let other : (c.in-Some.leap ≡ NoLeap → ⊥) = search rules in
    rw c.in-Some.is (subst (λ (o : Owner). IsLeapMade c.in-Some.leap o (New g c)) c.self.view_is
    (made_some c.in-Some.leap c.in_ok-reading.reading (Here g c) (New g c) other (given g c)))

pub returns-clause-known : goal.returns-clause-known
returns-clause-known g c = sym c.front-self-inside.ensures

pub returns-in_default-clause-readings : goal.returns-in_default-clause-readings
returns-in_default-clause-readings g c =
    let old = c.args.self.now in
    none_since g.C.Counter.answers_after old.caller old.count old.count refl

pub returns-then-eq-clause-readings : goal.returns-then-eq-clause-readings
returns-then-eq-clause-readings g c =
    let old = c.args.self.now in
    none_since g.C.Counter.answers_after old.caller old.count old.count refl

pub returns-in_err-reading-clause-readings : goal.returns-in_err-reading-clause-readings
returns-in_err-reading-clause-readings g c =
    let inside = c.self.inside in
    stays_since g.C.Counter.answers_after
    (owner_of inside.caller (seen inside.clock inside.course) inside.count) c.args.self.now
    c.give.new.caller c.self.view_is

pub returns-clause-readings : goal.returns-clause-readings
returns-clause-readings g c =
    given_since g.C.Counter.answers_after c.command-cmd.result c.in_ok-reading.reading (Here g c)
    c.args.self.now c.give.new.caller c.front-self-inside.result c.self.view_is c.requires.known
    c.in_ok-reading.ensures.answer c.front-self-inside.ensures c.in_ok-reading.ensures.reading
