use Rattle.std.proofs.Common.{◌≡◌, refl, sym, subst, false, Some, Option}
use Rattle.std.proofs.lemmas.Result.{err_from_is_err_and}
use Rattle.std.specs.Prelude.{MatchOption}
use Rattle.tk_clock.specs.declared.command.Command.{Command}
use Rattle.tk_clock.specs.Command.{is_resume}
use Rattle.tk_ntp.specs.Course.{seen}
use Rattle.tk_ntp.specs.Followed.{followed}
use Rattle.tk_ntp.proofs.Followed.{followed_owed}
use Rattle.tk_shared_steered.specs.Late.{IsSet, IsTaken}
use Rattle.tk_shared_steered.specs.Owner.{IsFollowing, IsInStep, Owner, owner_of}
use Rattle.tk_shared_steered.proofs.Readings.{given_since, none_since, stays_since}
use Rattle.tk_shared_steered.proofs.Steps.{no_earlier}
use Rattle.tk_shared_steered.proofs.Taken.{in_step, stopped, stopped_in_step, taken}
use Rattle.tk_shared_steered.proofs.shared_steering.SharedSteering.set.Given.{Over}
use Rattle.tk_shared_steered.proofs.shared_steering.SharedSteering.set.Goals as goal

pub returns-in_default-clause-answer : goal.returns-in_default-clause-answer
returns-in_default-clause-answer g c = rw c.in_default.is refl

pub returns-in_default-clause-known : goal.returns-in_default-clause-known
returns-in_default-clause-known g c = c.requires.known

pub invariant_of-self : goal.invariant_of-self
invariant_of-self g c =
    let inside = c.self.inside in
    stopped_in_step c.in-Some.cmd c.in_err-reading.field-0.0
    (owner_of inside.caller (seen inside.clock inside.course) inside.count) c.args.self.now c.give.new.caller
    c.self.view_is c.self.invariant c.requires.known c.in_err-reading.ensures.answer

pub returns-in_err-reading-clause-answer : goal.returns-in_err-reading-clause-answer
returns-in_err-reading-clause-answer g c =
    let inside = c.self.inside in
    let p = err_from_is_err_and c.from_residual.result c.from_residual.ensures.1 in
    rw (p.1, p.2) (record {
      it = c.in-Some.cmd;
      is = c.in-Some.is;
      stays = stopped c.in-Some.cmd c.in_err-reading.field-0.0
          (owner_of inside.caller (seen inside.clock inside.course) inside.count) c.args.self.now c.give.new.caller
          c.self.view_is c.in_err-reading.ensures.answer;
    })

pub returns-in_err-reading-clause-known : goal.returns-in_err-reading-clause-known
returns-in_err-reading-clause-known g c =
    let p = err_from_is_err_and c.from_residual.result c.from_residual.ensures.1 in
    rw p.1 tt

abbrev Here : (g : Over) → goal.After-self-1 g → Owner
Here g c = owner_of c.self.inside.caller (seen c.self.inside.clock c.self.inside.course) c.self.inside.count

step : (g : Over) (c : goal.After-self-1 g) → IsInStep (Here g c)
step g c = c.self.invariant (subst IsFollowing (sym c.self.view_is) c.requires.known)

plain : (g : Over) (c : goal.After-self-1 g) → is_resume c.in-Some.cmd ≡ false
plain g c =
    subst (λ (o : Option Command). MatchOption o (Unit {0}) (λ cmd. is_resume cmd ≡ false))
    c.in-Some.is c.requires.plain

abbrev New : (g : Over) → goal.After-self-1 g → Owner
New g c = owner_of c.give.new.caller (seen c.follow_command-accepted.new.clock c.follow_command-accepted.new.self) c.front-self-inside.result

set : (g : Over) (c : goal.After-self-1 g) →
    IsTaken c.in-Some.cmd c.in_ok-reading.reading
    (followed c.in_ok-reading.reading c.in-Some.cmd) (seen c.self.inside.clock c.self.inside.course) (Here g c) (New g c)
set g c =
    let s = (seen c.self.inside.clock c.self.inside.course) in
    let cmd = c.in-Some.cmd in
    let reading = c.in_ok-reading.reading in
    taken (Here g c) (New g c) cmd reading (followed reading cmd) s
    c.follow_command-accepted.result (step g c) refl c.in_ok-reading.ensures.answer
    c.follow_command-accepted.ensures.answer c.front-self-inside.ensures
    (followed_owed reading cmd s (plain g c) (no_earlier s reading (step g c).last_account))

pub invariant_of-self-2 : goal.invariant_of-self-2
invariant_of-self-2 g c = λ following.
    in_step (Here g c) (New g c) c.in-Some.cmd c.in_ok-reading.reading
    (followed c.in_ok-reading.reading c.in-Some.cmd) (seen c.self.inside.clock c.self.inside.course) (step g c) (set g c) refl
    refl

pub returns-clause-answer : goal.returns-clause-answer
returns-clause-answer g c =
    rw c.in-Some.is (subst (λ (o : Owner). IsSet (Some c.in-Some.cmd) o (New g c)) c.self.view_is
    (c.in_ok-reading.reading, set g c))

pub returns-clause-known : goal.returns-clause-known
returns-clause-known g c = sym c.front-self-inside.ensures

pub returns-in_default-clause-readings : goal.returns-in_default-clause-readings
returns-in_default-clause-readings g c =
    let old = c.args.self.now in
    none_since g.C.Counter.answers_after old.caller old.count old.count refl

pub returns-in_err-reading-clause-readings : goal.returns-in_err-reading-clause-readings
returns-in_err-reading-clause-readings g c =
    let inside = c.self.inside in
    stays_since g.C.Counter.answers_after
    (owner_of inside.caller (seen inside.clock inside.course) inside.count) c.args.self.now
    c.give.new.caller c.self.view_is

pub returns-clause-readings : goal.returns-clause-readings
returns-clause-readings g c =
    given_since g.C.Counter.answers_after c.in-Some.cmd c.in_ok-reading.reading (Here g c)
    c.args.self.now c.give.new.caller c.front-self-inside.result c.self.view_is c.requires.known
    c.in_ok-reading.ensures.answer c.front-self-inside.ensures c.in_ok-reading.ensures.reading
