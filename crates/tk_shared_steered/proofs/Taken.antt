-- The owner's commands leave its clocks in step with the history, and fewer seconds that can begin.
use Rattle.std.proofs.Common.{◌≡◌, ◌∙◌, refl, sym, ap, subst, ℕ, ◌<◌, length, true, Bool, Option, Some, None, arith}
use Rattle.std.specs.Prelude.{⊤, is_some, Result, MatchOption}
use Rattle.tk_clock.specs.declared.command.Command.{Command}
use Rattle.tk_clock.specs.declared.command.Command.TheVariants.{Update}
use Rattle.tk_clock.specs.declared.refusal.Refusal.{Refusal}
use Rattle.tk_clock.specs.Refusal.{state_refusal}
use Rattle.tk_clock.specs.State.{State, effect, state_of}
use Rattle.tk_clock.proofs.Effects.{effect-last}
use Rattle.tk_ntp.specs.declared.leap.Leap.{Leap}
use Rattle.tk_ntp.specs.declared.leap.Leap.TheVariants.{None as NoLeap, Insert, Delete}
use Rattle.tk_ntp.specs.Advance.{leap_of_clock, seconds_left}
use Rattle.tk_ntp.specs.Change.{frequency_command, tick_command}
use Rattle.tk_ntp.specs.Followed.{HasFollowed, IsNoEarlier, IsOneBegunAlone, IsOwedAt, followed, leap_followed, seconds_left_after}
use Rattle.tk_ntp.specs.Leap.{is_leap}
use Rattle.tk_ntp.specs.SteeredClock.{SteeredClock}
use Rattle.tk_ntp.proofs.Followed.{begun_owed}
use Rattle.tk_shared.specs.Callers.{Known}
use Rattle.tk_shared_steered.specs.declared.fault.SteeringFault.{SteeringFault}
use Rattle.tk_shared_steered.specs.declared.fault.SteeringFault.TheVariants.{Refused, Foreign}
use Rattle.tk_shared_steered.specs.Given.{IsGiven, IsNotGiven}
use Rattle.tk_shared_steered.specs.Late.{HasBegunLate, IsLeapMade, IsLeapMadeIf, IsUpdated, IsSet, IsSteered, IsTaken, Stays, StaysAtLeap, change_for}
use Rattle.tk_shared_steered.specs.Owner.{IsFollowing, IsInStep, IsInStepIfKnown, Owner, owner_of}
use Rattle.tk_shared_steered.proofs.Steps.{accepts, follows, no_earlier, runs_on}

-- a command that the discipline has followed from a state `s`, which no second has left since the
-- owner's state
pub taken : (old new : Owner) (cmd : Command) (reading : ℕ) (follow : SteeredClock → SteeredClock)
    (s : SteeredClock) (result : Result ⊤ Refusal) → IsInStep old → s.clock ≡ old.clock.clock →
    IsGiven cmd reading old.caller new.caller →
    HasFollowed (state_refusal s.clock reading cmd) (follow s) s result new.clock →
    new.count ≡ length new.caller.seen.entries → IsOwedAt reading s (follow s) →
    IsTaken cmd reading follow s old new
taken old new cmd reading follow s result step same given h count owed =
    let clock : new.clock ≡ follow s =
    follows (state_refusal s.clock reading cmd) (follow s) s new.clock result h
    (accepts s.clock cmd reading old.caller new.caller (same ∙ step.clocks) given) in
    record {
      given = given;
      clock = clock;
      count = count;
      owed = subst (IsOwedAt reading s) (sym clock) owed;
    }

-- leaves the clocks in step
pub in_step : (old new : Owner) (cmd : Command) (reading : ℕ)
    (follow : SteeredClock → SteeredClock) (s : SteeredClock) → IsInStep old →
    IsTaken cmd reading follow s old new →
    (follow s).clock ≡ effect old.clock.clock reading cmd → (follow s).last_account ≡ reading → IsInStep new
in_step old new cmd reading follow s step h is last_account =
    let clock : new.clock.clock ≡ effect old.clock.clock reading cmd =
    ap (λ (s : SteeredClock). s.clock) h.clock ∙ is in
    record {
      clocks =
          clock
          ∙ runs_on old.clock.clock cmd reading old.caller new.caller step.clocks h.given;
      last_account = ap (λ (s : SteeredClock). s.last_account) h.clock
          ∙ last_account
          ∙ sym (ap (λ (c : State). c.base.last) clock ∙ effect-last old.clock.clock reading cmd);
    }

-- a command that was not given, or whose reading isn't known, leaves the clocks in step
pub stays_in_step : (cmd : Command) (fault : SteeringFault) (old new : Owner) → IsFollowing old →
    IsInStep old → IsNotGiven cmd fault old.caller new.caller → new.clock ≡ old.clock →
    new.count ≡ old.count → IsInStepIfKnown new
stays_in_step cmd (Refused refusal) old new known step h clock count = λ following. record {
  clocks =
      ap (λ (s : SteeredClock). s.clock) clock ∙ step.clocks ∙ ap state_of (sym h.0);
  last_account =
      ap (λ (s : SteeredClock). s.last_account) clock ∙ step.last_account
      ∙ sym (ap (λ (s : SteeredClock). s.clock.base.last) clock);
}
stays_in_step cmd Foreign old new known step h clock count = λ following.
    let more = h.more in
    absurd (omega (arith, more, known, following, count))

-- commands of a rate leave the seconds that can begin
set_left : (cmd : Option Command) (old new : Owner) → IsSet cmd old new →
    seconds_left new.clock ≡ seconds_left old.clock
set_left None old new h = ap (λ (o : Owner). seconds_left o.clock) h
set_left (Some cmd) old new h = ap seconds_left h.1.clock

steered_left : (old new : Owner) → IsSteered old new →
    seconds_left new.clock ≡ seconds_left old.clock
steered_left old new h =
    set_left (frequency_command (change_for old)) h.0 new h.2
    ∙ set_left (tick_command (change_for old)) old h.0 h.1

-- a second that began leaves fewer
pub fewer : (leap : Option Leap) (most : ℕ) (updated leapt new : Owner) → is_some leap ≡ true →
    MatchOption leap ⊤ (λ it. seconds_left_after it updated.clock < most) →
    IsLeapMadeIf leap updated leapt → IsSteered leapt new → seconds_left new.clock < most
fewer None most updated leapt new some left made steered = absurd (cc some)
fewer (Some NoLeap) most updated leapt new some left made steered =
    subst (λ (n : ℕ). n < most)
    (sym (steered_left leapt new steered ∙ ap (λ (o : Owner). seconds_left o.clock) made)) left
fewer (Some Insert) most updated leapt new some left made steered =
    subst (λ (n : ℕ). n < most)
    (sym (steered_left leapt new steered ∙ ap seconds_left made.1.clock)) left
fewer (Some Delete) most updated leapt new some left made steered =
    subst (λ (n : ℕ). n < most)
    (sym (steered_left leapt new steered ∙ ap seconds_left made.1.clock)) left

-- the same of an owner that is known by its parts
pub stopped_in_step : (cmd : Command) (fault : SteeringFault) (here old : Owner) (caller : Known) →
    here ≡ old → IsInStepIfKnown here → IsFollowing old → IsNotGiven cmd fault here.caller caller →
    IsInStepIfKnown (owner_of caller here.clock here.count)
stopped_in_step cmd fault here old caller is inv known h =
    let following = subst IsFollowing (sym is) known in
    stays_in_step cmd fault here (owner_of caller here.clock here.count) following (inv following) h
    refl refl

pub stopped : (cmd : Command) (fault : SteeringFault) (here old : Owner) (caller : Known) →
    here ≡ old → IsNotGiven cmd fault here.caller caller →
    Stays cmd fault old (owner_of caller here.clock here.count)
stopped cmd fault here old caller is h =
    subst (λ (o : Owner). Stays cmd fault o (owner_of caller here.clock here.count)) is
    (record { reason = h; clock = refl; count = refl })

leaps_if : (leap : Leap) → (leap ≡ NoLeap → ⊥) → is_leap leap ≡ true
leaps_if NoLeap other = absurd (other refl)
leaps_if Insert other = refl
leaps_if Delete other = refl

-- the command of a leap
pub stopped_at_leap : (leap : Leap) (given : Option Leap) (cmd : Command) (fault : SteeringFault)
    (here old : Owner) (caller : Known) → given ≡ Some leap → (leap ≡ NoLeap → ⊥) →
    cmd ≡ leap_of_clock leap here.clock.clock → here ≡ old →
    IsNotGiven cmd fault here.caller caller →
    StaysAtLeap given fault old (owner_of caller here.clock here.count)
stopped_at_leap leap given cmd fault here old caller due other is same h =
    let new = owner_of caller here.clock here.count in
    let stays : Stays (leap_of_clock leap here.clock.clock) fault here new =
    stopped (leap_of_clock leap here.clock.clock) fault here here caller refl
    (subst (λ (c : Command). IsNotGiven c fault here.caller caller) is h) in
    record {
      it = leap;
      due = due;
      leaps = leaps_if leap other;
      stays = subst (λ (o : Owner). Stays (leap_of_clock leap o.clock.clock) fault o new) same stays;
    }

-- an update, up to which a second began in the discipline, or none
pub same_clock : (leap : Option Leap) (reading : ℕ) (before s : SteeredClock) →
    IsOneBegunAlone reading before leap s → s.clock ≡ before.clock
same_clock None reading before s h = ap (λ (n : SteeredClock). n.clock) h.1
same_clock (Some leap) reading before s h = ap (λ (n : SteeredClock). n.clock) h.3

-- the update's reading is in order after it
pub update_order : (leap : Option Leap) (reading : ℕ) (before s : SteeredClock) →
    before.last_account ≡ before.clock.base.last → IsOneBegunAlone reading before leap s →
    IsNoEarlier reading s
update_order None reading before s last_account h =
    subst (IsNoEarlier reading) (sym h.1) (no_earlier before reading last_account)
update_order (Some leap) reading before s last_account h =
    subst (IsNoEarlier reading) (sym h.3) h.1.until

pub updated : (leap : Option Leap) (reading : ℕ) (here new : Owner) (s : SteeredClock) →
    IsInStep here → IsOneBegunAlone reading here.clock leap s →
    IsTaken Update reading (followed reading Update) s here new → IsUpdated leap here new
updated None reading here new s step h t = (
  reading,
  h.0,
  subst (λ (n : SteeredClock). IsTaken Update reading (followed reading Update) n here new) h.1 t,
)
updated (Some leap) reading here new s step h t = (
  reading,
  h.0,
  h.1,
  h.2,
  begun_owed h.0 here.clock (no_earlier here.clock h.0 step.last_account),
  subst (λ (n : SteeredClock). IsTaken Update reading (followed reading Update) n here new) h.3 t,
)

-- the leap of a second
pub made_none : (leap : Leap) (owner : Owner) → leap ≡ NoLeap → IsLeapMade leap owner owner
made_none leap owner is = subst (λ (l : Leap). IsLeapMade l owner owner) (sym is) refl

pub made_some : (leap : Leap) (reading : ℕ) (old new : Owner) → (leap ≡ NoLeap → ⊥) →
    IsTaken (leap_of_clock leap old.clock.clock) reading (leap_followed reading leap) old.clock old
    new → IsLeapMade leap old new
made_some NoLeap reading old new other t = absurd (other refl)
made_some Insert reading old new other t = (reading, t)
made_some Delete reading old new other t = (reading, t)

-- a second that was let begin leaves an owner that follows all that it has seen
set_following : (cmd : Option Command) (old new : Owner) → IsFollowing old → IsSet cmd old new →
    IsFollowing new
set_following None old new following h = subst IsFollowing (sym h) following
set_following (Some cmd) old new following h = sym h.1.count

updated_following : (leap : Option Leap) (old new : Owner) → IsUpdated leap old new →
    IsFollowing new
updated_following None old new h = sym h.2.count
updated_following (Some leap) old new h = sym h.5.count

leapt_following : (leap : Option Leap) (old new : Owner) → IsFollowing old →
    IsLeapMadeIf leap old new → IsFollowing new
leapt_following None old new following h = subst IsFollowing (sym h) following
leapt_following (Some NoLeap) old new following h = subst IsFollowing (sym h) following
leapt_following (Some Insert) old new following h = sym h.1.count
leapt_following (Some Delete) old new following h = sym h.1.count

pub begun_following : (begun : Bool) (old new : Owner) → HasBegunLate begun old new →
    IsFollowing new
begun_following begun old new h =
    let leapt = leapt_following h.leap h.updated h.leapt
    (updated_following h.leap old h.updated h.update) h.made in
    let change = change_for h.leapt in
    let ticked = set_following (tick_command change) h.leapt h.steered.0 leapt h.steered.1 in
    set_following (frequency_command change) h.steered.0 new ticked h.steered.2
