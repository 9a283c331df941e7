-- The owner's caller knows all that it knew before.
use Rattle.std.proofs.Common.{◌≡◌, refl, sym, ap, subst, ℕ, Bool, true, false, List, Option, Some, None, inl, inr, arith}
use Rattle.std.specs.Prelude.{⊤, Result, Ok, Err, MatchResult}
use mathlib.Core.List.{IsPrefix}
use Rattle.tk_clock.specs.declared.command.Command.{Command}
use Rattle.tk_clock.specs.declared.command.Command.TheVariants.{Update}
use Rattle.tk_clock.specs.declared.refusal.Refusal.{Refusal}
use Rattle.tk_clock.specs.Snapshot.{Snapshot}
use Rattle.tk_clock.proofs.Lists.{prefix_self}
use Rattle.tk_latch.specs.Latch.{Learnt}
use Rattle.tk_now.specs.Views.{Noticed}
use Rattle.tk_ntp.specs.declared.leap.Leap.{Leap}
use Rattle.tk_ntp.specs.declared.leap.Leap.TheVariants.{None as NoLeap, Insert, Delete}
use Rattle.tk_ntp.specs.Advance.{leap_of_clock}
use Rattle.tk_ntp.specs.Change.{frequency_command, tick_command}
use Rattle.tk_shared.specs.Callers.{HasRead, IsKnownBy, IsRefused, Known}
use Rattle.tk_shared.proofs.Informed.{known_by_trans}
use Rattle.tk_shared_steered.specs.declared.fault.SteeringFault.{SteeringFault}
use Rattle.tk_shared_steered.specs.declared.fault.SteeringFault.TheVariants.{Refused, Foreign}
use Rattle.tk_shared_steered.specs.Given.{IsNotGiven}
use Rattle.tk_shared_steered.specs.Late.{AfterLeap, AfterTick, AfterUpdate, AtFirst, Begins, HasAdvancedLate, HasBegunLate, HasStopped, HasStoppedLate, HaveBegunLate, IsLeapMadeIf, IsNext, IsSet, IsSteered, IsUpdated, Lost, StaysAfterTick, StaysAt, StaysAtLeap, Still, Stops, change_for}
use Rattle.tk_shared_steered.specs.Opened.{IsUnopened, Late, NotGiven, Unsound}
use Rattle.tk_shared_steered.specs.Owner.{Owner}

as_prefix : {X : Type 0} (xs ys : List X) → ys ≡ xs → IsPrefix xs ys
as_prefix xs ys same = subst (IsPrefix xs) (sym same) (prefix_self xs)

same_known : (one other : Known) → other ≡ one → IsKnownBy one other
same_known one other is =
    subst (IsKnownBy one) (sym is)
    (record {
      seen = (refl, prefix_self one.seen.entries);
      learnt = prefix_self one.learnt.publications;
      commands = prefix_self one.noticed.commands;
      log = prefix_self one.noticed.log;
      folded = omega arith;
    })

-- a read of the page
pub read_known : (old new : Known) (snapshot : Snapshot) → HasRead old new snapshot →
    IsKnownBy old new
read_known old new snapshot r = record {
  seen = r.extends;
  learnt = as_prefix old.learnt.publications new.learnt.publications
      (ap (λ (l : Learnt). l.publications) r.learnt);
  commands = as_prefix old.noticed.commands new.noticed.commands
      (ap (λ (n : Noticed). n.commands) r.noticed);
  log = as_prefix old.noticed.log new.noticed.log (ap (λ (n : Noticed). n.log) r.noticed);
  folded = let is = r.folded in omega (arith, is);
}

-- a refused command
refused_known : (old new : Known) (cmd : Command) (refusal : Refusal) →
    IsRefused old new cmd refusal → IsKnownBy old new
refused_known old new cmd refusal r = record {
  seen = r.extends;
  learnt = as_prefix old.learnt.publications new.learnt.publications
      (ap (λ (l : Learnt). l.publications) r.learnt);
  commands = as_prefix old.noticed.commands new.noticed.commands
      (ap (λ (n : Noticed). n.commands) r.noticed);
  log = as_prefix old.noticed.log new.noticed.log (ap (λ (n : Noticed). n.log) r.noticed);
  folded = r.folds.more;
}

-- a command whose reading isn't known
pub not_given_known : (cmd : Command) (fault : SteeringFault) (old new : Known) →
    IsNotGiven cmd fault old new → IsKnownBy old new
not_given_known cmd (Refused refusal) old new h = refused_known old new cmd refusal h.1
not_given_known cmd Foreign old new h = elim h.tried as (λ _. IsKnownBy old new) [
  | inl r ↦ refused_known old new cmd r.0 r.1
  | inr a ↦ known_by_trans old a.0 new a.3.known (read_known a.0 new a.2 a.4)
]

module _ (old : Owner) where
  set_known : (cmd : Option Command) (new : Owner) → IsSet cmd old new →
      IsKnownBy old.caller new.caller
  set_known None new h = same_known old.caller new.caller (ap (λ (o : Owner). o.caller) h)
  set_known (Some cmd) new h = h.1.given.known

  updated_known : (leap : Option Leap) (new : Owner) → IsUpdated leap old new →
      IsKnownBy old.caller new.caller
  updated_known None new h = h.2.given.known
  updated_known (Some leap) new h = h.5.given.known

  pub leapt_known : (leap : Option Leap) (new : Owner) → IsLeapMadeIf leap old new →
      IsKnownBy old.caller new.caller
  leapt_known None new h = same_known old.caller new.caller (ap (λ (o : Owner). o.caller) h)
  leapt_known (Some NoLeap) new h =
      same_known old.caller new.caller (ap (λ (o : Owner). o.caller) h)
  leapt_known (Some Insert) new h = h.1.given.known
  leapt_known (Some Delete) new h = h.1.given.known

pub steered_known : (old new : Owner) → IsSteered old new → IsKnownBy old.caller new.caller
steered_known old new h =
    known_by_trans old.caller h.0.caller new.caller
    (set_known old (tick_command (change_for old)) h.0 h.1)
    (set_known h.0 (frequency_command (change_for old)) new h.2)

begun_known : (begun : Bool) (old new : Owner) → HasBegunLate begun old new →
    IsKnownBy old.caller new.caller
begun_known begun old new h =
    known_by_trans old.caller h.updated.caller new.caller
    (updated_known old h.leap h.updated h.update)
    (known_by_trans h.updated.caller h.leapt.caller new.caller
    (leapt_known h.updated h.leap h.leapt h.made) (steered_known h.leapt new h.steered))

-- the commands of a rate, which may be missing or not given
pub tried_known : (result : Result ⊤ SteeringFault) (cmd : Option Command) (old new : Owner) →
    MatchResult result (λ _. IsSet cmd old new) (λ fault. StaysAt cmd fault old new) →
    IsKnownBy old.caller new.caller
tried_known (Ok done) cmd old new h = set_known old cmd new h
tried_known (Err fault) cmd old new h =
    not_given_known h.it fault old.caller new.caller h.stays.reason

pub at_leap_known : (leap : Option Leap) (fault : SteeringFault) (old new : Owner) →
    StaysAtLeap leap fault old new → IsKnownBy old.caller new.caller
at_leap_known leap fault old new h =
    not_given_known (leap_of_clock h.it old.clock.clock) fault old.caller new.caller h.stays.reason

pub after_tick_known : (fault : SteeringFault) (old new : Owner) →
    StaysAfterTick fault old new → IsKnownBy old.caller new.caller
after_tick_known fault old new (inl h) =
    not_given_known h.it fault old.caller new.caller h.stays.reason
after_tick_known fault old new (inr h) =
    known_by_trans old.caller h.0.caller new.caller
    (set_known old (tick_command (change_for old)) h.0 h.1)
    (not_given_known h.2.it fault h.0.caller new.caller h.2.stays.reason)

-- the states between the commands
next_known : (cmd : Command) (old last : Owner) → IsNext old cmd last →
    IsKnownBy old.caller last.caller
next_known cmd old last AtFirst = same_known old.caller old.caller refl
next_known cmd old last (AfterUpdate leap updated u leaps) = updated_known old (Some leap) updated u
next_known cmd old last (AfterLeap given leap updated leapt u m is) =
    known_by_trans old.caller updated.caller leapt.caller (updated_known old leap updated u)
    (leapt_known updated leap leapt m)
next_known cmd old last (AfterTick given leap updated leapt ticked u m set is) =
    known_by_trans old.caller leapt.caller ticked.caller
    (known_by_trans old.caller updated.caller leapt.caller (updated_known old leap updated u)
    (leapt_known updated leap leapt m))
    (set_known leapt (tick_command (change_for leapt)) ticked set)

stopped_known : (fault : SteeringFault) (old new : Owner) → HasStopped fault old new →
    IsKnownBy old.caller new.caller
stopped_known fault old new (Lost foreign lost same) =
    same_known old.caller new.caller (ap (λ (o : Owner). o.caller) same)
stopped_known fault old new (Stops known cmd last next stays) =
    known_by_trans old.caller last.caller new.caller (next_known cmd old last next)
    (not_given_known cmd fault last.caller new.caller stays.reason)

-- a second that began late, or the commands that stopped
pub late_known : (result : Result Bool SteeringFault) (old new : Owner) →
    MatchResult result (λ begun. HasBegunLate begun old new) (λ fault. HasStopped fault old new) →
    IsKnownBy old.caller new.caller
late_known (Ok begun) old new h = begun_known begun old new h
late_known (Err fault) old new h = stopped_known fault old new h

chain_known : (old new : Owner) → HaveBegunLate old new → IsKnownBy old.caller new.caller
chain_known old new (Still owner) = same_known owner.caller owner.caller refl
chain_known old new (Begins first middle end begun rest) =
    known_by_trans first.caller middle.caller end.caller (begun_known true first middle begun)
    (chain_known middle end rest)

-- all seconds that are due
pub advanced_known : (result : Result ⊤ SteeringFault) (old new : Owner) →
    MatchResult result (λ _. HasAdvancedLate old new) (λ fault. HasStoppedLate fault old new) →
    IsKnownBy old.caller new.caller
advanced_known (Ok done) old new h =
    known_by_trans old.caller h.before.caller new.caller (chain_known old h.before h.begun)
    (begun_known false h.before new h.last)
advanced_known (Err fault) old new h =
    known_by_trans old.caller h.before.caller new.caller (chain_known old h.before h.begun)
    (stopped_known fault h.before new h.stopped)

-- no discipline was opened
pub unopened_known : (hz : ℕ) (old new : Known) (fault : SteeringFault) →
    IsUnopened hz old new fault → IsKnownBy old new
unopened_known hz old new fault (Late snapshot read some) = read_known old new snapshot read
unopened_known hz old new fault (Unsound refusal shown is) =
    read_known old new shown.snapshot shown.read
unopened_known hz old new fault (NotGiven given middle shown is reason) =
    known_by_trans old middle new (read_known old middle shown.snapshot shown.read)
    (not_given_known Update given middle new reason)
