-- Seconds of REALTIME that begin late over shared clocks: each command has its own reading.
use Rattle.std.specs.Prelude.{◌≡◌, ◌⊎◌, ℕ, Bool, true, false, is_some, Option, Some, None, length, MatchBool}
use Rattle.tk_clock.specs.declared.command.Command.{Command}
use Rattle.tk_clock.specs.declared.command.Command.TheVariants.{Update}
use Rattle.tk_ntp.specs.declared.leap.Leap.{Leap}
use Rattle.tk_ntp.specs.declared.change.Change.{Change}
use Rattle.tk_ntp.specs.Advance.{leap_of_clock, with_next_second, IsDue, IsNoneDue}
use Rattle.tk_ntp.specs.Change.{frequency_command, tick_command}
use Rattle.tk_ntp.specs.Followed.{followed, leap_followed, IsOwedAt}
use Rattle.tk_ntp.specs.Leap.{is_leap}
use Rattle.tk_ntp.specs.Second.{leap_at}
use Rattle.tk_ntp.specs.Steering.{commands}
use Rattle.tk_ntp.specs.SteeredClock.{SteeredClock, rate_in_force}
use Rattle.tk_shared_steered.specs.declared.fault.SteeringFault.{SteeringFault}
use Rattle.tk_shared_steered.specs.declared.fault.SteeringFault.TheVariants.{Foreign}
use Rattle.tk_shared_steered.specs.Given.{IsGiven, IsNotGiven}
use Rattle.tk_shared_steered.specs.Owner.{Owner, is_lost}

-- the owner's command was accepted at a reading, and the discipline followed it from the state
-- `before`, as `follow` gives the state after it. The account adds up to what the clocks were asked
-- for
pub record IsTaken (cmd : Command) (reading : ℕ) (follow : SteeredClock → SteeredClock)
    (before : SteeredClock) (old new : Owner) : Type 0 where
  pub given : IsGiven cmd reading old.caller new.caller
  pub clock : new.clock ≡ follow before
  pub count : new.count ≡ length new.caller.seen.entries
  pub owed : IsOwedAt reading before new.clock

-- an update at a reading, up to which the next second begins in the discipline, if it is due
-- there, with an account at its own reading: `None` if no second is due, otherwise the leap that is
-- due with the second
abbrev pub IsUpdated : Option Leap → Owner → Owner → Type 0
IsUpdated None old new =
    (reading : ℕ) × IsNoneDue old.clock reading
    × IsTaken Update reading (followed reading Update) old.clock old new
IsUpdated (Some leap) old new =
    (reading : ℕ) × (at : ℕ) × IsDue old.clock reading at
    × (leap ≡ leap_at old.clock.steering.ntp old.clock.next)
    × IsOwedAt at old.clock (with_next_second at old.clock)
    × IsTaken Update reading (followed reading Update) (with_next_second at old.clock) old new

-- the command of a leap at a reading, if there is a leap
abbrev pub IsLeapMade : Leap → Owner → Owner → Type 0
IsLeapMade leap old new =
    let cmd = leap_of_clock leap old.clock.clock in
    MatchBool (is_leap leap)
    ((reading : ℕ) × IsTaken cmd reading (leap_followed reading leap) old.clock old new)
    (new ≡ old)

-- the same for the second that began, if one did
abbrev pub IsLeapMadeIf : Option Leap → Owner → Owner → Type 0
IsLeapMadeIf None old new = new ≡ old
IsLeapMadeIf (Some leap) old new = IsLeapMade leap old new

-- a command at a reading, which may be missing
abbrev pub IsSet : Option Command → Owner → Owner → Type 0
IsSet None old new = new ≡ old
IsSet (Some cmd) old new =
    (reading : ℕ) × IsTaken cmd reading (followed reading cmd) old.clock old new

-- the commands of a change, each at its own reading
abbrev pub IsChanged : Change → Owner → Owner → Type 0
IsChanged change old new =
    (middle : Owner) × IsSet (tick_command change) old middle
    × IsSet (frequency_command change) middle new

-- the change that gives the clocks the rate that the present second needs
abbrev pub change_for : Owner → Change
change_for owner =
    let clock = owner.clock.clock in
    commands clock.base.counter (rate_in_force clock) owner.clock.steering

-- the clocks get this rate
abbrev pub IsSteered : Owner → Owner → Type 0
IsSteered old new = IsChanged (change_for old) old new

-- an update, the leap of the second that began by it, and the rate that the present second needs:
-- `begun` says whether a second began, so it and `old` determine `leap`. The entries of the update
-- and of the leap are the next ones after those that `old` has seen: their readings determine the
-- discipline of `updated` and of `leapt`, and the entries that these have seen
pub record HasBegunLate (begun : Bool) (old new : Owner) : Type 0 where
  pub known : is_lost old ≡ false
  pub leap : Option Leap
  pub updated : Owner
  pub leapt : Owner
  pub update : IsUpdated leap old updated
  pub made : IsLeapMadeIf leap updated leapt
  pub steered : IsSteered leapt new
  pub is : begun ≡ is_some leap

-- an owner's command was not given, or its reading is not known: the discipline stays
pub record Stays (cmd : Command) (fault : SteeringFault) (old new : Owner) : Type 0 where
  pub reason : IsNotGiven cmd fault old.caller new.caller
  pub clock : new.clock ≡ old.clock
  pub count : new.count ≡ old.count

-- the same for the command of the leap of a second that began
pub record StaysAtLeap (leap : Option Leap) (fault : SteeringFault)
    (old new : Owner) : Type 0 where
  pub it : Leap
  pub due : leap ≡ Some it
  pub leaps : is_leap it ≡ true
  pub stays : Stays (leap_of_clock it old.clock.clock) fault old new

-- the same for a command that may be missing
pub record StaysAt (cmd : Option Command) (fault : SteeringFault) (old new : Owner) : Type 0 where
  pub it : Command
  pub is : cmd ≡ Some it
  pub stays : Stays it fault old new

-- the same for the commands of a change of the rate: at the first one, or at the second one
abbrev pub StaysAfterTick : SteeringFault → Owner → Owner → Type 0
StaysAfterTick fault old new =
    StaysAt (tick_command (change_for old)) fault old new
    ⊎ ((ticked : Owner) × IsSet (tick_command (change_for old)) old ticked
    × StaysAt (frequency_command (change_for old)) fault ticked new)

-- the states between the commands, each with the command that is given next
pub data IsNext (old : Owner) : Command → Owner → Type 0 where
  AtFirst : IsNext old Update old
  AfterUpdate : (leap : Leap) (updated : Owner) → IsUpdated (Some leap) old updated →
      is_leap leap ≡ true → IsNext old (leap_of_clock leap updated.clock.clock) updated
  AfterLeap : (cmd : Command) (leap : Option Leap) (updated leapt : Owner) →
      IsUpdated leap old updated → IsLeapMadeIf leap updated leapt →
      tick_command (change_for leapt) ≡ Some cmd → IsNext old cmd leapt
  AfterTick : (cmd : Command) (leap : Option Leap) (updated leapt ticked : Owner) →
      IsUpdated leap old updated → IsLeapMadeIf leap updated leapt →
      IsSet (tick_command (change_for leapt)) leapt ticked →
      frequency_command (change_for leapt) ≡ Some cmd → IsNext old cmd ticked

-- why the commands stopped
pub data HasStopped (fault : SteeringFault) (old new : Owner) : Type 0 where
  -- the discipline was lost already: no command was given
  Lost : fault ≡ Foreign → is_lost old ≡ true → new ≡ old → HasStopped fault old new
  -- a command was not given: the discipline is that of the last state before it
  Stops : is_lost old ≡ false → (cmd : Command) (last : Owner) → IsNext old cmd last →
      Stays cmd fault last new → HasStopped fault old new

-- seconds began late, one after the other
pub data HaveBegunLate : Owner → Owner → Type 0 where
  Still : (owner : Owner) → HaveBegunLate owner owner
  Begins : (old middle new : Owner) → HasBegunLate true old middle → HaveBegunLate middle new →
      HaveBegunLate old new

-- all seconds began late that are due by the reading of the last update. The entries that `new` has
-- seen since determine `before`: at the reading of each update, the next second is due or it isn't
pub record HasAdvancedLate (old new : Owner) : Type 0 where
  pub before : Owner
  pub begun : HaveBegunLate old before
  pub last : HasBegunLate false before new

-- the commands stopped after these seconds. The first entries that `new` has seen since, up to its
-- `count`, determine `before` in the same way
pub record HasStoppedLate (fault : SteeringFault) (old new : Owner) : Type 0 where
  pub before : Owner
  pub begun : HaveBegunLate old before
  pub stopped : HasStopped fault before new
