-- The seconds of REALTIME begin, each at its own reading (timekeeping_advance,
-- accumulate_nsecs_to_secs, kernel/time/timekeeping.c).
use Rattle.std.specs.Prelude.{ℕ, ◌+◌, ◌-◌, ◌*◌, ◌≤◌, ⊤, nat_eq, List, [], ◌∷◌, ℤ, pos, ◌+ℤ◌, unsigned_abs, Option, Some, None, if◌then◌else◌}
use Rattle.tk_counter.specs.Counter.{gap}
use Rattle.tk_clock.specs.declared.command.Command.{Command}
use Rattle.tk_clock.specs.declared.refusal.Refusal.{Refusal}
use Rattle.tk_clock.specs.declared.timespec.Timespec.{Timespec}
use Rattle.tk_clock.specs.declared.clock_id.ClockId.TheVariants.{Realtime}
use Rattle.tk_clock.specs.Limits.{clock_end}
use Rattle.tk_clock.specs.Reach.{IsAhead, IsFirstReached, HasReached, distance}
use Rattle.tk_clock.specs.Refusal.{state_refusal}
use Rattle.tk_clock.specs.State.{State, effect}
use Rattle.tk_clock.specs.Time.{nanoseconds}
use Rattle.tk_ntp.specs.declared.leap.Leap.{Leap}
use Rattle.tk_ntp.specs.declared.leap_plan.LeapState.{LeapState}
use Rattle.tk_ntp.specs.declared.leap_plan.LeapState.TheVariants.{InProgress}
use Rattle.tk_ntp.specs.Leap.{is_leap, leap_command, number_of, second_after_leap}
use Rattle.tk_ntp.specs.Second.{leap_at}
use Rattle.tk_ntp.specs.Steering.{second_begun}
use Rattle.tk_ntp.specs.SteeredClock.{SteeredClock, steered_at}

-- the beginning of a second of REALTIME, as a time
abbrev pub second_time : ℕ → Timespec
second_time sec = record { sec = pos sec; nsec = 0 }

-- the TAI offset of clocks, in seconds
abbrev pub tai_of_clock : State → ℕ
tai_of_clock clock = unsigned_abs clock.base.tai

-- the command that makes a leap of these clocks
abbrev pub leap_of_clock : Leap → State → Command
leap_of_clock leap clock = leap_command leap (tai_of_clock clock)

-- the state after the command of a leap, unless that is refused
abbrev pub leapt_unless : Option Refusal → ℕ → Leap → SteeredClock → SteeredClock
leapt_unless (Some refusal) reading leap steered = steered
leapt_unless None reading leap steered = record steered {
  clock = effect steered.clock reading (leap_of_clock leap steered.clock);
  next = second_after_leap leap steered.next;
}

-- the state after a leap: one that the clocks refuse isn't made
abbrev pub leapt : ℕ → Leap → SteeredClock → SteeredClock
leapt reading leap steered =
    if is_leap leap
    then
    leapt_unless (state_refusal steered.clock reading (leap_of_clock leap steered.clock)) reading
    leap steered
    else steered

-- the state as the next second begins at a reading, before any command: the lag is accounted for,
-- and the discipline has its next second
abbrev pub with_next_second : ℕ → SteeredClock → SteeredClock
with_next_second reading steered =
    let base = steered.clock.base in
    record steered {
      steering =
          second_begun base.counter base.mult (gap base.counter steered.last_account reading) steered.next
          steered.steering;
      next = steered.next + 1;
      last_account = reading;
    }

-- the state after the next second of REALTIME has begun at a reading: its leap is made, and the
-- clocks get the rate that it needs
abbrev pub second_begun_at : ℕ → SteeredClock → SteeredClock
second_begun_at reading steered =
    steered_at reading
    (leapt reading (leap_at steered.steering.ntp steered.next) (with_next_second reading steered))

-- REALTIME reaches the next second first at the reading `at`, which is not after another one
pub record IsDue (steered : SteeredClock) (reading at : ℕ) : Type 0 where
  pub first : IsFirstReached steered.clock.base Realtime (nanoseconds (second_time steered.next)) at
  pub until : distance steered.clock.base at ≤ distance steered.clock.base reading

-- REALTIME reaches the next second at no reading up to this one
abbrev pub IsNoneDue : SteeredClock → ℕ → Type 0
IsNoneDue steered reading = (at : ℕ) → IsAhead steered.clock.base at →
    distance steered.clock.base at ≤ distance steered.clock.base reading →
    ¬ HasReached steered.clock.base Realtime (nanoseconds (second_time steered.next)) at

-- a state after each second of REALTIME up to a reading has begun, one after the other, each due at
-- the first reading at which REALTIME reaches it: `begun` gives the state after one
pub data IsAdvancedBy (begun : ℕ → SteeredClock → SteeredClock) (reading : ℕ) :
    SteeredClock → SteeredClock → Type 0 where
  Arrived : (steered : SteeredClock) → IsNoneDue steered reading →
      IsAdvancedBy begun reading steered steered
  Begins : (steered after : SteeredClock) (at : ℕ) → IsDue steered reading at →
      IsAdvancedBy begun reading (begun at steered) after →
      IsAdvancedBy begun reading steered after

-- the same if each second begins at its own reading
abbrev pub IsAdvanced : ℕ → SteeredClock → SteeredClock → Type 0
IsAdvanced reading before after = IsAdvancedBy second_begun_at reading before after

-- the seconds of REALTIME that begin, in their order
abbrev pub seconds_by : (begun : ℕ → SteeredClock → SteeredClock) (reading : ℕ)
    (before after : SteeredClock) → IsAdvancedBy begun reading before after → List ℕ
seconds_by begun reading before after (Arrived steered none) = []
seconds_by begun reading before after (Begins steered end at due rest) =
    steered.next ∷ seconds_by begun reading (begun at steered) end rest

-- the sum of a number over these seconds: of their readings, and of the states before them
abbrev pub sum_over : (begun : ℕ → SteeredClock → SteeredClock) (part : ℕ → SteeredClock → ℤ)
    (reading : ℕ) (before after : SteeredClock) → IsAdvancedBy begun reading before after → ℤ
sum_over begun part reading before after (Arrived steered none) = pos 0
sum_over begun part reading before after (Begins steered end at due rest) =
    part at steered +ℤ sum_over begun part reading (begun at steered) end rest

-- a fact of each of these seconds: of its reading, and of the state before it
abbrev pub AreEach : (begun : ℕ → SteeredClock → SteeredClock)
    (Fact : ℕ → SteeredClock → Type 0) (reading : ℕ) (before after : SteeredClock) →
    IsAdvancedBy begun reading before after → Type 0
AreEach begun Fact reading before after (Arrived steered none) = ⊤
AreEach begun Fact reading before after (Begins steered end at due rest) =
    Fact at steered × AreEach begun Fact reading (begun at steered) end rest

-- 0 while an inserted second is in progress, otherwise 1
abbrev pub steps_before : LeapState → ℕ
steps_before state = if nat_eq (number_of state) (number_of InProgress) then 0 else 1

-- more than the number of seconds that can still begin: an inserted second is the same second again
abbrev pub seconds_left : SteeredClock → ℕ
seconds_left steered =
    2 * (clock_end + 1 - steered.next) + steps_before steered.steering.ntp.plan.state
