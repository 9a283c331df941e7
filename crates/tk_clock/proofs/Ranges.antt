-- The facts that follow if the tests of times pass.
use Rattle.std.proofs.Common.{◌≡◌, ℕ, ◌^◌, ◌<◌, arith, true}
use Rattle.std.specs.Prelude.{ℤ, pos, ◌≤ℤ◌, ◌<ℤ◌, ◌&&◌, int_le, int_lt, nat_lt}
use Rattle.std.proofs.lemmas.Grind.{common_steps}
use Rattle.tk_clock.specs.declared.timespec.Timespec.{Timespec}
use Rattle.tk_clock.specs.Limits.{is_settable, is_suspension, is_well_formed, clock_end, settable_end, greatest_tai}
use Rattle.tk_clock.specs.State.{State}
use Rattle.tk_clock.specs.Effect.{IsEarly}
use Rattle.tk_clock.proofs.Effects.{ready}
use Rattle.tk_clock.specs.declared.command.Command.TheVariants.{SetTime, Step, Tick, Tai, Leap, Resume}
use Rattle.tk_counter.specs.Counter.{least_tick, greatest_tick}

-- a time within bounds of seconds
pub record IsTimeBelow (time : Timespec) (end : ℕ) : Type 0 where
  pub since : pos 0 ≤ℤ time.sec
  pub until : time.sec <ℤ pos end
  pub rest : time.nsec < 10 ^ 9

-- the facts that follow from the test of a time against a bound
time-below : (time : Timespec) (end : ℕ) →
    (int_le (pos 0) time.sec && int_lt time.sec (pos end) && nat_lt time.nsec (10 ^ 9)) ≡ true →
    IsTimeBelow time end
time-below time end e =
    record {
      since = grind (arith, common_steps);
      until = grind (arith, common_steps);
      rest = grind (arith, common_steps);
    }

pub settable-below : (time : Timespec) → is_settable time ≡ true → IsTimeBelow time settable_end
unfolding is_settable
settable-below time e = time-below time settable_end e

-- REALTIME may be set to the time of a setting that passes the early tests
pub set-below : (state : State) (reading : ℕ) (time : Timespec) →
    IsEarly state reading (SetTime time) → IsTimeBelow time settable_end
unfolding is_well_formed
set-below state reading time early =
    settable-below time (ready state reading (SetTime time) early).well

-- the suspension of such a resume is shorter than the range of the clocks
pub resumed-below : (state : State) (reading : ℕ) (away : Timespec) →
    IsEarly state reading (Resume away) → IsTimeBelow away clock_end
unfolding is_well_formed is_suspension
resumed-below state reading away early =
    time-below away clock_end (ready state reading (Resume away) early).well

-- such a step's nanoseconds are less than a second
pub step-rest : (state : State) (reading : ℕ) (by : Timespec) → IsEarly state reading (Step by) →
    by.nsec < 10 ^ 9
unfolding is_well_formed
step-rest state reading by early =
    let well = (ready state reading (Step by) early).well in
    grind (arith, common_steps, well)

-- such a tick and such a TAI offset are in their ranges
pub tick-between : (state : State) (reading : ℕ) (tick : ℤ) → IsEarly state reading (Tick tick) →
    (least_tick ≤ℤ tick) × (tick ≤ℤ greatest_tick)
unfolding is_well_formed
tick-between state reading tick early =
    let well = (ready state reading (Tick tick) early).well in
    (grind (arith, common_steps, well), grind (arith, common_steps, well))

pub leap-between : (state : State) (reading : ℕ) (by tai : ℤ) →
    IsEarly state reading (Leap by tai) → (pos 0 ≤ℤ tai) × (tai ≤ℤ pos greatest_tai)
unfolding is_well_formed
leap-between state reading by tai early =
    let well = (ready state reading (Leap by tai) early).well in
    (grind (arith, common_steps, well), grind (arith, common_steps, well))

pub tai-between : (state : State) (reading : ℕ) (seconds : ℤ) →
    IsEarly state reading (Tai seconds) →
    (pos 0 ≤ℤ seconds) × (seconds ≤ℤ pos greatest_tai)
unfolding is_well_formed
tai-between state reading seconds early =
    let well = (ready state reading (Tai seconds) early).well in
    (grind (arith, common_steps, well), grind (arith, common_steps, well))
