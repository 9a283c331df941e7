-- A discipline on its way, apart from the clocks that it steers.
use Rattle.std.specs.Prelude.{ℕ}
use Rattle.tk_clock.specs.State.{State}
use Rattle.tk_ntp.specs.Steering.{Steered}
use Rattle.tk_ntp.specs.SteeredClock.{SteeredClock}

-- the discipline with its lag, the second of REALTIME that begins next, and the reading up to which
-- the lag is accounted for
pub record Course : Type 0 where
  pub steering : Steered
  pub next : ℕ
  pub last_account : ℕ

-- clocks with the course of their discipline
abbrev pub seen : State → Course → SteeredClock
seen clock course = record {
  clock = clock;
  steering = course.steering;
  next = course.next;
  last_account = course.last_account;
}

-- the course of the discipline of steered clocks
abbrev pub course_of : SteeredClock → Course
course_of steered = record {
  steering = steered.steering;
  next = steered.next;
  last_account = steered.last_account;
}
