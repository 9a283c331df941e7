-- Steered clocks that are restored from the numbers that they are kept in.
use Rattle.std.specs.Prelude.{ℕ, ◌+◌, ◌*◌, ◌/◌, ◌^◌, ℤ, Bool, not, ◌&&◌, ◌||◌, nat_eq, nat_le, nat_lt, unsigned_abs, Result, Ok, Err, if◌then◌else◌}
use Rattle.tk_clock.specs.Limits.{clock_end}
use Rattle.tk_clock.specs.State.{State}
use Rattle.tk_ntp.specs.declared.numbers.LagNumbers.{LagNumbers}
use Rattle.tk_ntp.specs.declared.numbers.LeapNumbers.{LeapNumbers}
use Rattle.tk_ntp.specs.declared.numbers.DisciplineNumbers.{DisciplineNumbers}
use Rattle.tk_ntp.specs.declared.numbers.SteeringNumbers.{SteeringNumbers}
use Rattle.tk_ntp.specs.declared.numbers.SteeredNumbers.{SteeredNumbers}
use Rattle.tk_ntp.specs.declared.numbers_error.NumbersError.{NumbersError}
use Rattle.tk_ntp.specs.declared.numbers_error.NumbersError.TheVariants as errors
use Rattle.tk_ntp.specs.Lag.{lag_in}
use Rattle.tk_ntp.specs.Leap.{LeapPlan, state_numbered, due_if}
use Rattle.tk_ntp.specs.Length.{max_phase, max_frequency}
use Rattle.tk_ntp.specs.Ntp.{Ntp}
use Rattle.tk_ntp.specs.Request.{error_limit, greatest_constant}
use Rattle.tk_ntp.specs.SteeredClock.{SteeredClock}
use Rattle.tk_ntp.specs.Steering.{Steered}

-- whether a discipline's offset, frequency and phase are in their ranges
unfoldable pub are_short : ℕ → ℤ → ℤ → ℤ → Bool
are_short hz offset frequency phase =
    nat_le (unsigned_abs offset) (max_phase / hz)
    && nat_le (unsigned_abs frequency) max_frequency
    && nat_le (unsigned_abs phase) (max_phase / hz + max_frequency / hz)

-- whether the numbers of a discipline that have no sign, without `hz` and its leap second, are in
-- their ranges
unfoldable pub are_low : DisciplineNumbers → Bool
are_low numbers =
    nat_le numbers.constant greatest_constant
    && nat_le numbers.maxerror error_limit && nat_le numbers.esterror error_limit
    && nat_le 9000 numbers.tick && nat_le numbers.tick 11000
    && nat_lt numbers.reftime (2 ^ 63)

-- whether the numbers of a discipline, without its leap second, are in their ranges
unfoldable pub are_in_range : DisciplineNumbers → Bool
are_in_range numbers =
    nat_lt 0 numbers.hz && nat_le numbers.hz 1024 && are_low numbers
    && are_short numbers.hz numbers.offset numbers.frequency numbers.phase

-- whether numbers are those of a plan: the number of a state, and either 1 and the second of a leap
-- or 0 and 0
unfoldable pub is_plan : LeapNumbers → Bool
is_plan numbers =
    nat_le numbers.state 4 && nat_le numbers.is_due 1
    && (nat_eq numbers.is_due 1 || nat_eq numbers.due 0)

-- whether two words are those of a lag: at most 2^123 in either direction, plus 2^124
unfoldable pub is_lag : LagNumbers → Bool
is_lag numbers =
    nat_le (2 ^ 123) (numbers.high * 2 ^ 64 + numbers.low)
    && nat_le (numbers.high * 2 ^ 64 + numbers.low) (3 * 2 ^ 123)

-- the plan of a leap second in its numbers
abbrev pub plan_of : LeapNumbers → LeapPlan
plan_of numbers = record {
  state = state_numbered numbers.state;
  due = due_if (nat_eq numbers.is_due 1) numbers.due;
}

-- the discipline in its numbers
abbrev pub discipline_of : DisciplineNumbers → Ntp
discipline_of numbers = record {
  hz = numbers.hz;
  status = numbers.status;
  plan = plan_of numbers.plan;
  offset = numbers.offset;
  constant = numbers.constant;
  maxerror = numbers.maxerror;
  esterror = numbers.esterror;
  tick = numbers.tick;
  frequency = numbers.frequency;
  reftime = numbers.reftime;
  adjust = numbers.adjust;
  phase = numbers.phase;
}

-- the lag in its two words
abbrev pub lag_of : LagNumbers → ℤ
lag_of numbers = lag_in numbers.high numbers.low

-- the discipline and its lag in their numbers
abbrev pub steering_of : SteeringNumbers → Steered
steering_of numbers = record { ntp = discipline_of numbers.ntp; lag = lag_of numbers.lag }

-- these clocks, steered by the discipline in the numbers
abbrev pub steered_of : State → SteeredNumbers → SteeredClock
steered_of clock numbers = record {
  clock = clock;
  steering = steering_of numbers.steering;
  next = numbers.next;
  last_account = numbers.last_account;
}

-- these clocks, steered by the discipline in the numbers, or the first part of them that isn't in
-- its range
abbrev pub steered_from : State → SteeredNumbers → Result SteeredClock NumbersError
steered_from clock numbers =
    if not (are_in_range numbers.steering.ntp) then Err errors.Discipline
    else if not (is_plan numbers.steering.ntp.plan) then Err errors.Leap
    else if not (is_lag numbers.steering.lag) then Err errors.Lag
    else if nat_lt (clock_end + 1) numbers.next then Err errors.Second
    else Ok (steered_of clock numbers)
