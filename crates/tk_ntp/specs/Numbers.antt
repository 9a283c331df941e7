-- The numbers that a discipline is kept in.
use Rattle.std.specs.Prelude.{◌/◌, ◌%◌, ◌^◌, ℤ, ◌-ℤ◌, unsigned_abs, if◌then◌else◌}
use Rattle.tk_ntp.specs.declared.numbers.LagNumbers.{LagNumbers}
use Rattle.tk_ntp.specs.declared.numbers.LeapNumbers.{LeapNumbers}
use Rattle.tk_ntp.specs.declared.numbers.DisciplineNumbers.{DisciplineNumbers}
use Rattle.tk_ntp.specs.declared.numbers.SteeringNumbers.{SteeringNumbers}
use Rattle.tk_ntp.specs.declared.numbers.SteeredNumbers.{SteeredNumbers}
use Rattle.tk_ntp.specs.Course.{Course, course_of}
use Rattle.tk_ntp.specs.Lag.{least_lag}
use Rattle.tk_ntp.specs.Leap.{LeapPlan, number_of, is_due_in, due_in}
use Rattle.tk_ntp.specs.Ntp.{Ntp}
use Rattle.tk_ntp.specs.SteeredClock.{SteeredClock}
use Rattle.tk_ntp.specs.Steering.{Steered}

-- a lag
abbrev pub lag_numbers : ℤ → LagNumbers
lag_numbers lag = record {
  high = unsigned_abs (lag -ℤ least_lag) / 2 ^ 64;
  low = unsigned_abs (lag -ℤ least_lag) % 2 ^ 64;
}

-- the plan of a leap second
abbrev pub leap_numbers : LeapPlan → LeapNumbers
leap_numbers plan = record {
  state = number_of plan.state;
  is_due = if is_due_in plan.due then 1 else 0;
  due = due_in plan.due;
}

-- a discipline
abbrev pub discipline_numbers : Ntp → DisciplineNumbers
discipline_numbers ntp = record {
  hz = ntp.hz;
  status = ntp.status;
  plan = leap_numbers ntp.plan;
  offset = ntp.offset;
  constant = ntp.constant;
  maxerror = ntp.maxerror;
  esterror = ntp.esterror;
  tick = ntp.tick;
  frequency = ntp.frequency;
  reftime = ntp.reftime;
  adjust = ntp.adjust;
  phase = ntp.phase;
}

-- a discipline with its lag
abbrev pub steering_numbers : Steered → SteeringNumbers
steering_numbers steered = record {
  ntp = discipline_numbers steered.ntp;
  lag = lag_numbers steered.lag;
}

-- the course of a discipline
abbrev pub course_numbers : Course → SteeredNumbers
course_numbers course = record {
  steering = steering_numbers course.steering;
  next = course.next;
  last_account = course.last_account;
}

-- steered clocks, without their clocks
abbrev pub steered_numbers : SteeredClock → SteeredNumbers
steered_numbers steered = course_numbers (course_of steered)
