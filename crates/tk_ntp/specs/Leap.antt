-- The leap second as a second of REALTIME begins (second_overflow, kernel/time/ntp.c).
use Rattle.std.specs.Prelude.{◌≡◌, ℕ, ◌+◌, ◌-◌, ◌%◌, ℤ, pos, negsuc, Bool, true, false, not, ◌&&◌, ◌||◌, nat_eq, nat_lt, Option, Some, None, if◌then◌else◌}
use Rattle.std.proofs.Common.{refl}
use Rattle.tk_clock.specs.declared.command.Command.{Command}
use Rattle.tk_clock.specs.declared.command.Command.TheVariants.{Step, Leap as LeapSecond}
use Rattle.tk_clock.specs.Limits.{greatest_tai}
use Rattle.tk_ntp.specs.declared.leap.Leap.{Leap}
use Rattle.tk_ntp.specs.declared.leap.Leap.TheVariants.{None as NoLeap, Insert, Delete}
use Rattle.tk_ntp.specs.declared.leap_plan.LeapState.{LeapState}
use Rattle.tk_ntp.specs.declared.leap_plan.LeapState.TheVariants.{Idle, Inserting, Deleting, InProgress, Over}

-- what the leap second is doing, and the second of REALTIME whose beginning is the leap
pub record LeapPlan : Type 0 where
  pub state : LeapState
  pub due : Option ℕ

-- the number of a state
abbrev pub number_of : LeapState → ℕ
number_of Idle = 0
number_of Inserting = 1
number_of Deleting = 2
number_of InProgress = 3
number_of Over = 4

-- the state with a number
abbrev pub state_numbered : ℕ → LeapState
state_numbered number =
    if nat_eq number 0 then Idle
    else if nat_eq number 1 then Inserting
    else if nat_eq number 2 then Deleting
    else if nat_eq number 3 then InProgress
    else Over

-- a second at which a leap is due, if a test holds
abbrev pub due_if : Bool → ℕ → Option ℕ
due_if true due = Some due
due_if false due = None

-- whether a leap is due, and the second at which it is, or 0
abbrev pub is_due_in : Option ℕ → Bool
is_due_in (Some due) = true
is_due_in None = false

abbrev pub due_in : Option ℕ → ℕ
due_in (Some due) = due
due_in None = 0

pub due_if-is_due : (test : Bool) (due : ℕ) → is_due_in (due_if test due) ≡ test
due_if-is_due true due = refl
due_if-is_due false due = refl

-- the numbers of a plan: the number of a state, and 0 if no leap is due
pub record IsPlanned (number : ℕ) (test : Bool) (due : ℕ) : Type 0 where
  pub numbered : number_of (state_numbered number) ≡ number
  pub zero_if_none : due_in (due_if test due) ≡ due

-- what a leap adds to REALTIME, in seconds
abbrev pub leap_seconds : Leap → ℤ
leap_seconds NoLeap = pos 0
leap_seconds Insert = negsuc 0
leap_seconds Delete = pos 1

-- whether REALTIME leaps
abbrev pub is_leap : Leap → Bool
is_leap NoLeap = false
is_leap Insert = true
is_leap Delete = true

-- the second that begins next after a leap, if it was `sec` before it
abbrev pub second_after_leap : Leap → ℕ → ℕ
second_after_leap NoLeap sec = sec
second_after_leap Insert sec = sec - 1
second_after_leap Delete sec = sec + 1

-- the TAI offset after a leap, so that TAI runs on; it stays in its range, from 0 to greatest_tai
abbrev pub tai_after_leap : Leap → ℕ → ℕ
tai_after_leap NoLeap tai = tai
tai_after_leap Insert tai = if nat_lt tai greatest_tai then tai + 1 else tai
tai_after_leap Delete tai = tai - 1

-- the command that makes a leap, at the TAI offset in force: it changes REALTIME and the TAI offset
-- together. An offset at the end of its range stays, and then the command only steps REALTIME
abbrev pub leap_command : Leap → ℕ → Command
leap_command leap tai =
    if nat_eq (tai_after_leap leap tai) tai
    then Step (record { sec = leap_seconds leap; nsec = 0 })
    else LeapSecond (leap_seconds leap) (pos (tai_after_leap leap tai))

-- no leap second is announced
abbrev pub no_plan : LeapPlan
no_plan = record { state = Idle; due = None }

-- the leap second is over
abbrev pub over : LeapPlan
over = record { state = Over; due = None }

-- the plan that the status announces: an insertion as the next day begins, or a deletion as the
-- last second of this day does
abbrev pub announced : LeapPlan → Bool → Bool → ℕ → LeapPlan
announced plan insert delete sec =
    if insert then record { state = Inserting; due = Some (sec + 86400 - sec % 86400) }
    else if delete then record { state = Deleting; due = Some (sec + 86400 - (sec + 1) % 86400) }
    else plan

-- whether the leap is due at a second
abbrev pub is_due : Option ℕ → ℕ → Bool
is_due (Some due) sec = nat_eq due sec
is_due None sec = false

-- the plan after a second has begun, by the plan's state and by what the status asks for
abbrev pub plan_in : LeapState → LeapPlan → Bool → Bool → ℕ → LeapPlan
plan_in Idle plan insert delete sec = announced plan insert delete sec
plan_in Inserting plan insert delete sec =
    if not insert then no_plan
    else if is_due plan.due sec then record plan { state = InProgress }
    else plan
plan_in Deleting plan insert delete sec =
    if not delete then no_plan else if is_due plan.due sec then over else plan
plan_in InProgress plan insert delete sec = over
plan_in Over plan insert delete sec =
    if insert || delete then plan else record plan { state = Idle }

-- the leap that comes with the second
abbrev pub leap_in : LeapState → LeapPlan → Bool → Bool → ℕ → Leap
leap_in Idle plan insert delete sec = NoLeap
leap_in Inserting plan insert delete sec = if insert && is_due plan.due sec then Insert else NoLeap
leap_in Deleting plan insert delete sec = if delete && is_due plan.due sec then Delete else NoLeap
leap_in InProgress plan insert delete sec = NoLeap
leap_in Over plan insert delete sec = NoLeap
