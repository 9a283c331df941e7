-- The numbers of a discipline in the record `openwords`: the eighteen fields after those of running
-- clocks, in the order of their records in tk_ntp. They may be any numbers.
use Rattle.std.specs.Prelude.{ℕ, List, Result, Ok}
use Rattle.tk_ntp.specs.declared.numbers.DisciplineNumbers.{DisciplineNumbers}
use Rattle.tk_ntp.specs.declared.numbers.LagNumbers.{LagNumbers}
use Rattle.tk_ntp.specs.declared.numbers.LeapNumbers.{LeapNumbers}
use Rattle.tk_ntp.specs.declared.numbers.SteeredNumbers.{SteeredNumbers}
use Rattle.tk_ntp.specs.declared.numbers.SteeringNumbers.{SteeringNumbers}
use Rattle.tk_script.specs.Field.{◌>>=◌, number_at, number8_at, number32_at, signed_at}
use Rattle.tk_script.specs.declared.script_error.ScriptError.{ScriptError}

-- the plan of a leap second
unfoldable pub plan_of : List (List ℕ) → Result LeapNumbers ScriptError
plan_of fields = do
  state ← number32_at 1 fields 18
  is_due ← number8_at 1 fields 19
  due ← number_at 1 fields 20
  Ok (record { state = state; is_due = is_due; due = due })

-- the discipline, in the units of tk_ntp
abbrev pub discipline_of : List (List ℕ) → Result DisciplineNumbers ScriptError
discipline_of fields = do
  hz ← number32_at 1 fields 16
  status ← number32_at 1 fields 17
  plan ← plan_of fields
  offset ← signed_at 1 fields 21
  constant ← number32_at 1 fields 22
  maxerror ← number32_at 1 fields 23
  esterror ← number32_at 1 fields 24
  tick ← number32_at 1 fields 25
  frequency ← signed_at 1 fields 26
  reftime ← number_at 1 fields 27
  adjust ← signed_at 1 fields 28
  phase ← signed_at 1 fields 29
  Ok (record {
    hz = hz;
    status = status;
    plan = plan;
    offset = offset;
    constant = constant;
    maxerror = maxerror;
    esterror = esterror;
    tick = tick;
    frequency = frequency;
    reftime = reftime;
    adjust = adjust;
    phase = phase;
  })

-- the two words of the lag
abbrev pub lag_of : List (List ℕ) → Result LagNumbers ScriptError
lag_of fields = do
  high ← number_at 1 fields 30
  low ← number_at 1 fields 31
  Ok (record { high = high; low = low })

-- the discipline and its lag
abbrev pub steering_of : List (List ℕ) → Result SteeringNumbers ScriptError
steering_of fields = do
  ntp ← discipline_of fields
  lag ← lag_of fields
  Ok (record { ntp = ntp; lag = lag })

-- these, the second of REALTIME that begins next, and the reading up to which the lag is accounted
-- for, in cycles
unfoldable pub numbers_of : List (List ℕ) → Result SteeredNumbers ScriptError
numbers_of fields = do
  steering ← steering_of fields
  next ← number_at 1 fields 32
  last_account ← number_at 1 fields 33
  Ok (record { steering = steering; next = next; last_account = last_account })
