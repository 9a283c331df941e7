-- The record `openwords`: the first record of a script that begins from running clocks, and perhaps
-- from a discipline that steers them.
use Rattle.std.specs.Option.{ok_or}
use Rattle.std.specs.Prelude.{ℕ, ◌*◌, ℤ, List, [], ◌∷◌, length, Bool, ◌&&◌, nat_le, int_le, ◌==◌, Option, Some, None, Result, Ok, Err, if◌then◌else◌}
use Rattle.tk_counter.specs.Counter.{Counter, multiplier, least_tick, greatest_tick}
use Rattle.tk_clock.specs.Running.{slowest}
use Rattle.tk_clock.specs.Snapshot.{Snapshot}
use Rattle.tk_clock.specs.State.{ReadBase, State}
use Rattle.tk_clock.specs.Words.{restored}
use Rattle.tk_ntp.specs.declared.numbers.SteeredNumbers.{SteeredNumbers}
use Rattle.tk_ntp.specs.declared.numbers_error.NumbersError.{NumbersError}
use Rattle.tk_ntp.specs.Restored.{steered_from}
use Rattle.tk_ntp.specs.SteeredClock.{SteeredClock}
use Rattle.tk_script.specs.Field.{◌>>=◌, number_at, number32_at, signed_at}
use Rattle.tk_script.specs.Counters.{counter_of}
use Rattle.tk_script.specs.DisciplineFields.{numbers_of}
use Rattle.tk_script.specs.Start.{most_front}
use Rattle.tk_script.specs.declared.opening.Start.{Start}
use Rattle.tk_script.specs.declared.opening.Start.TheVariants.{Running, Continued}
use Rattle.tk_script.specs.declared.opening.Telling.TheVariants as tellings
use Rattle.tk_script.specs.declared.script_error.ScriptError.{ScriptError}
use Rattle.tk_script.specs.declared.script_error.ScriptError.TheVariants as errors

-- whether clocks of a snapshot run at this frequency (2^-16 ppm) and tick (microseconds): the
-- multiplier follows from them, and MONOTONIC_RAW is at most MONOTONIC at the slowest rate
unfoldable pub is_running : ReadBase → ℤ → ℤ → Bool
is_running base frequency tick =
    int_le least_tick tick && int_le tick greatest_tick
    && base.mult == multiplier base.counter frequency tick
    && nat_le (base.raw_amount * slowest base.counter) (base.amount * base.counter.mult)

-- the clocks of a snapshot at this frequency and tick, and the number of commands that they have
-- accepted, if running clocks can be in this state and that number is at most 2^62
abbrev pub running_from : ℤ → ℤ → Option Snapshot → Option (State × ℕ)
running_from frequency tick None = None
running_from frequency tick (Some snapshot) =
    if nat_le snapshot.front most_front && is_running snapshot.base frequency tick
    then Some (record { base = snapshot.base; frequency = frequency; tick = tick }, snapshot.front)
    else None

-- the clocks of these words (those of a snapshot), frequency and tick, and that number
abbrev pub clocks_from : Counter → List ℕ → ℤ → ℤ → Result (State × ℕ) ScriptError
clocks_from counter words frequency tick =
    ok_or (running_from frequency tick (restored counter words)) (errors.Opening 1)

-- ten words in the fields after the counter's
unfoldable pub words_of_fields : List (List ℕ) → Result (List ℕ) ScriptError
words_of_fields fields = do
  front ← number_at 1 fields 4
  last ← number_at 1 fields 5
  mult ← number_at 1 fields 6
  frac ← number_at 1 fields 7
  sec ← number_at 1 fields 8
  real_offset ← number_at 1 fields 9
  boot_offset ← number_at 1 fields 10
  tai ← number_at 1 fields 11
  raw_frac ← number_at 1 fields 12
  raw_sec ← number_at 1 fields 13
  Ok (front ∷ last ∷ mult ∷ frac ∷ sec ∷ real_offset ∷ boot_offset ∷ tai ∷ raw_frac ∷ raw_sec ∷ [])

-- the running clocks in these fields: a keyword, bits, mult and shift, the ten words of a snapshot,
-- a frequency and a tick
unfoldable pub clocks_of : List (List ℕ) → Result (State × ℕ) ScriptError
clocks_of fields = do
  bits ← number32_at 1 fields 1
  mult ← number32_at 1 fields 2
  shift ← number32_at 1 fields 3
  words ← words_of_fields fields
  frequency ← signed_at 1 fields 14
  tick ← signed_at 1 fields 15
  counter ← counter_of tellings.Scale bits mult shift
  clocks_from counter words frequency tick

-- the beginning with running clocks that no discipline steers
abbrev pub unsteered_of : List (List ℕ) → Result Start ScriptError
unsteered_of fields = clocks_of fields >>= λ clocks. Ok (Running clocks.0 clocks.1)

-- the beginning with steered clocks, if their numbers gave them
abbrev pub continued_if : ℕ → Result SteeredClock NumbersError → Result Start ScriptError
continued_if front (Ok steered) = Ok (Continued steered front)
continued_if front (Err fault) = Err (errors.Opening 1)

-- the beginning with these clocks and the discipline in the numbers, if each number is in its range
abbrev pub continued : State → ℕ → SteeredNumbers → Result Start ScriptError
continued clock front numbers = continued_if front (steered_from clock numbers)

-- the beginning with running clocks and the numbers of their discipline. All fields that aren't
-- numbers give the same fault, before clocks that can't run
unfoldable pub steered_of : List (List ℕ) → Result Start ScriptError
steered_of fields =
    numbers_of fields >>= λ numbers. (clocks_of fields >>= λ clocks.
    continued clocks.0 clocks.1 numbers)

-- the beginning in the fields of `openwords`: 16 without a discipline, and 34 with one
unfoldable pub running_of : List (List ℕ) → Result Start ScriptError
running_of fields =
    if length fields == 16 then unsteered_of fields
    else if length fields == 34 then steered_of fields
    else Err (errors.Fields 1)
