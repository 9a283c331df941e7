-- The result of reading a journal's clocks (clock_gettime(2)).
use Rattle.std.specs.Prelude.{◌≡◌, ℕ, ◌^◌, ◌<◌, ℤ, pos, ◌≤ℤ◌, not, nat_lt, int_lt, Option, Some, None, Result, MatchResult, if◌then◌else◌}
use Rattle.tk_counter.specs.Counter.{mask}
use Rattle.tk_clock.specs.declared.clock_id.ClockId.{ClockId}
use Rattle.tk_clock.specs.declared.refusal.ReadError.{ReadError}
use Rattle.tk_clock.specs.declared.refusal.ReadError.TheVariants.{Invalid, Range}
use Rattle.tk_clock.specs.declared.timespec.Timespec.{Timespec}
use Rattle.tk_clock.specs.Clocks.{clock_value}
use Rattle.tk_clock.specs.Journal.{Journal}
use Rattle.tk_clock.specs.Limits.{limit}
use Rattle.tk_clock.specs.Time.{nanoseconds}

-- why a clock of a journal can't be read: the reading is above the mask, or the clock is at its
-- limit or past it
abbrev pub read_fault : Journal → ClockId → ℕ → Option ReadError
read_fault journal clock reading =
    if nat_lt (mask journal.opening.counter) reading then Some Invalid
    else if not (int_lt (clock_value journal clock reading) (limit clock)) then Some Range
    else None

-- the time of a number of nanoseconds that is not negative, as whole seconds and nanoseconds below
-- a second
abbrev pub IsTimeOf : ℤ → Timespec → Type 0
IsTimeOf nanos time = (nanoseconds time ≡ nanos) × (time.nsec < 10 ^ 9) × (pos 0 ≤ℤ time.sec)

-- the result of reading a clock of a journal at a reading: its time, or why it can't be read
abbrev pub IsRead : Journal → ClockId → ℕ → Result Timespec ReadError → Type 0
IsRead journal clock reading result =
    MatchResult result
    (λ time. (read_fault journal clock reading ≡ None)
    × IsTimeOf (clock_value journal clock reading) time)
    (λ error. read_fault journal clock reading ≡ Some error)
