-- The reasons why a race is not run, and their texts.
use Rattle.std.specs.Prelude.{◌≡◌, ℕ, List, codes, nat_lt, not, ◌||◌, Option, Some, None, if◌then◌else◌}
use Rattle.tk_counter.specs.Counter.{Counter, mask}
use Rattle.tk_clock.specs.declared.timespec.Timespec.{Timespec}
use Rattle.tk_clock.specs.Limits.{is_settable}
use Rattle.tk_shared.specs.declared.fault.OpenError.{OpenError}
use Rattle.tk_shared.specs.declared.fault.OpenError.TheVariants as faults
use Rattle.tk_shared.specs.Opening.{most_callers}
use Rattle.tk_race.specs.declared.race_error.RaceError.{RaceError}
use Rattle.tk_race.specs.declared.race_error.RaceError.TheVariants.{Count, Invalid, Memory, Threads}

-- the greatest number of actors of a race: every actor is a caller of the keeper
abbrev pub most_actors : ℕ
most_actors = most_callers

-- the error of a race with `actors` actors, on clocks opened at this reading with this REALTIME, if
-- there is one
abbrev pub race_error : ℕ → Counter → ℕ → Timespec → Option RaceError
race_error actors counter reading real =
    if nat_lt actors 1 || nat_lt most_actors actors then Some Count
    else if nat_lt (mask counter) reading || not (is_settable real) then Some Invalid
    else None

-- the error may be returned: `Memory` and `Threads` only if the race has no other error
abbrev pub IsRaceError : ℕ → Counter → ℕ → Timespec → RaceError → Type 0
IsRaceError actors counter reading real Memory = race_error actors counter reading real ≡ None
IsRaceError actors counter reading real Threads = race_error actors counter reading real ≡ None
IsRaceError actors counter reading real error = race_error actors counter reading real ≡ Some error

-- the error for a fault of the keeper's opening
abbrev pub error_of : OpenError → RaceError
error_of faults.Count = Count
error_of faults.Invalid = Invalid
error_of faults.Memory = Memory

-- the errors that can still occur after the arguments of a race were tested
abbrev pub IsLate : RaceError → Type 0
IsLate Memory = Unit {0}
IsLate Threads = Unit {0}
IsLate _ = ⊥

-- the text of an error
abbrev pub error_text : RaceError → List ℕ
error_text Count = codes "count out of range"
error_text Invalid = codes "invalid opening"
error_text Memory = codes "out of memory"
error_text Threads = codes "cannot start a thread"
