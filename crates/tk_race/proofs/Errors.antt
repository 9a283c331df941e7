-- The reasons why a race is not run.
use Rattle.std.proofs.Common.{◌≡◌, ℕ, ◌≤◌, Bool, true, false, refl}
use Rattle.std.specs.Prelude.{Some, None, Result, Ok, Err, MatchResult, not, nat_lt, ◌||◌, if◌then◌else◌}
use borrow.Author.Tests.{ltb-false}
use Rattle.std.proofs.lemmas.Bool.{le-ltb}
use Rattle.tk_counter.specs.Counter.{Counter, mask}
use Rattle.tk_clock.specs.declared.timespec.Timespec.{Timespec}
use Rattle.tk_clock.specs.declared.refusal.Refusal.TheVariants as refusals
use Rattle.tk_clock.specs.Limits.{is_settable}
use Rattle.tk_clock.specs.Refusal.{opening_refusal}
use Rattle.tk_shared.specs.declared.fault.OpenError.TheVariants as faults
use Rattle.tk_shared.specs.Opening.{opening_fault, most_callers}
use Rattle.tk_race.specs.declared.race_error.RaceError.{RaceError}
use Rattle.tk_race.specs.declared.race_error.RaceError.TheVariants.{Count, Invalid, Memory, Threads}
use Rattle.tk_race.specs.RaceError.{IsLate, IsRaceError, race_error}

split : (few many good above : Bool) →
    (if few || many then Some faults.Count
    else if not good then Some faults.Invalid else None) ≡ None → above ≡ false →
    (if few || many then Some Count
    else if above || not good then Some Invalid else None) ≡ None
split true many good above stated low = absurd (cc stated)
split false true good above stated low = absurd (cc stated)
split false false false above stated low = absurd (cc stated)
split false false true true stated low = absurd (cc low)
split false false true false stated low = refl

first_false : (above bad : Bool) → (if above || bad then Some refusals.Invalid else None) ≡ None →
    above ≡ false
first_false true bad stated = absurd (cc stated)
first_false false bad stated = refl

-- clocks that can be opened at a reading are opened at one of their counter
pub within_mask : (counter : Counter) (reading : ℕ) (real : Timespec) →
    opening_refusal counter reading real ≡ None → reading ≤ mask counter
within_mask counter reading real none =
    ltb-false (mask counter) reading
    (first_false (nat_lt (mask counter) reading) (not (is_settable real)) none)

-- the race has no error, if the keeper can be prepared and the counter can have the reading
pub nothing_wrong : (actors : ℕ) (counter : Counter) (reading : ℕ) (real : Timespec) →
    opening_fault actors real ≡ None → reading ≤ mask counter →
    race_error actors counter reading real ≡ None
nothing_wrong actors counter reading real none low =
    split (nat_lt actors 1) (nat_lt most_callers actors) (is_settable real)
    (nat_lt (mask counter) reading) none (le-ltb (mask counter) reading low)

-- after that, only `Memory` and `Threads` may be returned
late : (actors : ℕ) (counter : Counter) (reading : ℕ) (real : Timespec) (error : RaceError) →
    race_error actors counter reading real ≡ None → IsLate error →
    IsRaceError actors counter reading real error
late actors counter reading real Count none is = absurd is
late actors counter reading real Invalid none is = absurd is
late actors counter reading real Memory none is = none
late actors counter reading real Threads none is = none

pub answered : {T : Type 0} (actors : ℕ) (counter : Counter) (reading : ℕ) (real : Timespec)
    (P Q : T → Type 0) (result : Result T RaceError) →
    race_error actors counter reading real ≡ None → ((report : T) → P report → Q report) →
    MatchResult result P IsLate →
    MatchResult result Q (λ error. IsRaceError actors counter reading real error)
answered actors counter reading real P Q (Ok report) none more stated = more report stated
answered actors counter reading real P Q (Err error) none more stated =
    late actors counter reading real error none stated
