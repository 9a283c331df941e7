-- A step of REALTIME that isn't made, as a C caller gets its result (timekeeping_inject_offset,
-- kernel/time/timekeeping.c).
use Rattle.std.specs.Prelude.{◌≡◌, ◌<◌, ◌^◌, ℕ, ℤ, pos, ◌+ℤ◌, ◌≤ℤ◌, Option, MatchOption}
use Rattle.tk_clock.specs.declared.clock_id.ClockId.TheVariants.{Realtime}
use Rattle.tk_clock.specs.declared.command.Command.TheVariants.{Step}
use Rattle.tk_clock.specs.declared.refusal.Refusal.{Refusal}
use Rattle.tk_clock.specs.declared.timespec.Timespec.{Timespec}
use Rattle.tk_clock.specs.Refusal.{first_of, early_refusal, value_refusal}
use Rattle.tk_clock.specs.State.{ReadBase, base_value}
use Rattle.tk_clock.specs.Time.{nanoseconds}
use Rattle.tk_c.specs.Codes.{number_of, code_of_refusal}
use Rattle.tk_c.specs.Storage.{stored_time}
use Rattle.tk_c.specs.declared.code.Code.TheVariants.{Done}
use Rattle.tk_c.specs.declared.storage.TimeStorage.{TimeStorage}

-- why clocks with this base refuse a step at a reading. A step moves REALTIME and TAI only, so
-- MONOTONIC and BOOTTIME are tested by their values at the reading
abbrev pub step_refusal : ReadBase → ℕ → Timespec → Option Refusal
step_refusal base reading by =
    first_of (early_refusal base.counter base.asleep base.last reading (Step by))
    (value_refusal (λ clock. base_value base clock reading) (λ clock. base_value base clock reading)
    (Step by))

-- a storage contains a time
abbrev pub IsStored : TimeStorage → ℤ → Type 0
IsStored storage nanos =
    (nanoseconds (stored_time storage) ≡ nanos)
    × (storage.nsec < 10 ^ 9) × (pos 0 ≤ℤ storage.sec) × (storage.padding ≡ 0)

-- REALTIME at the reading is written, as it is without the step and as the step makes it; or the
-- step is refused, and nothing is written
abbrev pub IsStepped : ReadBase → ℕ → Timespec → TimeStorage → TimeStorage → TimeStorage →
    TimeStorage → ℕ → Type 0
IsStepped base reading by old_before old_after before after code =
    MatchOption (step_refusal base reading by)
    ((code ≡ number_of Done) × IsStored before (base_value base Realtime reading)
    × IsStored after (base_value base Realtime reading +ℤ nanoseconds by))
    (λ refusal. (code ≡ number_of (code_of_refusal refusal))
    × (before ≡ old_before) × (after ≡ old_after))
