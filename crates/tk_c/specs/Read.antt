-- The time of a clock at a reading, as a C caller gets it.
use Rattle.std.specs.Prelude.{◌≡◌, ℕ, ◌<◌, ◌^◌, pos, ◌≤ℤ◌, MatchOption}
use Rattle.tk_clock.specs.declared.clock_id.ClockId.{ClockId}
use Rattle.tk_clock.specs.Refusal.{read_refusal}
use Rattle.tk_clock.specs.State.{ReadBase, base_value}
use Rattle.tk_clock.specs.Time.{nanoseconds}
use Rattle.tk_c.specs.Codes.{number_of, code_of_read}
use Rattle.tk_c.specs.Named.{clock_named}
use Rattle.tk_c.specs.Storage.{stored_time}
use Rattle.tk_c.specs.declared.code.Code.TheVariants.{Done, BadClock}
use Rattle.tk_c.specs.declared.storage.TimeStorage.{TimeStorage}

-- the clock's time is written, or the read is refused, and nothing is written
abbrev pub IsRead : ReadBase → ClockId → ℕ → TimeStorage → TimeStorage → ℕ → Type 0
IsRead base clock reading old new code = MatchOption (read_refusal base clock reading)
    ((code ≡ number_of Done)
    × (nanoseconds (stored_time new) ≡ base_value base clock reading)
    × (new.nsec < 10 ^ 9) × (pos 0 ≤ℤ new.sec) × (new.padding ≡ 0))
    (λ refusal. (code ≡ number_of (code_of_read refusal)) × (new ≡ old))

-- the answer for a clock's number
abbrev pub IsReadBy : ReadBase → ℕ → ℕ → TimeStorage → TimeStorage → ℕ → Type 0
IsReadBy base clock reading old new code = MatchOption (clock_named clock)
    ((code ≡ number_of BadClock) × (new ≡ old))
    (λ named. IsRead base named reading old new code)
