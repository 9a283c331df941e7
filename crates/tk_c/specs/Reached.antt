-- The reading at which a clock reaches a time, as a C caller gets it.
use Rattle.std.specs.Prelude.{◌≡◌, ◌⊎◌, ℕ, ℤ, ⊤, MatchOption, Some}
use Rattle.tk_clock.specs.declared.clock_id.ClockId.{ClockId}
use Rattle.tk_clock.specs.Further.{IsFurther}
use Rattle.tk_clock.specs.Reach.{IsFirstReached, IsNeverReached, IsReadAt, GivesAgain}
use Rattle.tk_clock.specs.State.{ReadBase}
use Rattle.tk_c.specs.Codes.{number_of}
use Rattle.tk_c.specs.Named.{clock_named}
use Rattle.tk_c.specs.declared.code.Code.TheVariants.{Done, BadClock, Further, Never}

-- the first reading at which the clock has reached the time is written. Or there is none, and
-- nothing is written: the time is further away, or the clock doesn't reach it
abbrev pub IsReached : ReadBase → ClockId → ℤ → ℕ → ℕ → ℕ → Type 0
IsReached base clock nanos old new code =
    ((code ≡ number_of Done) × IsFirstReached base clock nanos new)
    ⊎ ((code ≡ number_of Further) × (new ≡ old) × IsFurther base clock nanos)
    ⊎ ((code ≡ number_of Never) × (new ≡ old) × IsNeverReached base clock nanos
    × ¬ IsFurther base clock nanos)

-- the answer for a clock's number
abbrev pub IsReachedBy : ReadBase → ℕ → ℤ → ℕ → ℕ → ℕ → Type 0
IsReachedBy base clock nanos old new code = MatchOption (clock_named clock)
    ((code ≡ number_of BadClock) × (new ≡ old))
    (λ named. IsReached base named nanos old new code)

-- a time that a read gives is read again at the written reading, which is no further ahead
abbrev pub IsReachedAgain : ReadBase → ℕ → ℤ → ℕ → ℕ → Type 0
IsReachedAgain base clock nanos new code = MatchOption (clock_named clock) ⊤
    (λ named. (reading : ℕ) → IsReadAt base named nanos reading →
    (code ≡ number_of Done) × GivesAgain base named nanos reading (Some new))
