-- The readings of a counter that counts its reads.
use Rattle.std.specs.Prelude.{◌≡◌, ℕ, ◌+◌, ◌*◌, ◌%◌, ◌^◌}
use Rattle.tk_now.specs.declared.counter.SharedTicker.{SharedTicker}

-- a reading is the first one plus a whole number of steps, modulo 2^64. If the step is odd, every
-- number below 2^64 is such a reading
abbrev pub IsTick : SharedTicker → ℕ → Type 0
IsTick ticker reading =
    (steps : ℕ) × (reading ≡ (ticker.start + steps * ticker.step) % 2 ^ 64)
