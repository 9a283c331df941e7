-- The life of a snapshot: the readings for which it may be used.
use Rattle.std.specs.Prelude.{◌≡◌, ◌⊎◌, ℕ, ◌+◌, ◌<◌, ◌≤◌, true, length}
use Rattle.tk_counter.specs.Counter.{half, gap}
use Rattle.tk_clock.specs.Journal.{Journal, prefix, reading_at, is_asleep_at}
use Rattle.tk_clock.specs.Monotonic.{monotonic}

-- a reading after the first n entries is in their life if it is no later than the next entry's
-- reading. Any reading is in their life if there is no next entry, if the clocks are asleep there,
-- or if the reading is behind the n-th entry's
abbrev pub IsInLife : Journal → ℕ → ℕ → Type 0
IsInLife journal n reading =
    (n ≡ length journal.entries) ⊎ (is_asleep_at journal n ≡ true)
    ⊎ (half journal.opening.counter < gap journal.opening.counter (reading_at journal n) reading)
    ⊎ (gap journal.opening.counter (reading_at journal n) reading
    ≤ gap journal.opening.counter (reading_at journal n) (reading_at journal (n + 1)))

-- MONOTONIC of a shorter prefix, read in its life, is at most MONOTONIC of the journal at any
-- reading
abbrev pub NeverFalls : Journal → Type 0
NeverFalls journal =
    (n reading reading' : ℕ) → n < length journal.entries → IsInLife journal n reading →
    monotonic (prefix n journal) reading ≤ monotonic journal reading'
