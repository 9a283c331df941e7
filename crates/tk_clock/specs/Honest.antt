-- An honest counter: its readings come from true counts of cycles.
use Rattle.std.specs.Prelude.{◌≡◌, ℕ, zero, suc, ◌+◌, ◌-◌, ◌%◌, ◌^◌, ◌≤◌, false, length, if◌then◌else◌}
use Rattle.tk_counter.specs.Counter.{half}
use Rattle.tk_clock.specs.Journal.{Journal, reading_at, is_asleep_at}

-- the reading at each place is the true count there, modulo 2^bits; while the clocks are awake, the
-- count never falls, and grows by at most half the mask from one place to the next
pub record IsHonest (journal : Journal) (count : ℕ → ℕ) : Type 0 where
  pub read : (place : ℕ) → place ≤ length journal.entries →
      reading_at journal place ≡ count place % 2 ^ journal.opening.counter.bits
  pub grows : (place : ℕ) → suc place ≤ length journal.entries →
      is_asleep_at journal place ≡ false →
      count place ≤ count (suc place)
  pub near : (place : ℕ) → suc place ≤ length journal.entries → is_asleep_at journal place ≡ false →
      count (suc place) - count place ≤ half journal.opening.counter

-- the true cycles up to a place, except for the cycles that passed while the clocks were asleep
abbrev pub counted_cycles : Journal → (ℕ → ℕ) → ℕ → ℕ
counted_cycles journal count zero = 0
counted_cycles journal count (suc place) =
    counted_cycles journal count place
    + (if is_asleep_at journal place then 0 else count (suc place) - count place)
