-- The lag: what a clock has not been given yet of the lengths that its seconds were asked to have.
--
-- It counts units of 2^-shift nanoseconds times lengths, so nothing of it is rounded (ntp_error of
-- struct timekeeper, include/linux/timekeeper_internal.h).
use Rattle.std.specs.Prelude.{ℕ, ◌+◌, ◌*◌, ◌/◌, ◌^◌, ◌<◌, ◌≤◌, ℤ, pos, neg_ℤ, unsigned_abs, ◌+ℤ◌, ◌-ℤ◌, ◌*ℤ◌}
use Rattle.std.specs.Int.{int_div_euclid}
use Rattle.tk_counter.specs.Counter.{Counter, second}
use Rattle.tk_ntp.specs.Length.{max_frequency}
use Rattle.tk_ntp.specs.Loops.{clamped_by}
use Rattle.tk_ntp.specs.Rate.{nominal}

-- what a cycle at a multiplier adds to the lag, while a second is asked to have this length
abbrev pub short_of : Counter → ℤ → ℕ → ℤ
short_of counter length mult = pos counter.mult *ℤ length -ℤ pos mult *ℤ pos nominal

-- the greatest lag in either direction: half a second
abbrev pub greatest_lag : Counter → ℕ
greatest_lag counter = second counter * (nominal / 2)

-- the lag after some cycles at a multiplier
abbrev pub lag_after : Counter → ℤ → ℕ → ℕ → ℤ → ℤ
lag_after counter length mult cycles lag =
    clamped_by (greatest_lag counter) (lag +ℤ pos cycles *ℤ short_of counter length mult)

-- the most of the lag that a second makes up for: 500 microseconds, and two units of the multiplier
abbrev pub most_made_up : Counter → ℕ
most_made_up counter = max_frequency + 2 * nominal / counter.mult

-- what the next second makes up for, as a length
abbrev pub made_up : Counter → ℤ → ℤ
made_up counter lag =
    clamped_by (most_made_up counter) (int_div_euclid lag (pos (second counter)))

-- the least lag that two words can contain
abbrev pub least_lag : ℤ
least_lag = neg_ℤ (pos (2 ^ 124))

-- the lag in two words of 64 bits
abbrev pub lag_in : ℕ → ℕ → ℤ
lag_in high low = pos (high * 2 ^ 64 + low) +ℤ least_lag

-- two words that contain a lag
pub record IsLag (high low : ℕ) : Type 0 where
  pub low_fits : low < 2 ^ 64
  pub short : unsigned_abs (lag_in high low) ≤ 2 ^ 123
