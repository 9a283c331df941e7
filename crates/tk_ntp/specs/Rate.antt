-- The rate of a clock: the frequency and the tick that make a second as long as it is asked for.
use Rattle.std.specs.Prelude.{ℕ, ◌+◌, ◌-◌, ◌*◌, ◌/◌, ◌^◌, ◌<◌, ◌≤◌, min, max, Bool, ◌&&◌, nat_le, ℤ, pos, ◌-ℤ◌, ◌≤ℤ◌, unsigned_abs, if◌then◌else◌}
use Rattle.std.specs.Int.{int_div_euclid, int_min, int_max}
use Rattle.tk_counter.specs.Counter.{Counter}
use Rattle.tk_ntp.specs.declared.rate.Rate.{Rate}
use Rattle.tk_ntp.specs.Length.{one}
use Rattle.tk_ntp.specs.Request.{frequency_unit}

-- the rate of a tick of one microsecond, in 2^-16 ppm; the usual rate is 10,000 of them
abbrev pub tick_rate : ℕ
tick_rate = 6553600

-- the most that a frequency adds to a rate or takes from it, in 2^-16 ppm
abbrev pub frequency_limit : ℕ
frequency_limit = 32768000

-- the least and the greatest rate that a tick and a frequency give: 10.05 percent from the usual
abbrev pub least_rate : ℕ
least_rate = 9000 * tick_rate - frequency_limit

abbrev pub greatest_rate : ℕ
greatest_rate = 11000 * tick_rate + frequency_limit

-- the rate, in 2^-16 ppm, that makes a second so long: rounded down, and clamped to that range
abbrev pub rate_of : ℤ → ℕ
rate_of length =
    unsigned_abs
    (int_max (pos least_rate)
    (int_min (int_div_euclid length (pos frequency_unit)) (pos greatest_rate)))

-- whether a frequency brings a tick to a rate
abbrev pub is_reached : ℕ → ℕ → Bool
is_reached rate tick =
    nat_le rate (tick * tick_rate + frequency_limit) && nat_le (tick * tick_rate) (rate + frequency_limit)

-- the tick for a rate: the one that was asked for, if a frequency brings it there, or the nearest
abbrev pub tick_for : ℕ → ℕ → ℕ
tick_for rate tick =
    if is_reached rate tick then tick
    else max 9000 (min ((rate + tick_rate / 2) / tick_rate) 11000)

-- the frequency and the tick for the length of a second, by the tick that was asked for
abbrev pub rate_for : ℤ → ℕ → Rate
rate_for length tick =
    let rate = rate_of length in
    record {
      frequency = pos rate -ℤ pos (tick_for rate tick * tick_rate);
      tick = pos (tick_for rate tick);
    }

-- the length of a nominal second
abbrev pub nominal : ℕ
nominal = 10 ^ 9 * one

-- a length of a second that some rate gives
abbrev pub IsInRange : ℤ → Type 0
IsInRange length =
    (pos (least_rate * frequency_unit) ≤ℤ length) × (length ≤ℤ pos (greatest_rate * frequency_unit))

-- a multiplier gives a second of this length, rounded down: less than one unit of the multiplier
-- and one of the rate is missing
pub record IsGiven (counter : Counter) (length : ℤ) (mult : ℕ) : Type 0 where
  pub at_most : mult * nominal ≤ counter.mult * unsigned_abs length
  pub at_least :
      counter.mult * unsigned_abs length < (mult + 1) * nominal + counter.mult * frequency_unit

-- a multiplier is at most 10.05 percent from the counter's own, rounded down
pub record IsNearUsual (counter : Counter) (mult : ℕ) : Type 0 where
  pub at_most : mult * 10000 ≤ counter.mult * 11005
  pub at_least : counter.mult * 8995 ≤ (mult + 1) * 10000
