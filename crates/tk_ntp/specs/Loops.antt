-- The frequency and the phase that follow from an offset: by the PLL, and after a long time by the
-- FLL too (ntp_update_offset, ntp_update_offset_fll, kernel/time/ntp.c).
use Rattle.std.specs.Prelude.{ℕ, ◌-◌, ◌*◌, ◌^◌, min, Bool, ◌&&◌, ◌||◌, ℤ, pos, neg_ℤ, ◌+ℤ◌, ◌*ℤ◌, nat_lt, nat_le, if◌then◌else◌}
use Rattle.std.specs.Int.{int_min, int_max}
use Rattle.tk_ntp.specs.Length.{one, max_frequency, toward_zero}

-- a number, clamped to a bound in either direction
abbrev pub clamped_by : ℕ → ℤ → ℤ
clamped_by most number = int_max (neg_ℤ (pos most)) (int_min number (pos most))

-- an offset in nanoseconds, at most half a second; it is given in them, or in microseconds
abbrev pub offset_of : ℤ → Bool → ℤ
offset_of given nano =
    if nano then clamped_by 500000000 given
    else clamped_by 500000000 (clamped_by 1000000 given *ℤ pos 1000)

-- the seconds since the last offset; 0 if that is ahead, or if the frequency is on hold
abbrev pub elapsed : ℕ → ℕ → Bool → ℕ
elapsed reftime now hold = if hold then 0 else now - reftime

-- whether the FLL acts: the offset is more than 2,048 seconds late, or 256 if status asks for it
-- (MINSEC, MAXSEC)
abbrev pub uses_fll : ℕ → Bool → Bool
uses_fll secs fll = nat_le 256 secs && (fll || nat_lt 2048 secs)

-- the change of the frequency by the FLL
abbrev pub fll_change : ℤ → ℕ → Bool → ℤ
fll_change offset secs acts = if acts then toward_zero (offset *ℤ pos (2 ^ 30)) secs else pos 0

-- the change of the frequency by the PLL for each nanosecond of an offset: as if at most
-- 8 * 2^constant seconds had passed
abbrev pub pll_gain : ℕ → ℕ → ℕ
pll_gain secs constant = min secs (8 * 2 ^ constant) * 2 ^ (24 - 2 * constant)

-- the change of the frequency by the PLL
abbrev pub pll_change : ℤ → ℕ → ℕ → ℤ
pll_change offset secs constant = offset *ℤ pos (pll_gain secs constant)

-- the frequency that follows from an offset in nanoseconds
abbrev pub frequency_after : ℤ → ℤ → ℕ → ℕ → Bool → ℤ
frequency_after frequency offset secs constant fll =
    clamped_by max_frequency
    (frequency +ℤ (fll_change offset secs (uses_fll secs fll) +ℤ pll_change offset secs constant))

-- the phase that an offset in nanoseconds leaves to give, in each of hz parts of a second
abbrev pub phase_share : ℤ → ℕ → ℤ
phase_share offset hz = toward_zero (offset *ℤ pos one) hz
