-- A signal of a pulse per second: what its pulses left (pps_.. in kernel/time/ntp.c, with
-- CONFIG_NTP_PPS).
use Rattle.std.specs.Prelude.{◌≡◌, ℕ, zero, suc, ◌-◌, ◌^◌, ◌<◌, ◌≤◌, Bool, false, not, ◌&&◌, ◌||◌, nat_eq, ℤ, pos, unsigned_abs, bit_and, if◌then◌else◌}
use Rattle.tk_ntp.specs.declared.pps.Pps.TheInside.{Inside}
use Rattle.tk_ntp.specs.declared.timex.Timex.{Timex}
use Rattle.tk_ntp.specs.Bits.{has, without, sta_pll, sta_ppssignal, adj_frequency, adj_status, adj_setoffset, adj_adjtime}
use Rattle.tk_ntp.specs.Length.{max_frequency}
use Rattle.tk_ntp.specs.Request.{gain_of}
use Rattle.tk_ntp.specs.Ntp.{Ntp}

pub record Pps : Type 0 where
  -- the seconds that may begin without a pulse before the signal counts as lost
  pub valid : ℕ
  -- the correction of the last pulse, in nanoseconds
  pub correction : ℤ
  -- the mean of what a correction differs by from the one before, in nanoseconds
  pub jitter : ℕ
  -- MONOTONIC_RAW at the beginning of the interval, in nanoseconds; below a second there is none
  pub start : ℕ
  -- the interval ends at the first pulse after 2^shift seconds
  pub shift : ℕ
  -- the good intervals minus the bad ones, within 4; 0 after a change of the shift
  pub balance : ℤ
  -- what each second gains, as the last interval showed, a length
  pub frequency : ℤ
  -- the mean of what the frequency changes by, in 2^-16 ppm
  pub stabil : ℕ
  -- the intervals; the corrections, the frequencies and the intervals that were faulty
  pub calcnt : ℕ
  pub jitcnt : ℕ
  pub stbcnt : ℕ
  pub errcnt : ℕ

-- the state that the fields of a signal contain
abbrev pub pps_of : Inside → Pps
pps_of a = record {
  valid = a.valid;
  correction = a.correction;
  jitter = a.jitter;
  start = a.start;
  shift = a.shift;
  balance = a.balance;
  frequency = a.frequency;
  stabil = a.stabil;
  calcnt = a.calcnt;
  jitcnt = a.jitcnt;
  stbcnt = a.stbcnt;
  errcnt = a.errcnt;
}

-- the least and the greatest shift (PPS_INTMIN, PPS_INTMAX)
abbrev pub least_shift : ℕ
least_shift = 2

abbrev pub greatest_shift : ℕ
greatest_shift = 8

-- the seconds for which a pulse counts (PPS_VALID)
abbrev pub valid_seconds : ℕ
valid_seconds = 10

-- the greatest correction: half a second
abbrev pub max_correction : ℕ
max_correction = 500000000

-- the ranges of a signal's numbers
pub record IsPps (pps : Pps) : Type 0 where
  pub valid_high : pps.valid ≤ valid_seconds
  pub correction_short : unsigned_abs pps.correction ≤ max_correction
  pub jitter_high : pps.jitter ≤ 1000000000
  pub start_high : pps.start < 2 ^ 63
  pub shift_low : least_shift ≤ pps.shift
  pub shift_high : pps.shift ≤ greatest_shift
  pub balance_short : unsigned_abs pps.balance ≤ 4
  pub frequency_low : unsigned_abs pps.frequency ≤ max_frequency
  pub stabil_high : pps.stabil ≤ 65536000
  pub calcnt_high : pps.calcnt < 2 ^ 63
  pub jitcnt_high : pps.jitcnt < 2 ^ 63
  pub stbcnt_high : pps.stbcnt < 2 ^ 63
  pub errcnt_high : pps.errcnt < 2 ^ 63

-- a signal without a pulse
abbrev pub no_signal : Pps
no_signal = record {
  valid = 0;
  correction = pos 0;
  jitter = 0;
  start = 0;
  shift = least_shift;
  balance = pos 0;
  frequency = pos 0;
  stabil = 0;
  calcnt = 0;
  jitcnt = 0;
  stbcnt = 0;
  errcnt = 0;
}

-- intervals are as short as possible again (pps_reset_freq_interval)
abbrev pub with_short_interval : Pps → Pps
with_short_interval pps = record pps { shift = least_shift; balance = pos 0 }

-- the state after REALTIME was set or stepped, or after the signal was lost (pps_clear): neither a
-- correction nor a frequency is known. The counts and both means stay
abbrev pub pps_cleared : Pps → Pps
pps_cleared pps = record pps {
  correction = pos 0;
  start = 0;
  shift = least_shift;
  balance = pos 0;
  frequency = pos 0;
}

-- a second of REALTIME begins (pps_dec_valid): the signal counts as lost once `valid` is 0
abbrev pub is_lost : Pps → Bool
is_lost pps = nat_eq pps.valid 0

abbrev pub pps_second : Pps → Pps
pps_second pps =
    if is_lost pps then pps_cleared pps else record pps { valid = pps.valid - 1 }

-- some seconds of REALTIME begin, one after the other
unfoldable pub pps_seconds : ℕ → Pps → Pps
pps_seconds zero pps = pps
pps_seconds (suc count) pps = pps_seconds count (pps_second pps)

-- whether the signal counts as lost at one of them
unfoldable pub is_lost_in : ℕ → Pps → Bool
is_lost_in zero pps = false
is_lost_in (suc count) pps = is_lost pps || is_lost_in count (pps_second pps)

-- the bits that the last pulse set
abbrev pub pulse_bits : ℕ
pulse_bits = 0xe00

-- the bits of a status that are off without a signal
abbrev pub signal_bits : ℕ
signal_bits = 0xf00

-- no signal is present: no pulse has come, or none in the last seconds
abbrev pub LacksSignal : Ntp → Type 0
LacksSignal ntp = bit_and ntp.status sta_ppssignal ≡ 0

-- the discipline after the signal was lost
abbrev pub without_signal : Ntp → Ntp
without_signal ntp = record ntp { status = without ntp.status signal_bits }

-- a request clears the signal by a step, starts with a short interval if it turns the PLL off, and
-- sets the frequency. `status` is the one before the request
abbrev pub stepped : Timex → Pps → Pps
stepped request pps = if has request.modes adj_setoffset then pps_cleared pps else pps

abbrev pub turns_pll_off : Timex → ℕ → Bool
turns_pll_off request status =
    has request.modes adj_status && (has status sta_pll && not (has request.status sta_pll))

abbrev pub with_interval_kept : Timex → ℕ → Pps → Pps
with_interval_kept request status pps =
    if turns_pll_off request status then with_short_interval pps else pps

abbrev pub with_asked_frequency : Timex → Pps → Pps
with_asked_frequency request pps =
    if has request.modes adj_frequency then record pps { frequency = gain_of request.freq } else pps

abbrev pub pps_asked : Timex → ℕ → Pps → Pps
pps_asked request status pps =
    if has request.modes adj_adjtime then stepped request pps
    else with_asked_frequency request (with_interval_kept request status (stepped request pps))
