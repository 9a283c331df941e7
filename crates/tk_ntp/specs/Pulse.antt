-- A pulse (__hardpps, kernel/time/ntp.c): what it does to the signal's state, and to a discipline.
-- It comes with the nanoseconds of REALTIME's second, and with MONOTONIC_RAW in nanoseconds.
use Rattle.std.specs.Prelude.{ℕ, ◌+◌, ◌-◌, ◌*◌, ◌/◌, ◌%◌, ◌^◌, ◌≤◌, min, Bool, not, ◌&&◌, ◌||◌, nat_eq, nat_lt, nat_le, ℤ, pos, neg_ℤ, ◌+ℤ◌, ◌-ℤ◌, ◌*ℤ◌, int_le, unsigned_abs, bit_or, Option, Some, None, MatchOption, if◌then◌else◌}
use Rattle.tk_ntp.specs.Bits.{has, without, sta_freqhold, sta_ppsfreq, sta_ppstime, sta_ppssignal, sta_ppsjitter, sta_ppswander, sta_ppserror}
use Rattle.tk_ntp.specs.Length.{one, max_frequency, toward_zero}
use Rattle.tk_ntp.specs.Loops.{phase_share}
use Rattle.tk_ntp.specs.Ntp.{Ntp}
use Rattle.tk_ntp.specs.Pps.{Pps, least_shift, greatest_shift, valid_seconds, max_correction, pulse_bits}
use Rattle.tk_ntp.specs.declared.pulse.Pulse.{Pulse}

-- ---- the correction

-- what REALTIME misses to the nearest second at a pulse, in nanoseconds
abbrev pub correction_of : ℕ → ℤ
correction_of nsec =
    if nat_le nsec 500000000 then neg_ℤ (pos nsec) else pos 1000000000 -ℤ pos nsec

-- what a number differs by from another one
abbrev pub change_from : ℤ → ℤ → ℕ
change_from former number = unsigned_abs (number -ℤ former)

-- whether a change of the correction is more than 16 times the mean (PPS_POPCORN)
abbrev pub is_spike : ℕ → ℕ → Bool
is_spike jitter change = nat_lt (16 * jitter) change

-- a count, up to the greatest number of 63 bits
abbrev pub one_more : ℕ → ℕ
one_more count = min (count + 1) (2 ^ 63 - 1)

-- a count, one more if a test holds
abbrev pub counted_if : Bool → ℕ → ℕ
counted_if test count = if test then one_more count else count

-- a mean, a fourth of which comes from the last number
abbrev pub mean_with : ℕ → ℕ → ℕ
mean_with number mean = (3 * mean + number) / 4

-- the state after a correction (hardpps_update_phase)
abbrev pub corrected : ℤ → Pps → Pps
corrected correction pps =
    let change = change_from pps.correction correction in
    record pps {
      correction = correction;
      jitter = mean_with change pps.jitter;
      jitcnt = counted_if (is_spike pps.jitter change) pps.jitcnt;
    }

-- ---- the frequency

-- the nearest number of seconds to some nanoseconds, and what these have gained then
abbrev pub seconds_of : ℕ → ℕ
seconds_of nanos = (nanos + 499999999) / 1000000000

abbrev pub gained : ℕ → ℤ
gained nanos = pos ((nanos + 499999999) % 1000000000) -ℤ pos 499999999

-- whether a pulse this long after the interval's beginning comes at a wrong time: at no second, or
-- not within 500 ppm of one (MAXFREQ)
abbrev pub is_stray : ℕ → Bool
is_stray nanos =
    nat_eq (seconds_of nanos) 0
    || nat_lt (500000 * seconds_of nanos) (unsigned_abs (gained nanos))

-- whether an interval is over after some seconds, and whether it has become too long
abbrev pub is_over : ℕ → ℕ → Bool
is_over shift secs = nat_le (2 ^ shift) secs

abbrev pub is_too_long : ℕ → ℕ → Bool
is_too_long shift secs = nat_lt (2 * 2 ^ shift) secs

-- the frequency that an interval shows, a length
abbrev pub measured : ℕ → ℤ
measured nanos = toward_zero (neg_ℤ (gained nanos) *ℤ pos one) (seconds_of nanos)

-- what a frequency differs by from the last one, in nanoseconds a second
abbrev pub wander : ℤ → ℤ → ℕ
wander former frequency = unsigned_abs (toward_zero (frequency -ℤ former) one)

-- whether this is too much (PPS_MAXWANDER)
abbrev pub is_too_much : ℕ → Bool
is_too_much nanos = nat_lt 100000 nanos

-- nanoseconds a second in 2^-16 ppm
abbrev pub ppm_of : ℕ → ℕ
ppm_of nanos = nanos * 2 ^ 16 / 1000

-- the state after a good interval: after four, intervals are twice as long
-- (pps_inc_freq_interval)
abbrev pub after_good : Pps → Pps
after_good pps =
    if int_le pps.balance (pos 2) then record pps { balance = pps.balance +ℤ pos 1 }
    else if nat_lt pps.shift greatest_shift
    then record pps { shift = pps.shift + 1; balance = pos 0 }
    else record pps { balance = pos 4 }

-- the state after a bad interval: after four, intervals are half as long (pps_dec_freq_interval)
abbrev pub after_bad : Pps → Pps
after_bad pps =
    if int_le (neg_ℤ (pos 2)) pps.balance then record pps { balance = pps.balance -ℤ pos 1 }
    else if nat_lt least_shift pps.shift
    then record pps { shift = pps.shift - 1; balance = pos 0 }
    else record pps { balance = neg_ℤ (pos 4) }

-- the state after an interval that became too long
abbrev pub too_long : Pps → Pps
too_long pps = after_bad (record pps { errcnt = one_more pps.errcnt })

-- the state after an interval by what the frequency changed
abbrev pub judged : Bool → Pps → Pps
judged is_bad pps = if is_bad then after_bad pps else after_good pps

-- the state after a frequency was measured
abbrev pub calibrated : ℤ → Pps → Pps
calibrated frequency pps =
    let change = wander pps.frequency frequency in
    judged (is_too_much change)
    (record pps {
      frequency = frequency;
      stabil = mean_with (ppm_of change) pps.stabil;
      stbcnt = counted_if (is_too_much change) pps.stbcnt;
    })

-- the state after an interval of some nanoseconds (hardpps_update_freq)
abbrev pub with_frequency : ℕ → Pps → Pps
with_frequency nanos pps =
    if is_too_long pps.shift (seconds_of nanos) then too_long pps
    else calibrated (measured nanos) pps

-- the state in which an interval begins
abbrev pub started : ℕ → Pps → Pps
started raw pps = record pps { start = raw }

-- the state in which one more interval has ended, and the next one begins
abbrev pub counted : ℕ → Pps → Pps
counted raw pps = record pps { start = raw; calcnt = one_more pps.calcnt }

-- the state after the end of the interval, if it is over
abbrev pub with_interval : ℕ → Pps → Pps
with_interval raw pps =
    let nanos = raw - pps.start in
    if is_over pps.shift (seconds_of nanos) then with_frequency nanos (counted raw pps) else pps

-- ---- the pulse

-- whether an interval has begun
abbrev pub has_start : Pps → Bool
has_start pps = nat_le 1000000000 pps.start

-- whether a pulse isn't the first one, and comes at a right time
abbrev pub is_sound : ℕ → Pps → Bool
is_sound raw pps = has_start pps && not (is_stray (raw - pps.start))

-- the signal is present
abbrev pub with_signal : Pps → Pps
with_signal pps = record pps { valid = valid_seconds }

-- the state after a pulse
abbrev pub pulsed : ℕ → ℕ → Pps → Pps
pulsed nsec raw pps =
    if is_sound raw pps then with_interval raw (corrected (correction_of nsec) (with_signal pps))
    else started raw (with_signal pps)

-- ---- what a discipline takes from it

-- a bit, if a test holds
abbrev pub bit_if : Bool → ℕ → ℕ
bit_if test bit = if test then bit else 0

-- nothing but these bits of a status
abbrev pub only_bits : ℕ → Pulse
only_bits bits = record { status = bits; frequency = None; correction = None }

-- what the end of an interval of some nanoseconds is for a discipline
abbrev pub frequency_pulse : ℕ → Pps → Pulse
frequency_pulse nanos pps =
    if is_too_long pps.shift (seconds_of nanos) then only_bits sta_ppserror
    else record {
      status = bit_if (is_too_much (wander pps.frequency (measured nanos))) sta_ppswander;
      frequency = Some (measured nanos);
      correction = None;
    }

-- the same, if the interval is over
abbrev pub interval_pulse : ℕ → Pps → Pulse
interval_pulse raw pps =
    let nanos = raw - pps.start in
    if is_over pps.shift (seconds_of nanos) then frequency_pulse nanos pps else only_bits 0

-- a correction is taken, unless it is a spike
abbrev pub with_corrected : Bool → ℤ → Pulse → Pulse
with_corrected spike correction pulse =
    if spike then record pulse { status = bit_or pulse.status sta_ppsjitter }
    else record pulse { correction = Some correction }

-- what a pulse is for a discipline
abbrev pub pulse_of : ℕ → ℕ → Pps → Pulse
pulse_of nsec raw pps =
    let correction = correction_of nsec in
    if is_sound raw pps
    then with_corrected (is_spike pps.jitter (change_from pps.correction correction)) correction
    (interval_pulse raw pps)
    else only_bits (bit_if (has_start pps) sta_ppsjitter)

-- the ranges of a pulse's numbers
pub record IsPulse (pulse : Pulse) : Type 0 where
  pub frequency : MatchOption pulse.frequency (Unit {0}) (λ it. unsigned_abs it ≤ max_frequency)
  pub correction : MatchOption pulse.correction (Unit {0}) (λ it. unsigned_abs it ≤ max_correction)

-- the status shows the signal, and what is wrong with the last pulse
abbrev pub with_pulse_bits : ℕ → Ntp → Ntp
with_pulse_bits bits ntp = record ntp {
  status = bit_or (bit_or (without ntp.status pulse_bits) sta_ppssignal) bits;
}

-- a frequency is taken, if status asks for it and doesn't hold the frequency
abbrev pub with_measured : ℤ → Ntp → Ntp
with_measured frequency ntp =
    if has ntp.status sta_ppsfreq && not (has ntp.status sta_freqhold)
    then record ntp { frequency = frequency }
    else ntp

abbrev pub with_pulse_frequency : Option ℤ → Ntp → Ntp
with_pulse_frequency None ntp = ntp
with_pulse_frequency (Some frequency) ntp = with_measured frequency ntp

-- a correction is the offset, if status asks for it; adjtime then has nothing left to give
abbrev pub with_correction : ℤ → Ntp → Ntp
with_correction correction ntp =
    if has ntp.status sta_ppstime
    then record ntp { offset = phase_share correction ntp.hz; adjust = pos 0 }
    else ntp

abbrev pub with_pulse_correction : Option ℤ → Ntp → Ntp
with_pulse_correction None ntp = ntp
with_pulse_correction (Some correction) ntp = with_correction correction ntp

-- the discipline after a pulse
abbrev pub with_pulse : Pulse → Ntp → Ntp
with_pulse pulse ntp =
    with_pulse_correction pulse.correction
    (with_pulse_frequency pulse.frequency (with_pulse_bits pulse.status ntp))
