-- The state after an offset (ntp_update_offset, kernel/time/ntp.c).
use Rattle.std.specs.Prelude.{ℕ, Bool, ℤ, bit_or, if◌then◌else◌}
use Rattle.tk_ntp.specs.Bits.{has, without, sta_pll, sta_fll, sta_freqhold, sta_nano, sta_mode}
use Rattle.tk_ntp.specs.Loops.{offset_of, elapsed, uses_fll, frequency_after, phase_share}
use Rattle.tk_ntp.specs.Ntp.{Ntp}

-- the status after an offset: whether the FLL acted
abbrev pub status_after : ℕ → Bool → ℕ
status_after status acts =
    if acts then bit_or (without status sta_mode) sta_mode else without status sta_mode

-- the state after an offset in nanoseconds
abbrev pub followed : ℤ → ℕ → Ntp → Ntp
followed offset now ntp =
    let secs = elapsed ntp.reftime now (has ntp.status sta_freqhold) in
    let fll = has ntp.status sta_fll in
    record ntp {
      reftime = now;
      status = status_after ntp.status (uses_fll secs fll);
      frequency = frequency_after ntp.frequency offset secs ntp.constant fll;
      offset = phase_share offset ntp.hz;
    }

-- the state after an offset: nothing changes if the PLL is off
abbrev pub with_offset : ℤ → ℕ → Ntp → Ntp
with_offset given now ntp =
    if has ntp.status sta_pll then followed (offset_of given (has ntp.status sta_nano)) now ntp
    else ntp
