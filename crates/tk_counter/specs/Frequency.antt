-- The description of a counter that runs at a rate (kernel/time/clocksource.c).
--
-- A rate is the number of cycles in a unit of time, which is a second for a rate in Hz and a
-- millisecond for one in kHz. The scale of a rate is the number of its units of time in a second.
use Rattle.std.specs.Prelude.{ℕ, ◌+◌, ◌-◌, ◌*◌, ◌/◌, ◌^◌, min, List, reverse, Option, Some, None, Bool, find, option_map, ◌||◌, nat_lt, nat_eq, if◌then◌else◌}
use Rattle.std.specs.Int.{leading_zeros, w64}
use Rattle.std.specs.List.{range_with_len}
use Rattle.tk_counter.specs.Counter.{Counter, fastest}
use Rattle.tk_counter.specs.declared.desc_error.DescError.{DescError}
use Rattle.tk_counter.specs.declared.desc_error.DescError.TheVariants.{Bits, Rate}

-- the length of a cycle at `rate` cycles in `unit` nanoseconds, in units of 2^-shift nanoseconds,
-- rounded to the nearest
abbrev pub rounded_mult : ℕ → ℕ → ℕ → ℕ
rounded_mult unit rate shift = (unit * 2 ^ shift + rate / 2) / rate

-- the most bits that a mult may have, so that the cycles of `span` units of time convert within 64
-- bits
abbrev pub mult_bits : ℕ → ℕ → ℕ
mult_bits rate span = min 32 (leading_zeros w64 (span * rate))

-- whether the mult at a shift is no longer than this number of bits
abbrev pub fits : ℕ → ℕ → ℕ → ℕ → Bool
fits unit rate span shift = nat_lt (rounded_mult unit rate shift) (2 ^ mult_bits rate span)

-- the shifts that are tried, from 32 down to 1
unfoldable pub shifts : List ℕ
shifts = reverse (range_with_len 1 32)

-- the first of these shifts whose mult fits, if there is one (clocks_calc_mult_shift)
abbrev pub chosen_shift : ℕ → ℕ → ℕ → Option ℕ
chosen_shift unit rate span = find (fits unit rate span) shifts

-- if the mult plus 11 percent doesn't fit in 32 bits, the description gets half the mult and a
-- shift lower by 1 (__clocksource_update_freq_scale)
abbrev pub halved : Counter → Counter
halved counter =
    if nat_lt (2 ^ 32 - 1) (fastest counter) then record counter {
      mult = counter.mult / 2;
      shift = counter.shift - 1;
    }
    else counter

-- the scale of a rate in Hz (clocksource_register_hz)
abbrev pub hertz : ℕ
hertz = 1

-- the scale of a rate in kHz (clocksource_register_khz)
abbrev pub kilohertz : ℕ
kilohertz = 1000

-- the description of a counter with readings of `bits` bits at `rate` times `scale` Hz, for gaps of
-- up to `maxsec` seconds (__clocksource_update_freq_scale)
abbrev pub from_frequency : ℕ → ℕ → ℕ → ℕ → Option Counter
from_frequency scale bits rate maxsec =
    let unit = 10 ^ 9 / scale in
    option_map
    (λ shift. halved (record { bits = bits; mult = rounded_mult unit rate shift; shift = shift }))
    (chosen_shift unit rate (maxsec * scale))

-- the first fault of such numbers: first the bits, then a rate of 0 or a span that is not 1 to 600
-- seconds
abbrev pub frequency_fault : ℕ → ℕ → ℕ → Option DescError
frequency_fault bits rate maxsec =
    if nat_lt bits 8 || nat_lt 64 bits then Some Bits
    else if nat_eq rate 0 || nat_eq maxsec 0 || nat_lt 600 maxsec then Some Rate
    else None
