-- Worked values, computed from the definitions only.
use Rattle.std.proofs.Common.{◌≡◌, ℕ, ◌+◌, ◌*◌, ◌/◌, ◌%◌, ◌≤◌, Some, None, pos, neg_ℤ, refl, lit≤}
use Rattle.std.specs.Int.Count.{count_leading_zeros}
use Rattle.tk_counter.specs.Counter.{Counter, max_adjustment, max_cycles, fast_span, second, multiplier, gap, half}
use Rattle.tk_counter.specs.Description.{first_fault}
use Rattle.tk_counter.specs.Frequency.{hertz, kilohertz, from_frequency, frequency_fault, shifts}
use Rattle.tk_counter.specs.declared.desc_error.DescError.TheVariants.{Bits, Shift, Mult, Adjust, Rate}

-- a counter of one nanosecond a cycle, with readings of 32 bits
abbrev usual : Counter
usual = record { bits = 32; mult = 16777216; shift = 24 }

-- a counter of 24 MHz, with readings of 32 bits
abbrev fast : Counter
fast = record { bits = 32; mult = 699050667; shift = 24 }

-- a counter of 4,194,304 nanoseconds a cycle, with readings of 64 bits
abbrev whole : Counter
whole = record { bits = 64; mult = 4194304; shift = 0 }

-- ---- the numbers that follow from a description
usual-max_adjustment : max_adjustment usual ≡ 1845493
usual-max_adjustment = refl

usual-max_cycles : max_cycles usual ≡ 4294967295
usual-max_cycles = refl

usual-fast_span : fast_span usual ≡ 2147483647
usual-fast_span = refl

fast-max_adjustment : max_adjustment fast ≡ 76895573
fast-max_adjustment = refl

fast-max_cycles : max_cycles fast ≡ 4294967295
fast-max_cycles = refl

-- ---- the faults of a description
few_bits : first_fault (record { bits = 7; mult = 16777216; shift = 24 }) ≡ Some Bits
few_bits = refl

high_shift : first_fault (record { bits = 32; mult = 16777216; shift = 33 }) ≡ Some Shift
high_shift = refl

low_mult : first_fault (record { bits = 32; mult = 255; shift = 24 }) ≡ Some Mult
low_mult = refl

no_room : first_fault (record { bits = 32; mult = 4000000000; shift = 2 }) ≡ Some Adjust
no_room = refl

no_fault : first_fault usual ≡ None
no_fault = refl

-- ---- descriptions from a frequency
megahertz : from_frequency hertz 32 24000000 600 ≡ Some fast
unfolding shifts count_leading_zeros
megahertz = refl

one_hertz : from_frequency hertz 32 1 1 ≡ Some (record { bits = 32; mult = 2000000000; shift = 1 })
unfolding shifts count_leading_zeros
one_hertz = refl

above_32_bits : from_frequency kilohertz 64 4491000 1
    ≡ Some (record { bits = 64; mult = 956349877; shift = 32 })
unfolding shifts count_leading_zeros
above_32_bits = refl

one_kilohertz : from_frequency kilohertz 32 1 600
    ≡ Some (record { bits = 32; mult = 2048000000; shift = 11 })
unfolding shifts count_leading_zeros
one_kilohertz = refl

greatest_rate : from_frequency kilohertz 64 4294967295 600
    ≡ Some (record { bits = 64; mult = 3906; shift = 24 })
unfolding shifts count_leading_zeros
greatest_rate = refl

no_hertz : frequency_fault 32 0 600 ≡ Some Rate
no_hertz = refl

no_seconds : frequency_fault 32 24000000 0 ≡ Some Rate
no_seconds = refl

many_seconds : frequency_fault 32 24000000 601 ≡ Some Rate
many_seconds = refl

bits_first : frequency_fault 65 0 601 ≡ Some Bits
bits_first = refl

-- ---- multipliers
-- at the least frequency, and at three beyond the bounds, which are clamped
clamped_frequencies : (multiplier usual (pos 65536000) (pos 10000) ≡ 16785604)
    × (multiplier usual (neg_ℤ (pos 32768000)) (pos 10000) ≡ 16768827)
    × (multiplier usual (pos 9223372036854775807) (pos 10000) ≡ 16785604)
    × (multiplier usual (neg_ℤ (pos 9223372036854775808)) (pos 10000) ≡ 16768827)
clamped_frequencies = (refl, refl, refl, refl)

-- at the greatest tick, with the usual frequency and with the greatest one
long_ticks : (multiplier usual (pos 0) (pos 11000) ≡ 18454937)
    × (multiplier usual (pos 32768000) (pos 11000) ≡ 18463326)
long_ticks = (refl, refl)

-- ---- seconds, and the rest below a second
below_second : ◌≡◌ {A = ℕ × ℕ} (
  (16777215 + 1 * 16777216) / second usual,
  (16777215 + 1 * 16777216) % second usual,
) (0, 33554431)
below_second = refl

one_second : ◌≡◌ {A = ℕ × ℕ} (
  (16777215999999999 + 1 * 16777216) / second usual,
  (16777215999999999 + 1 * 16777216) % second usual,
) (1, 16777215)
one_second = refl

last_second : ◌≡◌ {A = ℕ × ℕ} (
  (862207 + 2199023255348 * 4194304) / second whole,
  (862207 + 2199023255348 * 4194304) % second whole,
) (9223372035, 999999999)
last_second = refl

past_seconds : 9223372036 ≤ (862208 + 2199023255348 * 4194304) / second whole
past_seconds = lit≤ tt

long_gap : let counter : Counter = record { bits = 64; mult = 699050667; shift = 24 } in
    let units = 16777215999999999 + 1000000000000000 * 699050667 in
    ◌≡◌ {A = ℕ × ℕ} (units / second counter, units % second counter) (41666667, 11518143999999999)
long_gap = refl

-- ---- gaps
wrapped : gap usual 4294967295 1 ≡ 2
wrapped = refl

just_ahead : gap usual 4294967295 2147483646 ≡ half usual
just_ahead = refl

just_behind : gap usual 4294967295 2147483647 ≡ half usual + 1
just_behind = refl
