-- The length that a second needs fits 64 bits.
use Rattle.std.proofs.Common.{ℕ, ◌+◌, ◌≤◌, ◌<◌, ◌^◌, ℤ, ◌+ℤ◌, ◌-ℤ◌, unsigned_abs, arith, w64, FitsSigned}
use Rattle.std.proofs.lemmas.Int.{ints, fits_signed_from_abs}
use Rattle.tk_ntp.specs.Length.{max_phase, max_frequency, second_of}
use Rattle.tk_ntp.specs.Ntp.{Ntp, IsNtp, plain_length}
use borrow.Author.Differences.{abs_is}

short_sum : (length made frequency : ℤ) (tick hz : ℕ) → tick ≤ 11000 → hz ≤ 1024 →
    unsigned_abs frequency ≤ max_frequency →
    unsigned_abs (length -ℤ second_of tick frequency) ≤ max_phase + max_frequency + hz →
    unsigned_abs made ≤ 2 ^ 56 → unsigned_abs (length +ℤ made) < 2 ^ 63
short_sum length made frequency tick hz t h f near short = omega (arith, ints, abs_is)

pub needed_fits : (ntp : Ntp) (length made : ℤ) → IsNtp ntp →
    unsigned_abs (length -ℤ plain_length ntp) ≤ max_phase + max_frequency + ntp.hz →
    unsigned_abs made ≤ 2 ^ 56 → FitsSigned w64 (length +ℤ made)
needed_fits ntp length made ranges near short =
    fits_signed_from_abs w64 (length +ℤ made)
    (short_sum length made ntp.frequency ntp.tick ntp.hz ranges.tick_high ranges.hz_high
    ranges.frequency_low near short)
