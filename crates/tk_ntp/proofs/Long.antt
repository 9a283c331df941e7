-- A second that has begun is as long as it was asked for.
use Rattle.std.proofs.Common.{◌≡◌, ℕ, ◌*◌, ◌/◌, ◌≤◌, unsigned_abs, arith}
use Rattle.std.proofs.Math.Nat.{div-mul-le_self, mul-le-mul_right}
use Rattle.tk_ntp.specs.Length.{max_frequency, second_of}
use Rattle.tk_ntp.specs.Phase.{part_of, adjust_part}
use Rattle.tk_ntp.specs.Ntp.{Ntp, IsNtp}
use Rattle.tk_ntp.specs.Second.{with_phase, IsAsLong}
use Rattle.tk_ntp.proofs.Near.{as_long, is_whole}

-- hz shares of 500 microseconds
short_shares : (x hz : ℕ) → x ≤ max_frequency / hz → x * hz ≤ max_frequency
short_shares x hz h =
    let wide : x * hz ≤ max_frequency / hz * hz = mul-le-mul_right hz h in
    omega (arith, div-mul-le_self max_frequency hz)

pub IsAsLong-with_phase : (before next : Ntp) → next ≡ with_phase before → IsNtp before →
    unsigned_abs (adjust_part before.adjust before.hz) ≤ max_frequency / before.hz →
    IsAsLong before next
IsAsLong-with_phase before next is ranges short =
    let whole = second_of before.tick before.frequency in
    let adjust = adjust_part before.adjust before.hz in
    rw is
    (as_long (unsigned_abs whole) whole (part_of before.offset before.constant before.status) adjust before.hz
    max_frequency (is_whole before.tick before.frequency ranges.tick_low ranges.frequency_low)
    ranges.hz_low (short_shares (unsigned_abs adjust) before.hz short))
