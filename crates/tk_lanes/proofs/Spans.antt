-- A gap within a clock's span.
use Rattle.std.proofs.Common.{◌≡◌, ap, ℕ, ◌+◌, ◌-◌, ◌*◌, ◌/◌, ◌<◌, ◌≤◌, arith}
use Rattle.std.proofs.lemmas.Nat.{mul-le}
use Rattle.std.proofs.Math.Nat.{div-mul-le_self, mul-le-mul_right}

-- a gap of no more steps than a division gives stays within the whole
pub within_room : (gap whole divisor mult scale : ℕ) → gap ≤ (whole / divisor) * scale → mult ≤ divisor →
    gap * mult ≤ whole * scale
within_room gap whole divisor mult scale low few =
    let product : gap * mult ≤ (whole / divisor) * scale * divisor = mul-le gap mult _ divisor low few in
    let back : (whole / divisor) * divisor * scale ≤ whole * scale =
    mul-le-mul_right scale (div-mul-le_self whole divisor) in
    omega (arith, product, back)

-- units below a nanosecond, added to less than the room, are less than the room too
pub gains_less : (gained rest room scale : ℕ) → 0 < room → rest < scale →
    gained ≤ (room - 1) * scale → gained + rest < room * scale
gains_less gained rest room scale some low within =
    let back : (room - 1) + 1 ≡ room = omega (arith, some) in
    let whole : ((room - 1) + 1) * scale ≡ room * scale = ap (λ n. n * scale) back in
    omega (arith, whole, low, within)
