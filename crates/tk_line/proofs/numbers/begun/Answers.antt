use Rattle.std.proofs.Common.{◌≡◌, ℕ, ◌+◌, ◌*◌, ◌/◌, ◌%◌, ◌^◌, ◌≤◌, ap, arith}
use Rattle.std.proofs.lemmas.Nat.{shl_whole}
use Rattle.tk_line.proofs.numbers.begun.Goals as goal

-- a part of a second, in units
shifted : (nanos shift : ℕ) → nanos ≤ 1000000000 → shift ≤ 32 →
    nanos * 2 ^ shift % 18446744073709551616 ≡ nanos * 2 ^ shift
shifted nanos shift low few =
    shl_whole nanos 30 shift 64 (omega (arith, low)) (omega (arith, few))

-- the offset as whole seconds and the rest, in units
parted : (offset scale : ℕ) →
    offset * scale
    ≡ offset / 1000000000 * (1000000000 * scale) + offset % 1000000000 * scale
parted offset scale =
    let parts : offset ≡ offset / 1000000000 * 1000000000 + offset % 1000000000 = omega arith in
    let scaled : offset * scale
    ≡ (offset / 1000000000 * 1000000000 + offset % 1000000000) * scale =
    ap (λ n. n * scale) parts in
    omega (arith, scaled)

pub returns-then-frac-second-clause-value : goal.returns-then-frac-second-clause-value
returns-then-frac-second-clause-value c =
    let offset = c.args.origin.offset in
    let rest = shifted (offset % 1000000000) c.args.shift (omega arith) c.requires.shift in
    omega (arith, rest, parted offset (2 ^ c.args.shift))

pub returns-else-frac-second-clause-value : goal.returns-else-frac-second-clause-value
returns-else-frac-second-clause-value c =
    let offset = c.args.origin.offset in
    let rest = shifted (offset % 1000000000) c.args.shift (omega arith) c.requires.shift in
    let second = shifted 1000000000 c.args.shift (omega arith) c.requires.shift in
    omega (arith, rest, second, parted offset (2 ^ c.args.shift), c.if-frac-second.false)
