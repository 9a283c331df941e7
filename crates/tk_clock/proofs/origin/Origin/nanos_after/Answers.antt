use Rattle.std.proofs.Common.{◌≡◌, ℕ, ◌+◌, ◌-◌, ◌^◌, min, inl, inr, arith}
use Rattle.std.proofs.lemmas.Bool.{cases_lt}
use Rattle.tk_clock.specs.Amount.{IsNanos}
use Rattle.tk_clock.proofs.origin.Origin.nanos_after.Goals as goal

-- an offset leaves nanoseconds exact or past 63 bits
with_offset : (given nanos offset sum : ℕ) → IsNanos given nanos →
    sum ≡ min (given + offset) (2 ^ 64 - 1) → IsNanos sum (nanos + offset)
with_offset given nanos offset sum (inl exact) e =
    elim (cases_lt (nanos + offset) (2 ^ 64)) [
      | inl fits ↦ inl (omega (arith, exact, e, fits))
      | inr far ↦ inr (omega (arith, far), omega (arith, exact, e, far))
    ]
with_offset given nanos offset sum (inr beyond) e =
    inr (omega (arith, beyond.0), omega (arith, beyond.1, e))

pub returns : goal.returns
returns c =
    with_offset c.nanos_after.result _ c.args.self.offset c.saturating_add.result
    (rw c.amount.ensures at c.nanos_after.ensures) c.saturating_add.ensures
