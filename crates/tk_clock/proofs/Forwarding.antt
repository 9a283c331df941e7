-- A read base at its own last reading, and forwarded to another reading.
use Rattle.std.proofs.Common.{◌≡◌, ◌+◌, ◌*◌, ◌/◌, ◌^◌, ◌∙◌, ap}
use Rattle.tk_clock.specs.State.{ReadBase, base_monotonic}
use Rattle.tk_clock.proofs.Offsets.{cycles_since-self, plus_nothing}

-- no cycles have passed since the last reading
pub base_monotonic-last : (base : ReadBase) →
    base_monotonic base base.last ≡ base.amount / 2 ^ base.counter.shift
base_monotonic-last base =
    ap (λ k. (base.amount + k * base.mult) / 2 ^ base.counter.shift)
    (cycles_since-self base.counter base.asleep base.last)
    ∙ ap (λ n. n / 2 ^ base.counter.shift) (plus_nothing base.amount base.mult)
