-- An amount of time as whole seconds and a part below a second.
use Rattle.std.specs.Prelude.{◌≡◌, ℕ, ◌+◌, ◌*◌, ◌/◌, ◌%◌, ◌^◌, ◌<◌, ◌≤◌, ◌⊎◌}
use Rattle.std.proofs.Common.{ap, ◌∙◌}
use Rattle.std.proofs.lemmas.Nat.{div-mul-add, mod-mul-add}
use Rattle.tk_counter.specs.Counter.{Counter, second}
use Rattle.tk_clock.specs.declared.amount.Amount.{Amount}

-- the amount in units of 2^-shift nanoseconds
abbrev pub units_of : Counter → Amount → ℕ
units_of counter amount = amount.sec * second counter + amount.frac

-- the amount is this number of units, and its part below a second is in range
abbrev pub IsAmountOf : Counter → Amount → ℕ → Type 0
IsAmountOf counter amount units = (units_of counter amount ≡ units) × (amount.frac < second counter)

-- a number of units of 2^-shift nanoseconds, as whole seconds and the units left over
abbrev pub amount_of : Counter → ℕ → Amount
amount_of counter units = record { sec = units / second counter; frac = units % second counter }

-- a number of nanoseconds; if it doesn't fit in 63 bits, any number that doesn't either
abbrev pub IsNanos : ℕ → ℕ → Type 0
IsNanos result nanos = (result ≡ nanos) ⊎ ((2 ^ 63 ≤ nanos) × (2 ^ 63 ≤ result))

-- an amount whose part below a second is in range is the amount of its units
pub amount_of-units_of : (counter : Counter) (amount : Amount) → amount.frac < second counter →
    amount_of counter (units_of counter amount) ≡ amount
amount_of-units_of counter amount low =
    let from_parts : ℕ → ℕ → Amount = λ q r. record { sec = q; frac = r } in
    ap (λ q. from_parts q (units_of counter amount % second counter))
    (div-mul-add amount.sec (second counter) amount.frac low)
    ∙ ap (λ r. from_parts amount.sec r) (mod-mul-add amount.sec (second counter) amount.frac low)
