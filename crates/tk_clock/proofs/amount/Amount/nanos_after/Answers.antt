use Rattle.std.proofs.Common.{◌≡◌, ℕ, ◌+◌, ◌*◌, ◌/◌, ◌^◌, ◌≤◌, ◌⊎◌, inl, inr, ap, ◌∙◌, arith}
use Rattle.tk_clock.proofs.Units.{more_nanos}
use Rattle.tk_clock.proofs.amount.Amount.nanos_after.Goals as goal

-- nanoseconds that are exact, or past 63 bits, are still so after whole seconds are added
on_top : (whole gained nanos total : ℕ) → whole + nanos ≡ total →
    (gained ≡ nanos) ⊎ ((2 ^ 63 ≤ nanos) × (2 ^ 63 ≤ gained)) →
    (whole + gained ≡ total) ⊎ ((2 ^ 63 ≤ total) × (2 ^ 63 ≤ whole + gained))
on_top whole gained nanos total e (inl stated) = inl (ap (λ n. whole + n) stated ∙ e)
on_top whole gained nanos total e (inr beyond) =
    let far = beyond.0 in
    let more = beyond.1 in
    inr (omega (arith, e, far), omega (arith, more))

pub returns : goal.returns
returns c =
    let amount = c.args.self in
    let same = ap (λ s. (amount.frac + c.args.cycles * c.args.mult) / 2 ^ s)
    c.shift.ensures.value in
    let total = more_nanos amount.sec amount.frac (c.args.cycles * c.args.mult)
    c.args.desc.now.shift in
    on_top (amount.sec * 1000000000) c.gained_nanos.result _ _
    (ap (λ n. amount.sec * 1000000000 + n) same ∙ total) c.gained_nanos.ensures.stated
