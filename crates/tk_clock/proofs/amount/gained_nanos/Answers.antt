use Rattle.std.proofs.Common.{◌≡◌, ℕ, ◌+◌, ◌*◌, ◌/◌, ◌^◌, inr, sym, ap, ◌∙◌, arith}
use Rattle.std.proofs.Math.Nat.{div-div-eq-div-mul}
use Rattle.tk_clock.proofs.amount.gained_nanos.Goals as goal

-- both divisions in the other order
turned : (u d : ℕ) → u / 2 ^ 63 / d ≡ u / d / 2 ^ 63
turned u d =
    let same : 2 ^ 63 * d ≡ d * 2 ^ 63 = omega arith in
    div-div-eq-div-mul u (2 ^ 63) d
    ∙ ap (λ n. u / n) same
    ∙ sym (div-div-eq-div-mul u d (2 ^ 63))

pub returns-then-units-shift-ne0-clause-stated : goal.returns-then-units-shift-ne0-clause-stated
returns-then-units-shift-ne0-clause-stated c =
    let d = 2 ^ c.args.shift in
    let units : c.from.result * c.from-2.result + c.from-3.result
    ≡ c.args.frac + c.args.cycles * c.args.mult =
    rw (c.from.ensures, c.from-2.ensures, c.from-3.ensures) (omega arith) in
    let same = ap (λ u. u / d) units in
    inr (
      omega (
        arith,
        same,
        turned (c.from.result * c.from-2.result + c.from-3.result) d,
        c.if-units-shift-ne0.true,
      ),
      omega arith,
    )
