use Rattle.std.proofs.Common.{◌≡◌, ◌∙◌, sym, ap, ℕ, ◌+◌, ◌*◌, pos, arith}
use Rattle.std.specs.Prelude.{◌*ℤ◌}
use Rattle.std.proofs.Math.IntN.{zero-*ℤ}
use Rattle.tk_counter.specs.Counter.{multiplier}
use Rattle.tk_clock.specs.State.{State}
use Rattle.tk_ntp.specs.Rate.{nominal}
use Rattle.tk_ntp.proofs.steered_clock.SteeredClock.open.Goals as goal

pub returns-clause-consistent : goal.returns-clause-consistent
returns-clause-consistent c =
    c.fresh.ensures.consistent (sym (ap (λ (s : State). s.base.last) c.in_ok-clock.ensures.answer.1))

-- no cycles at a multiplier add nothing
nothing : (mult : ℕ) → 0 + 0 * mult ≡ 0
nothing mult = omega arith

pub returns-clause-nothing : goal.returns-clause-nothing
returns-clause-nothing c =
    let is = c.in_ok-clock.ensures.answer.1 in
    c.fresh.ensures.owes (sym (ap (λ (s : State). s.base.last) is))
    ∙ ap (λ (s : State). pos s.base.amount *ℤ pos nominal) is
    ∙ ap (λ (n : ℕ). pos n *ℤ pos nominal) (nothing (multiplier c.args.desc (pos 0) (pos 10000)))
    ∙ zero-*ℤ (pos nominal)
