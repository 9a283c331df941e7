use Rattle.std.proofs.Common.{◌∙◌, sym, ap, pos, ◌≤◌, arith}
use Rattle.std.specs.Prelude.{ℤ, ◌*ℤ◌, ◌≤ℤ◌, ◌<ℤ◌, unsigned_abs}
use Rattle.std.proofs.lemmas.Int.{ints}
use Rattle.tk_clock.specs.Limits.{clock_end, settable_end}
use Rattle.tk_clock.specs.State.{State}
use Rattle.tk_clock.proofs.Ranges.{settable-below}
use Rattle.tk_clock.proofs.Uptime.{opens-settable}
use Rattle.tk_ntp.specs.Rate.{nominal}
use Rattle.tk_ntp.proofs.Accepted.{first}
use Rattle.tk_ntp.proofs.steered_clock.SteeredClock.open_at.Goals as goal
use borrow.Author.Differences.{abs_is}

below : (sec : ℤ) → pos 0 ≤ℤ sec → sec <ℤ pos settable_end → unsigned_abs sec ≤ clock_end
below sec low high = omega (arith, ints, abs_is, low, high)

pub fresh-requires : goal.fresh-requires
fresh-requires c =
    let times =
    settable-below c.args.real
    (opens-settable c.args.desc c.args.reading c.args.real
    (first _ _ c.in_ok-clock.ensures.answer.0)) in
    below c.args.real.sec times.since times.until

pub returns-clause-consistent : goal.returns-clause-consistent
returns-clause-consistent c =
    c.fresh.ensures.consistent (sym (ap (λ (s : State). s.base.last) c.in_ok-clock.ensures.answer.1))

pub returns-clause-counted : goal.returns-clause-counted
returns-clause-counted c =
    let is = c.in_ok-clock.ensures.answer.1 in
    c.fresh.ensures.owes (sym (ap (λ (s : State). s.base.last) is))
    ∙ ap (λ (s : State). pos s.base.amount *ℤ pos nominal) is
