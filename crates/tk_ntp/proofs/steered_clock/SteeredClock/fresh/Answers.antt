use Rattle.std.proofs.Common.{ap, ℕ, ◌+◌}
use Rattle.tk_clock.specs.State.{State}
use Rattle.tk_ntp.specs.SteeredClock.{SteeredClock}
use Rattle.tk_ntp.specs.Steering.{Steered}
use Rattle.tk_ntp.proofs.Consistent.{consistent_at_last}
use Rattle.tk_ntp.proofs.Settled.{owed-opened}
use Rattle.tk_ntp.proofs.steered_clock.SteeredClock.fresh.Goals as goal

abbrev opened : State → Steered → ℕ → ℕ → SteeredClock
opened clock steering sec reading =
    record { clock = clock; steering = steering; next = sec + 1; last_account = reading }

pub returns-clause-consistent : goal.returns-clause-consistent
returns-clause-consistent c =
    consistent_at_last (opened c.args.clock c.new.result c.unsigned_abs.result c.args.reading)

pub returns-clause-owes : goal.returns-clause-owes
returns-clause-owes c = λ is.
    owed-opened (opened c.args.clock c.new.result c.unsigned_abs.result c.args.reading) is
    (ap (λ (s : Steered). s.lag) c.new.ensures)
