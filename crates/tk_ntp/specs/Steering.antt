-- A discipline with its lag: the rate that a second needs, and the commands for it.
use Rattle.std.specs.Prelude.{ℕ, ℤ, ◌+ℤ◌}
use Rattle.tk_counter.specs.Counter.{Counter}
use Rattle.tk_ntp.specs.declared.rate.Rate.{Rate}
use Rattle.tk_ntp.specs.declared.change.Change.{Change}
use Rattle.tk_ntp.specs.Ntp.{Ntp, second_length}
use Rattle.tk_ntp.specs.Second.{begun}
use Rattle.tk_ntp.specs.Lag.{lag_after, made_up}
use Rattle.tk_ntp.specs.Rate.{rate_for}
use Rattle.tk_ntp.specs.Change.{change_of}

-- a discipline, and what its clock lags behind
pub record Steered : Type 0 where
  pub ntp : Ntp
  pub lag : ℤ

-- after some cycles of the counter at a multiplier
abbrev pub accounted : Counter → ℕ → ℕ → Steered → Steered
accounted counter mult cycles steered = record steered {
  lag = lag_after counter (second_length steered.ntp) mult cycles steered.lag;
}

-- after the second `sec` of REALTIME has begun, `cycles` cycles after the last account
abbrev pub second_begun : Counter → ℕ → ℕ → ℕ → Steered → Steered
second_begun counter mult cycles sec steered = record (accounted counter mult cycles steered) {
  ntp = begun steered.ntp sec;
}

-- the length that the present second needs: the one that it was asked to have, and what it makes up
-- for
abbrev pub needed : Counter → Steered → ℤ
needed counter steered = second_length steered.ntp +ℤ made_up counter steered.lag

-- the rate that gives it this length
abbrev pub needed_rate : Counter → Steered → Rate
needed_rate counter steered = rate_for (needed counter steered) steered.ntp.tick

-- the commands for the present second, at the rate in force
abbrev pub commands : Counter → Rate → Steered → Change
commands counter in_force steered = change_of counter in_force (needed_rate counter steered)
