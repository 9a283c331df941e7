-- Steered clocks that are opened with an uptime.
use Rattle.std.specs.Prelude.{ℕ, Option}
use Rattle.tk_counter.specs.Counter.{Counter}
use Rattle.tk_clock.specs.declared.refusal.Refusal.{Refusal}
use Rattle.tk_clock.specs.declared.timespec.Timespec.{Timespec}
use Rattle.tk_clock.specs.Refusal.{first_of}
use Rattle.tk_clock.specs.Uptime.{running_refusal, opened_running}
use Rattle.tk_ntp.specs.Ntp.{fresh}
use Rattle.tk_ntp.specs.SteeredClock.{SteeredClock, hz_refusal, steered_by}

-- why steered clocks can't be opened with an uptime: the clocks can't, or `hz` is not 1 to 1024
abbrev pub steered_running_refusal : Counter → ℕ → Timespec → Timespec → ℕ → Option Refusal
steered_running_refusal counter reading real uptime hz =
    first_of (running_refusal counter reading real uptime) (hz_refusal hz)

-- steered clocks that are opened with an uptime: the clocks have counted it, and all else is as in
-- newly opened clocks
abbrev pub steered_running : Counter → ℕ → Timespec → Timespec → ℕ → SteeredClock
steered_running counter reading real uptime hz =
    steered_by (fresh hz) reading real (opened_running counter reading real uptime)
