-- Clocks that a discipline steers, and the commands that it gives them at a reading
-- (timekeeping_adjust, kernel/time/timekeeping.c).
use Rattle.std.specs.Prelude.{ℕ, ◌+◌, pos, ◌&&◌, nat_le, nat_lt, unsigned_abs, Option, Some, None, if◌then◌else◌}
use Rattle.tk_counter.specs.Counter.{Counter, gap}
use Rattle.tk_clock.specs.declared.command.Command.{Command}
use Rattle.tk_clock.specs.declared.command.Command.TheVariants.{Update}
use Rattle.tk_clock.specs.declared.refusal.Refusal.{Refusal}
use Rattle.tk_clock.specs.declared.refusal.Refusal.TheVariants.{Invalid}
use Rattle.tk_clock.specs.declared.timespec.Timespec.{Timespec}
use Rattle.tk_clock.specs.Journal.{opened}
use Rattle.tk_clock.specs.Refusal.{first_of, opening_refusal, order_refusal, state_refusal}
use Rattle.tk_clock.specs.State.{State, state_of, effect}
use Rattle.tk_ntp.specs.declared.rate.Rate.{Rate}
use Rattle.tk_ntp.specs.declared.change.Change.{Change}
use Rattle.tk_ntp.specs.Change.{tick_command, frequency_command}
use Rattle.tk_ntp.specs.Ntp.{Ntp, fresh}
use Rattle.tk_ntp.specs.Steering.{Steered, accounted, commands}

pub record SteeredClock : Type 0 where
  -- the running clocks
  pub clock : State
  -- the discipline, and what the clocks lag behind
  pub steering : Steered
  -- the second of REALTIME that begins next
  pub next : ℕ
  -- the reading up to which the lag is accounted for
  pub last_account : ℕ

-- why no discipline can be made: `hz` is not 1 to 1024
abbrev pub hz_refusal : ℕ → Option Refusal
hz_refusal hz = if nat_lt 0 hz && nat_le hz 1024 then None else Some Invalid

-- why steered clocks can't be opened: the clocks can't, or `hz` is not 1 to 1024
abbrev pub steered_refusal : Counter → ℕ → Timespec → ℕ → Option Refusal
steered_refusal counter reading real hz =
    first_of (opening_refusal counter reading real) (hz_refusal hz)

-- clocks that were opened at a reading with a time of REALTIME, steered by a discipline
abbrev pub steered_by : Ntp → ℕ → Timespec → State → SteeredClock
steered_by ntp reading real clock = record {
  clock = clock;
  steering = record { ntp = ntp; lag = pos 0 };
  next = unsigned_abs real.sec + 1;
  last_account = reading;
}

-- newly opened clocks with a fresh discipline
abbrev pub steered_opened : Counter → ℕ → Timespec → ℕ → SteeredClock
steered_opened counter reading real hz =
    steered_by (fresh hz) reading real (state_of (opened counter reading real))

-- why a call at a reading is refused: the clocks refuse an update there, or the reading is behind
-- the one up to which the lag is accounted for
abbrev pub reading_refusal : ℕ → SteeredClock → Option Refusal
reading_refusal reading steered =
    first_of (state_refusal steered.clock reading Update)
    (order_refusal steered.clock.base.counter steered.last_account reading Update)

-- the lag is accounted for up to a reading, at the multiplier and the length in force
abbrev pub accounted_to : ℕ → SteeredClock → SteeredClock
accounted_to reading steered =
    let base = steered.clock.base in
    record steered {
      steering =
          accounted base.counter base.mult (gap base.counter steered.last_account reading) steered.steering;
      last_account = reading;
    }

-- the clocks are taken over from an owner who has updated them
abbrev pub caught_up : State → SteeredClock → SteeredClock
caught_up clock steered = record (accounted_to clock.base.last steered) { clock = clock }

-- the state after a command, or the one before it if the command is refused
abbrev pub after_or : Option Refusal → State → State → State
after_or None after before = after
after_or (Some refusal) after before = before

-- the clocks after a command at a reading: a refused command changes nothing
abbrev pub given : ℕ → Command → State → State
given reading cmd clock =
    after_or (state_refusal clock reading cmd) (effect clock reading cmd) clock

-- the clocks after a command that may be missing
abbrev pub given_any : ℕ → Option Command → State → State
given_any reading None clock = clock
given_any reading (Some cmd) clock = given reading cmd clock

-- the clocks after a change of their rate: the tick, then the frequency
abbrev pub given_change : ℕ → Change → State → State
given_change reading change clock =
    given_any reading (frequency_command change) (given_any reading (tick_command change) clock)

-- the rate that the clocks run at
abbrev pub rate_in_force : State → Rate
rate_in_force clock = record { frequency = clock.frequency; tick = clock.tick }

-- the clocks get the rate that the present second needs
abbrev pub steered_at : ℕ → SteeredClock → SteeredClock
steered_at reading steered =
    let clock = steered.clock in
    let change = commands clock.base.counter (rate_in_force clock) steered.steering in
    record steered { clock = given_change reading change clock }
