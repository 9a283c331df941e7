-- Where a reading is with respect to the seconds and the last account, for owners of clocks.
use Rattle.std.specs.Prelude.{◌≡◌, ℕ, ◌*◌, ◌^◌, ◌<◌, ◌≤◌, false, None, Ok}
use Rattle.tk_counter.specs.Counter.{half}
use Rattle.tk_clock.specs.declared.clock_id.ClockId.TheVariants.{Realtime}
use Rattle.tk_clock.specs.declared.command.Command.TheVariants.{Update}
use Rattle.tk_clock.specs.Reach.{distance}
use Rattle.tk_clock.specs.Read.{read_of}
use Rattle.tk_clock.specs.Refusal.{order_refusal}
use Rattle.tk_ntp.specs.Advance.{IsNoneDue}
use Rattle.tk_ntp.specs.SteeredClock.{SteeredClock}

-- the clocks are awake, and a read of REALTIME at a reading, which is not behind the last command,
-- returns a time before the next second
pub record IsEarly (steered : SteeredClock) (reading : ℕ) : Type 0 where
  pub awake : steered.clock.base.asleep ≡ false
  pub ahead : distance steered.clock.base reading ≤ half steered.clock.base.counter
  pub read :
      (nanos : ℕ) × (read_of steered.clock.base Realtime reading ≡ Ok nanos)
      × (nanos < steered.next * 10 ^ 9)

-- a reading is not behind the last account
abbrev pub IsInOrder : SteeredClock → ℕ → Type 0
IsInOrder steered reading =
    order_refusal steered.clock.base.counter steered.last_account reading Update ≡ None

-- no second is due up to a reading, which is not behind the last account
pub record IsSettled (steered : SteeredClock) (reading : ℕ) : Type 0 where
  pub none : IsNoneDue steered reading
  pub order : IsInOrder steered reading
