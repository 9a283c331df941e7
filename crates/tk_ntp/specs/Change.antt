-- The change that brings clocks to another rate: at most a command for the tick and one for the
-- frequency.
use Rattle.std.specs.Prelude.{ℕ, Bool, nat_eq, Option, Some, None, option_map, ℤ, if◌then◌else◌}
use Rattle.std.specs.Ordering.{int_eq}
use Rattle.tk_counter.specs.Counter.{Counter, multiplier}
use Rattle.tk_clock.specs.declared.command.Command.{Command}
use Rattle.tk_clock.specs.declared.command.Command.TheVariants.{Freq, Tick}
use Rattle.tk_ntp.specs.declared.rate.Rate.{Rate}
use Rattle.tk_ntp.specs.declared.change.Change.{Change}

-- the multiplier at a rate
abbrev pub multiplier_at : Counter → Rate → ℕ
multiplier_at counter rate = multiplier counter rate.frequency rate.tick

-- whether two rates give the same multiplier
unfoldable pub is_same : Counter → Rate → Rate → Bool
is_same counter in_force wanted =
    nat_eq (multiplier_at counter in_force) (multiplier_at counter wanted)

-- a number to be set, unless it is in force
abbrev pub unless_same : ℤ → ℤ → Option ℤ
unless_same in_force wanted = if int_eq in_force wanted then None else Some wanted

-- the numbers in which a rate differs from the rate in force
abbrev pub difference : Rate → Rate → Change
difference in_force wanted = record {
  tick = unless_same in_force.tick wanted.tick;
  frequency = unless_same in_force.frequency wanted.frequency;
}

-- the change from the rate in force to another: none if both give the same multiplier
abbrev pub change_of : Counter → Rate → Rate → Change
change_of counter in_force wanted =
    if is_same counter in_force wanted then record { tick = None; frequency = None }
    else difference in_force wanted

-- a number in force after it may have been set
abbrev pub set_to : ℤ → Option ℤ → ℤ
set_to in_force None = in_force
set_to in_force (Some given) = given

-- the rate in force after a change
abbrev pub changed : Rate → Change → Rate
changed in_force change = record {
  frequency = set_to in_force.frequency change.frequency;
  tick = set_to in_force.tick change.tick;
}

-- the command of a change for the tick
abbrev pub tick_command : Change → Option Command
tick_command change = option_map Tick change.tick

-- the command of a change for the frequency
abbrev pub frequency_command : Change → Option Command
frequency_command change = option_map Freq change.frequency
