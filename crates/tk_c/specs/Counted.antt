-- Clocks that count the commands that they accept.
use Rattle.std.specs.Prelude.{◌≡◌, ℕ, ◌+◌, Option, Some, nat_le, if◌then◌else◌, MatchOption}
use Rattle.tk_clock.specs.declared.command.Command.{Command}
use Rattle.tk_clock.specs.declared.refusal.Refusal.{Refusal}
use Rattle.tk_clock.specs.declared.refusal.Refusal.TheVariants.{Full}
use Rattle.tk_clock.specs.Limits.{counted_most}
use Rattle.tk_clock.specs.Refusal.{state_refusal}
use Rattle.tk_clock.specs.Snapshot.{Snapshot}
use Rattle.tk_clock.specs.State.{effect}
use Rattle.tk_c.specs.declared.counted.CountedClock.{CountedClock}
use Rattle.tk_c.specs.declared.code.Code.TheVariants.{Done, BadCommand}
use Rattle.tk_c.specs.Codes.{number_of, code_of_refusal}

-- why a command is refused; the test for a full count comes first
abbrev pub counted_refusal : CountedClock → ℕ → Command → Option Refusal
counted_refusal counted reading cmd =
    if nat_le counted_most counted.front then Some Full
    else state_refusal counted.clock reading cmd

-- the effect of an accepted command: it is counted too
abbrev pub counted_effect : CountedClock → ℕ → Command → CountedClock
counted_effect counted reading cmd = record {
  clock = effect counted.clock reading cmd;
  front = counted.front + 1;
}

-- the code that a call returns for the command with a number, if there is one, and the clocks after
-- the call: a refusal doesn't change them
abbrev pub IsApplied : CountedClock → ℕ → Option Command → ℕ → CountedClock → Type 0
IsApplied old reading named code new =
    MatchOption named
    ((code ≡ number_of BadCommand) × (new ≡ old))
    (λ cmd. MatchOption (counted_refusal old reading cmd)
    ((code ≡ number_of Done) × (new ≡ counted_effect old reading cmd))
    (λ refusal. (code ≡ number_of (code_of_refusal refusal)) × (new ≡ old)))

-- the snapshot of clocks that count their commands
abbrev pub counted_snapshot : CountedClock → Snapshot
counted_snapshot counted = record { front = counted.front; base = counted.clock.base }
