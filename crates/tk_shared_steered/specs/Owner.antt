-- A caller that owns a discipline.
use Rattle.std.specs.Prelude.{◌≡◌, ℕ, length, not, nat_eq, Bool}
use Rattle.tk_clock.specs.State.{state_of}
use Rattle.tk_ntp.specs.SteeredClock.{SteeredClock}
use Rattle.tk_shared.specs.Callers.{Known}

-- the caller's knowledge, the clocks with their discipline, and the number of commands that the
-- discipline has followed
pub record Owner : Type 0 where
  pub caller : Known
  pub clock : SteeredClock
  pub count : ℕ

-- an owner, by its parts
abbrev pub owner_of : Known → SteeredClock → ℕ → Owner
owner_of caller clock count = record { caller = caller; clock = clock; count = count }

-- whether the caller has seen a command that the discipline has not followed
abbrev pub is_lost : Owner → Bool
is_lost owner = not (nat_eq (length owner.caller.seen.entries) owner.count)

-- the discipline has followed all commands that the caller has seen
abbrev pub IsFollowing : Owner → Type 0
IsFollowing owner = length owner.caller.seen.entries ≡ owner.count

-- the clocks are those of the history that the caller has seen, and the lag is accounted for up to
-- its last command
pub record IsInStep (owner : Owner) : Type 0 where
  pub clocks : owner.clock.clock ≡ state_of owner.caller.seen
  pub last_account : owner.clock.last_account ≡ owner.clock.clock.base.last

-- they are, if the discipline has followed all commands that the caller has seen
abbrev pub IsInStepIfKnown : Owner → Type 0
IsInStepIfKnown owner = IsFollowing owner → IsInStep owner
