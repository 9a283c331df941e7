-- Single commands of a caller, and the reading that it knows of each.
use Rattle.std.specs.Prelude.{◌≡◌, ◌⊎◌, ℕ, ◌+◌, ◌<◌, length}
use Rattle.tk_clock.specs.declared.command.Command.{Command}
use Rattle.tk_clock.specs.declared.refusal.Refusal.{Refusal}
use Rattle.tk_clock.specs.Journal.{followed_by}
use Rattle.tk_clock.specs.Snapshot.{Snapshot}
use Rattle.tk_shared.specs.Callers.{HasRead, Known, IsAccepted, IsInformed, IsKnownBy, IsRefused, entry_of}
use Rattle.tk_shared_steered.specs.declared.fault.SteeringFault.{SteeringFault}
use Rattle.tk_shared_steered.specs.declared.fault.SteeringFault.TheVariants.{Refused, Foreign}

-- a caller's command was accepted at this reading: its entry is the only one after those that the
-- caller had seen. The caller was informed of everything, and knows all that it knew
pub record IsGiven (cmd : Command) (reading : ℕ) (old new : Known) : Type 0 where
  pub seen : new.seen ≡ followed_by old.seen (entry_of old reading cmd)
  pub counted : new.accepted ≡ old.accepted + 1
  pub informed : IsInformed new
  pub known : IsKnownBy old new
  pub id : new.id ≡ old.id

-- a caller gave this command and no other: it was refused; or it was accepted, and the caller read
-- the page after it
abbrev pub HasTried : Command → Known → Known → Type 0
HasTried cmd old new =
    ((refusal : Refusal) × IsRefused old new cmd refusal)
    ⊎ ((middle : Known) × (number : ℕ) × (snapshot : Snapshot)
    × IsAccepted old middle cmd number × HasRead middle new snapshot)

-- with a command, a caller has seen another caller's entry: more entries than its own commands
pub record IsOvertaken (cmd : Command) (old new : Known) : Type 0 where
  pub tried : HasTried cmd old new
  pub more : length old.seen.entries < length new.seen.entries
  pub others : length old.seen.entries + new.accepted < length new.seen.entries + old.accepted

-- why the reading of a command isn't known: the command was refused, after which the caller has
-- seen no new entry; or the caller has seen another caller's entry
abbrev pub IsNotGiven : Command → SteeringFault → Known → Known → Type 0
IsNotGiven cmd (Refused refusal) old new =
    (new.seen ≡ old.seen) × IsRefused old new cmd refusal
IsNotGiven cmd Foreign old new = IsOvertaken cmd old new
