-- The opening of a discipline over shared clocks.
use Rattle.std.specs.Prelude.{◌≡◌, ℕ, ◌+◌, ◌<◌, Option, Some, None, unsigned_abs}
use Rattle.tk_counter.specs.Counter.{Counter}
use Rattle.tk_clock.specs.declared.command.Command.TheVariants.{Update}
use Rattle.tk_clock.specs.declared.refusal.Refusal.{Refusal}
use Rattle.tk_clock.specs.declared.timespec.Timespec.{Timespec}
use Rattle.tk_clock.specs.Journal.{followed_by, opened}
use Rattle.tk_clock.specs.Snapshot.{Snapshot}
use Rattle.tk_clock.specs.State.{ReadBase}
use Rattle.tk_clock.specs.Time.{nanoseconds, timespec_of}
use Rattle.tk_ntp.specs.Followed.{followed}
use Rattle.tk_ntp.specs.SteeredClock.{SteeredClock, steered_opened, steered_refusal}
use Rattle.tk_shared.specs.Callers.{HasRead, Known, IsInformed, IsKnownBy, entry_of}
use Rattle.tk_shared_steered.specs.declared.fault.SteeringFault.{SteeringFault}
use Rattle.tk_shared_steered.specs.declared.fault.SteeringFault.TheVariants.{Refused, Foreign}
use Rattle.tk_shared_steered.specs.Given.{IsNotGiven}
use Rattle.tk_shared_steered.specs.Owner.{Owner, IsFollowing}

-- the clocks of a caller, with a fresh discipline with this `hz`: its update is the first command
-- since the clocks were opened. The opening, which is the one that `old` knows, determines the
-- counter, `start` and `real`, whose nanoseconds `sound` bounds; the update's entry its reading
pub record IsOpenedAs (hz : ℕ) (old new : Known) (clock : SteeredClock) : Type 0 where
  pub counter : Counter
  pub start : ℕ
  pub real : Timespec
  pub reading : ℕ
  pub seen :
      new.seen ≡ followed_by (opened counter start real) (entry_of old reading Update)
  pub same : new.seen.opening ≡ old.seen.opening
  pub sound : steered_refusal counter start real hz ≡ None
  pub clock_is : clock ≡ followed reading Update (steered_opened counter start real hz)
  pub counted : new.accepted ≡ old.accepted + 1
  pub informed : IsInformed new
  pub known : IsKnownBy old new
  pub id : new.id ≡ old.id

-- the owner of these clocks
pub record HasOpened (hz : ℕ) (old : Known) (owner : Owner) : Type 0 where
  pub clocks : IsOpenedAs hz old owner.caller owner.clock
  pub following : IsFollowing owner

-- REALTIME at the reading of a first snapshot: MONOTONIC is 0 there, so it is the offset
abbrev pub real_shown : ReadBase → Timespec
real_shown base = timespec_of (unsigned_abs base.real_offset)

-- why clocks can't be opened with a discipline as their first snapshot shows them
abbrev pub shown_refusal : ReadBase → ℕ → Option Refusal
shown_refusal base hz = steered_refusal base.counter base.last (real_shown base) hz

-- clocks with a fresh discipline, opened as a snapshot before any command shows them
pub record IsShown (hz : ℕ) (snapshot : Snapshot) (clock : SteeredClock) : Type 0 where
  pub none : snapshot.front ≡ 0
  pub same : nanoseconds (real_shown snapshot.base) ≡ snapshot.base.real_offset
  pub sound : shown_refusal snapshot.base hz ≡ None
  pub clock_is :
      let base = snapshot.base in
      clock ≡ steered_opened base.counter base.last (real_shown base) hz

-- why they can't be opened: a command was accepted before, or the clocks are refused
abbrev pub IsNotShown : ℕ → Snapshot → SteeringFault → Type 0
IsNotShown hz snapshot Foreign = 0 < snapshot.front
IsNotShown hz snapshot (Refused refusal) =
    (snapshot.front ≡ 0) × (shown_refusal snapshot.base hz ≡ Some refusal)

-- a caller read the page before any command was accepted. `read` determines the snapshot: it is the
-- one of the history that `new` has seen
pub record HasSeenNone (old new : Known) : Type 0 where
  pub snapshot : Snapshot
  pub read : HasRead old new snapshot
  pub none : snapshot.front ≡ 0

-- why no discipline was opened
pub data IsUnopened (hz : ℕ) (old new : Known) : SteeringFault → Type 0 where
  -- some command was accepted before the page was read. The caller gave none
  Late : (snapshot : Snapshot) → HasRead old new snapshot → 0 < snapshot.front →
      IsUnopened hz old new Foreign
  -- the clocks with a discipline can't be opened as the page shows them. The caller gave no command
  Unsound : (refusal : Refusal) (shown : HasSeenNone old new) →
      shown_refusal shown.snapshot.base hz ≡ Some refusal → IsUnopened hz old new (Refused refusal)
  -- they can, and the update was refused, or another caller's command was accepted with it
  NotGiven : (fault : SteeringFault) (middle : Known) (shown : HasSeenNone old middle) →
      shown_refusal shown.snapshot.base hz ≡ None → IsNotGiven Update fault middle new →
      IsUnopened hz old new fault
