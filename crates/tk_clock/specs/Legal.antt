-- Which journals can exist: clocks that began in some way can have the opening's state, and all
-- entries were accepted.
use Rattle.std.specs.Prelude.{◌≡◌, ℕ, ◌+◌, ◌≤◌, slice_get, Some, None}
use Rattle.tk_counter.specs.Counter.{Counter, IsCounter}
use Rattle.tk_clock.specs.declared.timespec.Timespec.{Timespec}
use Rattle.tk_clock.specs.declared.command.Entry.{Entry}
use Rattle.tk_clock.specs.Journal.{Opening, Journal, opened, prefix, accepted_count}
use Rattle.tk_clock.specs.State.{State, state_of}
use Rattle.tk_clock.specs.Refusal.{clock_refusal, opening_refusal}
use Rattle.tk_clock.specs.ChangeCounter.{changed, change_refusal}
use Rattle.tk_clock.specs.Limits.{counted_most}
use Rattle.tk_clock.specs.Running.{AreClocks}

-- each entry was accepted after the entries before it
abbrev pub IsAccepted : Journal → Type 0
IsAccepted journal =
    (k : ℕ) (entry : Entry) → slice_get journal.entries k ≡ Some entry →
    clock_refusal (prefix k journal) entry ≡ None

-- a journal that lists every command since the clocks were opened
pub record IsWhole (journal : Journal) : Type 0 where
  pub described : IsCounter journal.opening.counter
  pub opens : (reading : ℕ) × (real : Timespec)
      × (opening_refusal journal.opening.counter reading real ≡ None)
      × (journal.opening ≡ (opened journal.opening.counter reading real).opening)
  pub accepted : IsAccepted journal

-- the opening that a journal leaves when its n entries are folded into it
abbrev pub folded_opening : ℕ → State → Opening
folded_opening n state = record {
  counter = state.base.counter;
  reading = state.base.last;
  count = n;
  amount = state.base.amount;
  raw_amount = state.base.raw_amount;
  frequency = state.frequency;
  tick = state.tick;
  real_offset = state.base.real_offset;
  boot_offset = state.base.boot_offset;
  tai = state.base.tai;
  asleep = state.base.asleep;
}

-- how clocks began: they were opened, or they were given as they ran, after this many commands
pub data Beginning : Type 0 where
  Opened : Beginning
  Given : ℕ → State → Beginning

-- an opening with which the clocks of a journal begin to run over a counter: they were opened with
-- it; they were given; or their counter was changed after a journal over another one, all of whose
-- entries were accepted
pub data IsStart : Beginning → Opening → Type 0 where
  AtOpening : (counter : Counter) (reading : ℕ) (real : Timespec) → IsCounter counter →
      opening_refusal counter reading real ≡ None →
      IsStart Opened (opened counter reading real).opening
  AtClocks : (front : ℕ) (state : State) → front ≤ counted_most → AreClocks state →
      IsStart (Given front state) (folded_opening front state)
  AtChange : (began : Beginning) (before : Journal) (reading : ℕ) (counter : Counter) (first : ℕ) →
      IsStart began before.opening → IsAccepted before → IsCounter counter →
      change_refusal (state_of before) reading counter first ≡ None →
      IsStart began (folded_opening (accepted_count before + 1)
      (changed (state_of before) reading counter first))

-- a journal that lists every command since the clocks began to run over its counter
pub record IsUnfolded (began : Beginning) (journal : Journal) : Type 0 where
  pub starts : IsStart began journal.opening
  pub accepted : IsAccepted journal

-- a journal that begins in the state that some such journal leaves, and whose entries were all
-- accepted; if no entry was folded, that journal has no entries
pub record IsLegal (began : Beginning) (journal : Journal) : Type 0 where
  pub past : (unfolded : Journal) × IsUnfolded began unfolded
      × (journal.opening ≡ folded_opening (accepted_count unfolded) (state_of unfolded))
  pub accepted : IsAccepted journal
