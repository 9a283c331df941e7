-- The facts that hold whenever the lock is free.
use Rattle.std.specs.Prelude.{◌≡◌, ℕ, ◌+◌, length, None}
use Rattle.atomic_table.specs.Seated.{TableId}
use Rattle.tk_counter.specs.Counter.{mask as greatest_reading}
use Rattle.tk_clock.specs.Journal.{Journal}
use Rattle.tk_clock.specs.Legal.{IsWhole}
use Rattle.tk_page.specs.History.{History}
use Rattle.tk_latch.specs.Latch.{LatchId, Published}
use Rattle.tk_now.specs.Life.{AreReadings}
use Rattle.tk_now.specs.Moments.{AreInOrder}
use Rattle.tk_now.specs.Views.{Announcing}
use Rattle.tk_shared.specs.History.{IsKeptOf, AreSnapshots}

-- the value under the lock, as contracts see it: the history of all accepted commands, and the
-- keeper's journal, into whose opening the first of them may be folded
pub record Guarded : Type 0 where
  pub history : Journal
  pub journal : Journal

-- all values under the lock: the journal of the keeper, the publications on the page and on the
-- latch, the greatest reading of the counter, and the number of commands that the book counts
pub record Held : Type 0 where
  pub kept : Journal
  pub shown : History
  pub latched : Published
  pub mask : ℕ
  pub total : ℕ

abbrev pub held_of : Journal → History → Published → ℕ → ℕ → Held
held_of kept shown latched mask total =
    record { kept = kept; shown = shown; latched = latched; mask = mask; total = total }

-- the history that was published on the page is whole; the keeper's journal keeps it; on the latch,
-- publication k is the snapshot of its first k entries; and the book counts every entry once
pub record IsHeld (named_page : TableId) (named_latch : LatchId) (held : Held) : Type 0 where
  pub page : held.shown.page ≡ named_page
  pub latch : held.latched.latch ≡ named_latch
  pub counter : named_latch.counter ≡ held.shown.journal.opening.counter
  pub whole : IsWhole held.shown.journal
  pub kept : IsKeptOf held.shown.journal held.kept
  pub snapshots : AreSnapshots held.shown.journal held.latched.publications
  pub latest : length held.latched.publications ≡ length held.shown.journal.entries + 1
  pub masked : held.mask ≡ greatest_reading held.shown.journal.opening.counter
  pub counted : held.total ≡ length held.shown.journal.entries

-- no command is in progress, and the commands' readings in the notice are the history's, in order
pub record IsAtRest (named_notice : TableId) (history : Journal) (notice_writer : Announcing)
    : Type 0 where
  pub notice : notice_writer.notice ≡ named_notice
  pub idle : notice_writer.since ≡ None
  pub readings : AreReadings history notice_writer.commands
  pub order : AreInOrder notice_writer.commands
