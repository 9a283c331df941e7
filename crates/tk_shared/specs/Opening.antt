-- How a shared keeper is opened.
use Rattle.std.specs.Prelude.{◌≡◌, ℕ, ◌≤◌, [], replicate, not, nat_lt, ◌||◌, Option, Some, None, if◌then◌else◌}
use Rattle.atomic_table.specs.Seated.{TableId}
use Rattle.tk_counter.specs.Counter.{Counter, mask}
use Rattle.tk_clock.specs.declared.timespec.Timespec.{Timespec}
use Rattle.tk_clock.specs.Journal.{Journal, opened}
use Rattle.tk_clock.specs.Legal.{IsWhole}
use Rattle.tk_clock.specs.Limits.{is_settable}
use Rattle.tk_clock.specs.Snapshot.{snapshot_of}
use Rattle.tk_now.specs.Views.{opened_notice_writer}
use Rattle.tk_latch.specs.Latch.{LatchId, most_readers, opened_writer, opened_reader}
use Rattle.tk_shared.specs.declared.fault.OpenError.{OpenError}
use Rattle.tk_shared.specs.declared.fault.OpenError.TheVariants.{Count, Invalid, Memory}
use Rattle.tk_shared.specs.declared.parts.Parts.{Parts}
use Rattle.tk_shared.specs.declared.parts.Shared.{Shared}
use Rattle.tk_shared.specs.declared.parts.Writers.{Writers}
use Rattle.tk_shared.specs.Folds.{IsCounting, NoticeIds}

-- the prepared parts: the page, the latch, the two notices, the ledger's name, the number of
-- callers, the journal without entries, and the capacity in commands
pub record Start : Type 0 where
  pub page : TableId
  pub latch : LatchId
  pub notice : NoticeIds
  pub ledger : ℕ
  pub callers : ℕ
  pub journal : Journal
  pub spare : ℕ

-- the names of the two notices of these parts
abbrev pub notices_of : Shared → NoticeIds
notices_of shared = record { commands = shared.notice; folds = shared.folds }

-- what `open` gets from these parts, with a ledger of this name, for this number of callers
abbrev pub start_of : Parts → ℕ → ℕ → Start
start_of parts ledger callers = record {
  page = parts.shared.page;
  latch = parts.shared.latch;
  notice = notices_of parts.shared;
  ledger = ledger;
  callers = callers;
  journal = parts.keeper.journal;
  spare = parts.keeper.spare;
}

-- a type's names are the names of the prepared parts; every caller has one part of the ledger
abbrev pub IsNamed : Start → TableId → LatchId → NoticeIds → ℕ → ℕ → ℕ → Type 0
IsNamed start page latch notice ledger parts callers =
    (start.page ≡ page) × (start.latch ≡ latch) × (start.notice ≡ notice)
    × (start.ledger ≡ ledger) × (start.callers ≡ parts) × (start.callers ≡ callers)

-- the page, the latch and the two notices have these names
abbrev pub AreNamed : TableId → LatchId → NoticeIds → Shared → Type 0
AreNamed page latch notice shared =
    (shared.page ≡ page) × (shared.latch ≡ latch) × (shared.notice ≡ notice.commands)
    × (shared.folds ≡ notice.folds)

-- these write them, no command is in progress, and this number of entries is folded
abbrev pub AreWriters : Shared → ℕ → Writers → Type 0
AreWriters shared folded writers =
    (writers.page.page ≡ shared.page) × (writers.latch.latch ≡ shared.latch)
    × (writers.notice.notice ≡ shared.notice) × (writers.notice.since ≡ None)
    × IsCounting shared.folds folded writers.folds

-- the name of no page, of no notices, and of no latch
abbrev pub no_page : TableId
no_page =
    record { words = 0; slots = 0; views_name = 0; atom = 0; block = 0; offset = 0; slot_names = [] }

abbrev pub no_notices : NoticeIds
no_notices = record { commands = no_page; folds = no_page }

abbrev pub no_latch : LatchId
no_latch = record { table = no_page; counter = record { bits = 0; mult = 0; shift = 0 } }

-- the most callers of a keeper: every caller has a reader of the latch
abbrev pub most_callers : ℕ
most_callers = most_readers

-- why a keeper can't be opened, unless an allocation fails: too few callers or too many, then a
-- time that REALTIME may not be set to
abbrev pub opening_fault : ℕ → Timespec → Option OpenError
opening_fault callers real =
    if nat_lt callers 1 || nat_lt most_callers callers then Some Count
    else if not (is_settable real) then Some Invalid
    else None

-- whether this is the fault: it is Memory only if there is no other fault
abbrev pub IsOpenFault : ℕ → Timespec → OpenError → Type 0
IsOpenFault callers real Memory = opening_fault callers real ≡ None
IsOpenFault callers real error = opening_fault callers real ≡ Some error

-- the clocks as they were opened, at some possible reading of the counter
pub record IsOpened (counter : Counter) (real : Timespec) (journal : Journal) : Type 0 where
  pub reading : ℕ
  pub masked : reading ≤ mask counter
  pub opened : journal ≡ opened counter reading real
  pub whole : IsWhole journal

-- a page and a latch that show the journal without entries, a reader for each caller, the writer of
-- a notice that was opened at the journal's reading, and a list without folds
pub record IsReady (start : Start) (parts : Parts) : Type 0 where
  pub published : parts.writers.page ≡ record { page = start.page; journal = start.journal }
  pub seen : parts.viewer ≡ record { page = start.page; reads = 0; journal = start.journal }
  pub latched : parts.writers.latch ≡ opened_writer start.latch (snapshot_of start.journal)
  pub learnt : parts.readers.items
      ≡ replicate start.callers (opened_reader start.latch (snapshot_of start.journal))
  pub announced : parts.writers.notice
      ≡ opened_notice_writer start.notice.commands start.journal.opening.reading
  pub unfolded : IsCounting start.notice.folds 0 parts.writers.folds
  pub counter : start.latch.counter ≡ start.journal.opening.counter
  pub whole : IsWhole start.journal
  pub empty : start.journal.entries ≡ []
  pub few : start.callers ≤ most_callers
