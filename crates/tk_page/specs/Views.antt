-- The rule of the page's cell: its words, and the knowledge of the passes to it.
use Rattle.std.specs.Prelude.{◌≡◌, ℕ, ◌+◌, List, length, Bool, true, false, Some}
use mathlib.Core.Option.{some}
use lib.ListN.{get_elem?}
use Rattle.tk_counter.specs.Counter.{Counter}
use Rattle.tk_clock.specs.declared.command.Entry.{Entry}
use Rattle.tk_clock.specs.Journal.{Journal, followed_by}
use Rattle.tk_clock.specs.Snapshot.{snapshot_of}
use Rattle.tk_clock.specs.Words.{words_of, restored}
use Rattle.tk_page.specs.declared.view.View.{View}
use Rattle.tk_page.specs.declared.view.View.TheVariants.{Fresh, Spent, Viewing, Publishing, Comparing}
use Rattle.tk_page.specs.History.{Begins, no_journal, longer}
use Rattle.tk_page.specs.Packing.{packed, unpacked}

-- the journal that a pass knows
abbrev pub journal_of : View → Journal
journal_of Fresh = no_journal
journal_of Spent = no_journal
journal_of (Viewing count seen) = seen
journal_of (Publishing own) = own
journal_of (Comparing own noted) = own

-- the number of reads that the viewer of this pass has made: only the step of a read adds to it
abbrev pub reads_of : View → ℕ
reads_of (Viewing count seen) = count
reads_of _ = 0

-- the journal that a viewer saw, noted next to the publisher's journal
abbrev pub noted_of : View → Journal
noted_of (Comparing own noted) = noted
noted_of _ = no_journal

abbrev pub is_fresh : View → Bool
is_fresh Fresh = true
is_fresh _ = false

-- a viewer's pass, the counter of its journal, and the number of entries of that journal; no entry
-- was folded
pub record IsViewer (view : View) (counter : Counter) (front : ℕ) : Type 0 where
  pub viewing : view ≡ Viewing (reads_of view) (journal_of view)
  pub counted : counter ≡ (journal_of view).opening.counter
  pub fronted : front ≡ length (journal_of view).entries
  pub whole : (journal_of view).opening.count ≡ 0

-- the words of a page encode a journal's snapshot, and the snapshot can be restored from them
pub record Shows (words : List ℕ) (journal : Journal) : Type 0 where
  pub value : words ≡ packed (words_of (snapshot_of journal))
  pub back : restored journal.opening.counter (unpacked words) ≡ Some (snapshot_of journal)

-- the knowledge of the pass `by` is true of the journal published so far: a viewer's journal begins
-- it, and the journal of the one publisher, whose pass is `seat`, is all of it
abbrev pub Fits : Journal → ℕ → ℕ → View → Type 0
Fits published seat by Fresh = Unit {0}
Fits published seat by Spent = Unit {0}
Fits published seat by (Viewing count seen) = Begins seen published
Fits published seat by (Publishing own) = (by ≡ seat) × (own ≡ published)
Fits published seat by (Comparing own noted) =
    (by ≡ seat) × (own ≡ published) × Begins noted published

-- the words encode the snapshot of the journal published so far, and the knowledge of every pass is
-- true of it; if a pass is fresh, it is the only one
pub record Kept (words : List ℕ) (views : List View) : Type 0 where
  pub published : Journal
  pub seat : ℕ
  pub shown : Shows words published
  pub each : (by : ℕ) (view : View) → get_elem? views by ≡ some view → Fits published seat by view
  pub alone : (by : ℕ) (view : View) → get_elem? views by ≡ some view →
      is_fresh view ≡ true → length views ≡ 1

-- the page is opened: the pass becomes the publisher's, with a journal without entries
abbrev pub Opened : Journal → View → List ℕ → List ℕ → View → Type 0
Opened journal view before after view' = view' ≡ Publishing journal

-- the publisher's journal gets one more entry, and the noted journal begins its former journal
abbrev pub Published : Entry → View → List ℕ → List ℕ → View → Type 0
Published entry view before after view' =
    (view' ≡ Publishing (followed_by (journal_of view) entry))
    × Begins (noted_of view) (journal_of view)

-- one more read: the journal published so far is seen, and the words encode its snapshot
abbrev pub Seen : View → List ℕ → List ℕ → View → Type 0
Seen view before after view' =
    (view' ≡ Viewing (reads_of view + 1) (journal_of view'))
    × Begins (journal_of view) (journal_of view') × Shows after (journal_of view')

-- the noted journal begins the publisher's, and the words encode the snapshot of the publisher's
-- journal
abbrev pub Compared : View → List ℕ → List ℕ → View → Type 0
Compared view before after view' =
    (view' ≡ Publishing (journal_of view)) × Begins (noted_of view) (journal_of view)
    × Shows after (journal_of view)

-- a viewer with the same knowledge that has made no read itself
abbrev pub copy_of : View → View
copy_of view = Viewing 0 (journal_of view)

-- a viewer that knows the longer journal, and counts the reads of both
abbrev pub longer_of : View → View → View
longer_of one other =
    Viewing (reads_of one + reads_of other) (longer (journal_of one) (journal_of other))

-- the publisher, with the journal that a viewer has seen noted next to its own
abbrev pub with_note : View → View → View
with_note own noted = Comparing (journal_of own) (journal_of noted)
