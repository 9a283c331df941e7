-- The knowledge of a latch's writer and readers, and the result of a read (seqcount_latch_t in
-- Documentation/locking/seqlock.rst).
use Rattle.std.specs.Prelude.{◌≡◌, ℕ, ◌-◌, ◌*◌, ◌/◌, ◌^◌, ◌<◌, ◌≤◌, List, [], ◌∷◌, ◌++◌, length, slice_get, Some}
use Rattle.atomic_table.specs.Seated.{TableId}
use Rattle.tk_counter.specs.Counter.{Counter}
use Rattle.tk_clock.specs.Snapshot.{Snapshot}

-- the identity of a latch, and the counter of all its snapshots
pub record LatchId : Type 0 where
  pub table : TableId
  pub counter : Counter

-- the knowledge of the writer: all publications, the opening first
pub record Published : Type 0 where
  pub latch : LatchId
  pub publications : List Snapshot

-- the knowledge of a reader: the first of the publications, and in order the sequence numbers that
-- its loads have found
pub record Learnt : Type 0 where
  pub latch : LatchId
  pub publications : List Snapshot
  pub found : List ℕ

-- the most readers of a latch
abbrev pub most_readers : ℕ
most_readers = 64

-- a latch may be opened with this number of readers
abbrev pub IsReaderCount : ℕ → Type 0
IsReaderCount count = (1 ≤ count) × (count ≤ most_readers)

-- the number of the latest of these publications; the opening is number 0
abbrev pub mark_of : List Snapshot → ℕ
mark_of publications = length publications - 1

-- the most publications that the sequence of a latch can count
abbrev pub most_publications : ℕ
most_publications = 2 ^ 63 - 1

-- the writer of a latch that was just opened
abbrev pub opened_writer : LatchId → Snapshot → Published
opened_writer latch opening = record { latch = latch; publications = opening ∷ [] }

-- a reader of a latch that was just opened
abbrev pub opened_reader : LatchId → Snapshot → Learnt
opened_reader latch opening = record { latch = latch; publications = opening ∷ []; found = [] }

-- a reader that has learnt of all publications
abbrev pub told_reader : Published → Learnt
told_reader writer = record { latch = writer.latch; publications = writer.publications; found = [] }

-- a read whose two loads of the sequence found one number: the answer is publication k, whole and
-- with front k. It is the latest one that the reader now knows of, and not earlier than the
-- reader's old mark
pub record IsRead (old new : Learnt) (snapshot : Snapshot) : Type 0 where
  pub whole : slice_get new.publications snapshot.front ≡ Some snapshot
  pub counter : snapshot.base.counter ≡ new.latch.counter
  pub mark : mark_of new.publications ≡ snapshot.front
  pub newer : mark_of old.publications ≤ snapshot.front
  pub sequence : ℕ
  pub found : new.found ≡ old.found ++ sequence ∷ sequence ∷ []
  pub half : sequence / 2 ≡ snapshot.front

-- a read whose two loads of the sequence found two numbers, the first of which is not before the
-- old mark: the new mark is the publication that was the latest when the second number was found
pub record IsMoved (old new : Learnt) (first last : ℕ) : Type 0 where
  pub found : new.found ≡ old.found ++ first ∷ last ∷ []
  pub from : 2 * mark_of old.publications ≤ first
  pub later : first < last
  pub mark : mark_of new.publications ≡ last / 2
