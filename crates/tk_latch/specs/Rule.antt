-- The rule of a latch (seqcount_latch_t in Documentation/locking/seqlock.rst): its words, and the
-- knowledge of its seats.
use Rattle.std.specs.Prelude.{◌≡◌, ℕ, ◌+◌, ◌*◌, ◌<◌, ◌≤◌, List, length, slice_index}
use mathlib.Core.Option.{some}
use lib.ListN.{get_elem?}
use Rattle.atomic_table.specs.Table.{State}
use Rattle.tk_clock.specs.Snapshot.{Snapshot}
use Rattle.tk_latch.specs.declared.rule.History.{History}
use Rattle.tk_latch.specs.declared.rule.View.{View}
use Rattle.tk_latch.specs.declared.rule.Role.{Role}
use Rattle.tk_latch.specs.declared.rule.Role.TheVariants.{Spent, Resting, Reading, Making, Copying, Noting}
use Rattle.tk_latch.specs.Publications.{latest_words, AreNumbered, IsBeginning, opening_of}
use Rattle.tk_latch.specs.Views.{copying}

-- the writer of a latch that was just opened: both copies contain the opening
abbrev pub started : Snapshot → View
started opening = copying (opening_of opening) 10

-- the first `count` of a snapshot's words are in copy 0, except for word 0, the front: the sequence
-- is in its place
abbrev pub InCopy0 : List ℕ → ℕ → List ℕ → Type 0
InCopy0 words count copy =
    (i : ℕ) → 1 ≤ i → i < count → slice_index words i ≡ slice_index copy i

-- the first `count` of a snapshot's words are in copy 1, except for the front
abbrev pub InCopy1 : List ℕ → ℕ → List ℕ → Type 0
InCopy1 words count copy =
    (i : ℕ) → 1 ≤ i → i < count → slice_index words (i + 9) ≡ slice_index copy i

-- word 0 is the sequence: twice the number of the latest publication, plus 1 while the next one is
-- being made. While it is odd, copy 1 is the latest publication, and copy 0 contains the words that
-- the writer has written. While it is even, copy 0 is the latest publication, and copy 1 contains
-- its first `count` words
abbrev pub Copies : List ℕ → List Snapshot → Role → Type 0
Copies words list (Making written) =
    (slice_index words 0 + 2 ≡ 2 * length list + 1) × (length written ≤ 10)
    × InCopy1 words 10 (latest_words list) × InCopy0 words (length written) written
Copies words list (Copying count) =
    (slice_index words 0 + 2 ≡ 2 * length list) × (count ≤ 10)
    × InCopy0 words 10 (latest_words list) × InCopy1 words count (latest_words list)
Copies words list _ = ⊥

-- the number of the latest of these publications is half this sequence number, rounded down
abbrev pub Counts : List Snapshot → ℕ → Type 0
Counts list sequence = (2 * length list ≤ sequence + 2) × (sequence + 1 ≤ 2 * length list)

-- the knowledge of a seat, by its role: a reader's history is a beginning of the publications, and
-- the writer's history is all of them
module _ (sequence : ℕ) (history : History) (role : Role) (writer seat : ℕ) where
  abbrev pub Knows : History → Role → Type 0
  Knows known Spent = Unit {0}
  Knows known (Resting found) = IsBeginning known history
  Knows known (Reading found first now) =
      IsBeginning known history × Counts known.list first × (first ≤ now) × (now ≤ sequence)
  Knows known (Making written) = (seat ≡ writer) × (known ≡ history) × (role ≡ Making written)
  Knows known (Copying count) = (seat ≡ writer) × (known ≡ history) × (role ≡ Copying count)
  Knows known (Noting note) =
      (seat ≡ writer) × (known ≡ history) × (role ≡ Copying 10) × IsBeginning note history

-- the rule: there is one history and one writer, whose role determines what the copies contain
pub record Latched (state : State (Unit {0}) View) : Type 0 where
  pub history : History
  pub role : Role
  pub writer : ℕ
  pub wide : length state.words ≡ 19
  pub numbered : AreNumbered history.counter 0 history.list
  pub copies : Copies state.words history.list role
  pub each : (seat : ℕ) (view : View) → get_elem? state.views seat ≡ some view →
      Knows (slice_index state.words 0) history role writer seat view.history view.role
