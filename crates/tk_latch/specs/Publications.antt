-- Publications: snapshots of one counter under consecutive numbers.
use Rattle.std.specs.Prelude.{◌≡◌, ℕ, ◌+◌, List, [], ◌∷◌, ◌++◌, length, Some}
use mathlib.Core.List.{IsPrefix}
use Rattle.tk_counter.specs.Counter.{Counter}
use Rattle.tk_clock.specs.Snapshot.{Snapshot}
use Rattle.tk_clock.specs.Words.{words_of, restored, snapshot_of_words}
use Rattle.tk_latch.specs.declared.rule.History.{History}

-- the words of the latest of these publications
abbrev pub latest_words : List Snapshot → List ℕ
latest_words [] = []
latest_words (snapshot ∷ []) = words_of snapshot
latest_words (snapshot ∷ next ∷ more) = latest_words (next ∷ more)

-- publication k of a latch with this counter: its words restore it, and its front is k
pub record IsPublication (counter : Counter) (k : ℕ) (snapshot : Snapshot) : Type 0 where
  pub whole : restored counter (words_of snapshot) ≡ Some snapshot
  pub front : snapshot.front ≡ k

-- these are the publications k, k + 1, and so on
abbrev pub AreNumbered : Counter → ℕ → List Snapshot → Type 0
AreNumbered counter k [] = Unit {0}
AreNumbered counter k (snapshot ∷ more) =
    IsPublication counter k snapshot × AreNumbered counter (k + 1) more

-- a history is a beginning of a later one: the counter is the same, and its publications are the
-- first ones of the later one
abbrev pub IsBeginning : History → History → Type 0
IsBeginning history later = (history.counter ≡ later.counter) × IsPrefix history.list later.list

-- the history with only the opening
abbrev pub opening_of : Snapshot → History
opening_of snapshot = record { counter = snapshot.base.counter; list = snapshot ∷ [] }

-- the history with one more publication
abbrev pub pushed : History → Snapshot → History
pushed history snapshot = record history { list = history.list ++ snapshot ∷ [] }

-- the history with one more publication, which these words encode
abbrev pub pushed_words : History → List ℕ → History
pushed_words history words = pushed history (snapshot_of_words history.counter words)

-- these words encode the next publication
pub record IsNext (history : History) (words : List ℕ) : Type 0 where
  pub publication :
      IsPublication history.counter (length history.list) (snapshot_of_words history.counter words)
  pub words_again : words_of (snapshot_of_words history.counter words) ≡ words
