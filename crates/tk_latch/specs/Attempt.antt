-- The findings of a read so far.
use Rattle.std.specs.Prelude.{◌≡◌, ℕ, ◌+◌, ◌*◌, ◌/◌, ◌<◌, ◌≤◌, List, [], ◌∷◌, ◌++◌, length, slice_index, slice_get, Some}
use Rattle.tk_clock.specs.Snapshot.{Snapshot}
use Rattle.tk_clock.specs.Words.{restored}
use Rattle.tk_latch.specs.declared.rule.History.{History}
use Rattle.tk_latch.specs.declared.rule.View.{View}
use Rattle.tk_latch.specs.Publications.{latest_words, IsBeginning}
use Rattle.tk_latch.specs.Rule.{Counts}
use Rattle.tk_latch.specs.Views.{resting, reading, found_by}

-- word 0 is the number of the latest publication, and the other ones of the first `count` words are
-- that publication's, if the sequence is still the same as at the read's beginning
abbrev pub Gathered : View → ℕ → List ℕ → View → ℕ → Type 0
Gathered begun first words view count =
    (now : ℕ) × (view ≡ reading begun.history (found_by begun.role) first now) × (first ≤ now)
    × (length words ≡ 10) × (slice_index words 0 ≡ first / 2)
    × (now ≤ first → (i : ℕ) → 1 ≤ i → i < count →
    slice_index words i ≡ slice_index (latest_words begun.history.list) i)

-- these words are the latest publication's of the history
pub record AreLatest (history : History) (words : List ℕ) : Type 0 where
  pub snapshot : Snapshot
  pub answer : restored history.counter words ≡ Some snapshot
  pub listed : slice_get history.list snapshot.front ≡ Some snapshot
  pub latest : snapshot.front + 1 ≡ length history.list

-- a whole read: both loads of the sequence, and the words between them
pub record IsAttempt (old new : View) (first : ℕ) (words : List ℕ) (last : ℕ) : Type 0 where
  pub reader : new ≡ resting new.history (found_by new.role)
  pub found : found_by new.role ≡ found_by old.role ++ first ∷ last ∷ []
  pub extends : IsBeginning old.history new.history
  pub counts : Counts new.history.list last
  pub order : first ≤ last
  pub from : 2 * length old.history.list ≤ first + 2
  pub whole : first ≡ last → AreLatest new.history words
