-- An honest counter: its readings come from true counts of cycles, which never fall.
use Rattle.std.specs.Prelude.{◌≡◌, ℕ, ◌%◌, ◌^◌, ◌<◌, ◌≤◌, List, Some, slice_get}
use Rattle.tk_now.specs.declared.rule.Taken.{Taken}
use Rattle.tk_now.specs.declared.rule.Answer.{Answer}
use Rattle.tk_now.specs.Moments.{AreInOrder, AreInLife}

-- the true count of a reading of a counter with this number of bits: the counter had reached it
-- when the read was over, and had not passed it when the read began
pub record IsTrueCount (at : ℕ → ℕ) (bits : ℕ) (t : Taken) (count : ℕ) : Type 0 where
  pub read : t.reading ≡ count % 2 ^ bits
  pub from : at t.from ≤ count
  pub to : count ≤ at t.to

-- with its reading modulo 2^bits
abbrev pub masked : ℕ → Taken → Taken
masked bits t = record t { reading = t.reading % 2 ^ bits }

-- `at` is the true count at each moment, which never falls; `command` and `answer` are the true
-- counts of the readings of commands and of readers, by their positions. A reader's reading may
-- have bits above the counter's
pub record AreTrueCounts (at command answer : ℕ → ℕ) (bits : ℕ) (commands : List Taken)
    (log : List Answer) : Type 0 where
  pub grows : (m n : ℕ) → m ≤ n → at m ≤ at n
  pub commands_read : (place : ℕ) (t : Taken) → slice_get commands place ≡ Some t →
      IsTrueCount at bits t (command place)
  pub answers_read : (i : ℕ) (a : Answer) → slice_get log i ≡ Some a →
      IsTrueCount at bits (masked bits a.taken) (answer i)

-- with an honest counter, the true counts of commands never fall; the count of an answer is at
-- least the counts of all commands up to its own, and at most the counts of all later ones; and an
-- answer whose reading was over when another's began is not above it
pub record AreTrueCountsInOrder (command answer : ℕ → ℕ) (commands : List Taken)
    (log : List Answer) : Type 0 where
  pub commands_rise : (i j : ℕ) (t u : Taken) → i < j → slice_get commands i ≡ Some t →
      slice_get commands j ≡ Some u → command i ≤ command j
  pub after : (i place : ℕ) (a : Answer) (t : Taken) → slice_get log i ≡ Some a →
      slice_get commands place ≡ Some t → place ≤ a.place → command place ≤ answer i
  pub before : (i place : ℕ) (a : Answer) (t : Taken) → slice_get log i ≡ Some a →
      slice_get commands place ≡ Some t → a.place < place → answer i ≤ command place
  pub answers_rise : (i j : ℕ) (a b : Answer) → slice_get log i ≡ Some a →
      slice_get log j ≡ Some b → a.taken.to ≤ b.taken.from → answer i ≤ answer j

abbrev pub CountsAreInOrder : Type 0
CountsAreInOrder = (at command answer : ℕ → ℕ) (bits : ℕ) (commands : List Taken)
    (log : List Answer) → AreInOrder commands → AreInLife commands log →
    AreTrueCounts at command answer bits commands log →
    AreTrueCountsInOrder command answer commands log
