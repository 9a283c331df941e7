-- Folding moves the first entries of a journal into its opening, and changes no later value.
use Rattle.std.specs.Prelude.{◌≡◌, ℕ, ◌+◌, List, drop}
use Rattle.tk_clock.specs.declared.command.Entry.{Entry}
use Rattle.tk_clock.specs.Journal.{Journal, prefix, accepted_count}
use Rattle.tk_clock.specs.Legal.{folded_opening}
use Rattle.tk_clock.specs.State.{State, state_of}

-- the journal that begins in a state, `count` commands after the clocks were opened
abbrev pub journal_from : ℕ → State → List Entry → Journal
journal_from count start entries =
    record { opening = folded_opening count start; entries = entries }

-- the journal with its first `places` entries folded into its opening
abbrev pub folded_by : ℕ → Journal → Journal
folded_by places journal =
    journal_from (journal.opening.count + places) (state_of (prefix places journal))
    (drop places journal.entries)

-- two journals with the same number of accepted commands and the same state: the same clocks, and
-- the same frequency and tick in force
pub record IsAlike (journal other : Journal) : Type 0 where
  pub state : state_of journal ≡ state_of other
  pub count : accepted_count journal ≡ accepted_count other
