-- The clocks of a report, which list no command, and the journals with which they agree.
use Rattle.std.specs.Prelude.{◌≡◌, ℕ, Option, Some, None, Result, IfOk}
use Rattle.tk_clock.specs.declared.refusal.Refusal.{Refusal}
use Rattle.tk_clock.specs.Journal.{Journal, accepted_count, last_reading}
use Rattle.tk_clock.specs.Limits.{counted_most, listed_most}
use Rattle.tk_clock.specs.Run.{Reply}
use Rattle.tk_clock.specs.State.{State, state_of}

-- the most commands that are accepted over one counter: by `rule_of`, only a journal that is not
-- folded is full before the count reaches its limit
abbrev pub most_of : Option ℕ → ℕ
most_of None = listed_most
most_of (Some keep) = counted_most

-- clocks; the number of commands that they accepted, and of those before the present counter or
-- before the script; and the most that they accept over one counter
pub record Counted : Type 0 where
  pub clock : State
  pub count : ℕ
  pub since : ℕ
  pub most : ℕ

-- the clocks are those of a journal that lists every command over its counter
pub record IsKept (keep : Option ℕ) (clocks : Counted) (journal : Journal) : Type 0 where
  pub clock : clocks.clock ≡ state_of journal
  pub count : clocks.count ≡ accepted_count journal
  pub since : clocks.since ≡ journal.opening.count
  pub most : clocks.most ≡ most_of keep

-- a fact about every journal whose clocks they are
abbrev pub ForKept : Counted → (Option ℕ → Journal → Type 0) → Type 0
ForKept clocks Holds =
    (keep : Option ℕ) (journal : Journal) → IsKept keep clocks journal → Holds keep journal

-- the clocks gave a reply's answer and are those of its journal; an accepted command brought them
-- forward to this reading
pub record IsReplied (keep : Option ℕ) (reading : ℕ) (result : Result ℕ Refusal) (clocks : Counted)
    (reply : Reply) : Type 0 where
  pub answer : reply.answer ≡ result
  pub kept : IsKept keep clocks reply.journal
  pub last : IfOk result (λ number. last_reading reply.journal ≡ reading)
