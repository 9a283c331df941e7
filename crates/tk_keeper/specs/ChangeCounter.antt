-- A change of counter: the journal is folded at it, and goes on over the new counter.
use Rattle.std.specs.Prelude.{◌≡◌, ℕ, ◌+◌, ◌<◌, ◌≤◌, [], length, false, nat_le, Option, Some, if◌then◌else◌}
use Rattle.tk_counter.specs.Counter.{Counter}
use Rattle.tk_clock.specs.declared.clock_id.ClockId.{ClockId}
use Rattle.tk_clock.specs.declared.refusal.Refusal.{Refusal}
use Rattle.tk_clock.specs.declared.refusal.Refusal.TheVariants.{Full}
use Rattle.tk_clock.specs.ChangeCounter.{changed, change_refusal, IsUpTo}
use Rattle.tk_clock.specs.Clocks.{clock_value}
use Rattle.tk_clock.specs.Folding.{journal_from}
use Rattle.tk_clock.specs.Journal.{Journal, prefix, accepted_count}
use Rattle.tk_clock.specs.Life.{IsInLife}
use Rattle.tk_clock.specs.Limits.{counted_most}
use Rattle.tk_clock.specs.Monotonic.{monotonic}
use Rattle.tk_clock.specs.Origin.{is_coarse}
use Rattle.tk_clock.specs.State.{base_of, state_of}

-- the journal after a change from a reading of its counter to a reading of another one: the change
-- is the last command before its opening, and it lists no entry yet
abbrev pub changed_by : Journal → ℕ → Counter → ℕ → Journal
changed_by journal reading counter first =
    journal_from (accepted_count journal + 1) (changed (state_of journal) reading counter first) []

-- why a change is refused after a journal: the journal counts the most commands that it may, or the
-- first test of the clocks that fails. A change lists no entry, so a journal may list its most
abbrev pub counter_refusal : Journal → ℕ → Counter → ℕ → Option Refusal
counter_refusal journal reading counter first =
    if nat_le counted_most (accepted_count journal) then Some Full
    else change_refusal (state_of journal) reading counter first

-- each clock that isn't coarse has the same value, in nanoseconds, before the change and after it
abbrev pub AgreesOver : Journal → ℕ → Journal → ℕ → Type 0
AgreesOver before reading after first =
    (clock : ClockId) → is_coarse clock ≡ false →
    clock_value before clock reading ≡ clock_value after clock first

-- MONOTONIC of the journal before the change or of its prefix, read in its life, is at most
-- MONOTONIC of the journal after the change at any reading; the life of the whole journal ends at
-- the change
pub record RisesOver (before : Journal) (change : ℕ) (after : Journal) : Type 0 where
  pub whole : (reading reading' : ℕ) → IsUpTo (base_of before) change reading →
      monotonic before reading ≤ monotonic after reading'
  pub prefixes : (n reading reading' : ℕ) → n < length before.entries →
      IsInLife before n reading → monotonic (prefix n before) reading ≤ monotonic after reading'
