-- The capacity of a journal.
use Rattle.std.proofs.Common.{◌≡◌, ◌∙◌, ℕ, ◌<◌, ◌≤◌, length, length-drop, sym, arith, false}
use Rattle.std.specs.Prelude.{None}
use Rattle.std.proofs.lemmas.Grind.{common_steps}
use Rattle.std.proofs.lemmas.List.{length_push}
use Rattle.tk_clock.specs.declared.command.Entry.{Entry}
use Rattle.tk_clock.specs.Journal.{Journal, followed_by, accepted_count}
use Rattle.tk_clock.specs.Refusal.{is_full, first_refusal}
use Rattle.tk_clock.specs.State.{State, state_of}
use Rattle.tk_clock.specs.Legal.{Beginning}
use Rattle.tk_clock.proofs.Legal.{IsLegal-followed_by}
use Rattle.tk_clock.proofs.Refusals.{accepts_room, passes_clock}
use Rattle.tk_keeper.specs.Keeper.{IsKept}
use Rattle.tk_clock.proofs.Folding.{IsLegal-folded, state_of-whole}
use Rattle.tk_clock.specs.Limits.{listed_most, counted_most}
use Rattle.tk_clock.specs.Folding.{folded_by}

-- a journal that isn't full lists and counts less than it may
pub not_full : (journal : Journal) → is_full journal ≡ false →
    (length journal.entries < listed_most) × (accepted_count journal < counted_most)
not_full journal e = (grind (arith, common_steps), grind (arith, common_steps))

-- an accepted entry keeps the journal legal and within its limits
pub IsKept-followed_by : (began : Beginning) (journal : Journal) (entry : Entry)
    (before after : State) → IsKept began journal before →
    first_refusal journal entry ≡ None → after ≡ state_of (followed_by journal entry) →
    IsKept began (followed_by journal entry) after
IsKept-followed_by began journal entry before after held accepted running =
    let more = not_full journal (accepts_room journal entry accepted) in
    record {
      legal = IsLegal-followed_by began journal entry held.legal (passes_clock journal entry accepted);
      running = running;
      room = omega (arith, more.0, length_push journal.entries entry);
      counted = omega (arith, more.1, length_push journal.entries entry);
    }

-- folding keeps the journal legal and within its limits
pub IsKept-folded : (began : Beginning) (journal : Journal) (n : ℕ) (state : State) →
    n ≤ length journal.entries → IsKept began journal state →
    IsKept began (folded_by n journal) state
IsKept-folded began journal n state within held =
    let fewer = length-drop n journal.entries in
    record {
      legal = IsLegal-folded began journal n within held.legal;
      running = held.running ∙ sym (state_of-whole journal n within held.legal.accepted);
      room = omega (arith, fewer, held.room);
      counted = omega (arith, fewer, held.counted);
    }
