-- A list of events, each of which is accepted into the journal or refused.
use Rattle.std.specs.Prelude.{ℕ, ◌+◌, List, [], ◌∷◌, Option, Some, None, Result, Ok, Err}
use Rattle.tk_clock.specs.declared.command.Entry.{Entry}
use Rattle.tk_clock.specs.declared.refusal.Refusal.{Refusal}
use Rattle.tk_clock.specs.Journal.{Journal, followed_by, accepted_count}
use Rattle.tk_clock.specs.Refusal.{first_refusal}

-- the answer to an event, and the journal after it
pub record Reply : Type 0 where
  pub answer : Result ℕ Refusal
  pub journal : Journal

-- a refused event leaves the journal unchanged; an accepted one becomes its next entry, and the
-- answer is the number of that entry
abbrev pub reply_if : Journal → Entry → Option Refusal → Reply
reply_if journal event None = record {
  answer = Ok (accepted_count journal + 1);
  journal = followed_by journal event;
}
reply_if journal event (Some refusal) = record { answer = Err refusal; journal = journal }

-- the answer to an event, by the first test that it fails
abbrev pub reply_to : Journal → Entry → Reply
reply_to journal event = reply_if journal event (first_refusal journal event)

-- the answers to a list of events, and the journal after them
pub record Run : Type 0 where
  pub answers : List (Result ℕ Refusal)
  pub journal : Journal

-- answers the events in order, each one after the journal of the earlier ones
abbrev pub run : Journal → List Entry → Run
run journal [] = record { answers = []; journal = journal }
run journal (event ∷ events) =
    let reply = reply_to journal event in
    let later = run reply.journal events in
    record { answers = reply.answer ∷ later.answers; journal = later.journal }
