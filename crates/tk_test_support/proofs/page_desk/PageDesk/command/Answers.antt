use Rattle.std.proofs.Common.{◌≡◌, ℕ, ◌+◌, ap, ◌∙◌, arith}
use Rattle.std.specs.Prelude.{None}
use Rattle.std.proofs.lemmas.List.{length_push}
use Rattle.tk_clock.specs.declared.command.Command.{Command}
use Rattle.tk_clock.specs.declared.command.Entry.{Entry}
use Rattle.tk_clock.specs.Journal.{Journal, followed_by, accepted_count}
use Rattle.tk_clock.specs.Refusal.{state_refusal}
use Rattle.tk_clock.specs.State.{State, state_of, effect}
use Rattle.tk_clock.proofs.Legal.{state_of-followed_by}
use Rattle.tk_test_support.proofs.page_desk.PageDesk.command.Goals as goal

-- the clocks and the number of commands after an accepted command are the ones of the journal with
-- its entry
accepted : (journal : Journal) (clock now : State) (front next reading : ℕ) (cmd : Command) →
    clock ≡ state_of journal → front ≡ accepted_count journal →
    state_refusal clock reading cmd ≡ None → now ≡ effect clock reading cmd → next ≡ front + 1 →
    (let entry : Entry = record { who = 0; reading = reading; cmd = cmd } in
    (now ≡ state_of (followed_by journal entry))
    × (next ≡ accepted_count (followed_by journal entry)))
accepted journal clock now front next reading cmd running known free stated counted = (
  stated ∙ state_of-followed_by journal clock 0 reading cmd running free,
  omega (
    arith,
    known,
    counted,
    length_push journal.entries (record { who = 0; reading = reading; cmd = cmd }),
  ),
)

pub publish-requires-clause-snapshot : goal.publish-requires-clause-snapshot
publish-requires-clause-snapshot g c =
    let desk = c.self.inside in
    let stated = accepted desk.publisher.journal desk.clock _ desk.front _ _ _ c.self.invariant.0
    c.self.invariant.1 c.in_ok-apply.ensures.0 c.in_ok-apply.ensures.1 c.in-Some.ensures.1 in
    c.snapshot-snapshot.ensures
    ∙ (λ i. record { front = stated.1 i; base = ap (λ (s : State). s.base) stated.0 i })

pub invariant_of-self-2 : goal.invariant_of-self-2
invariant_of-self-2 g c =
    let desk = c.self.inside in
    rw c.publish.ensures
    (accepted desk.publisher.journal desk.clock _ desk.front _ _ _ c.self.invariant.0
    c.self.invariant.1 c.in_ok-apply.ensures.0 c.in_ok-apply.ensures.1 c.in-Some.ensures.1)
