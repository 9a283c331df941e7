-- A fold keeps the clocks.
use Rattle.std.proofs.Common.{◌≡◌, ◌∙◌, ap, sym, ℕ, ◌-◌, ◌≤◌, List, length, arith}
use Rattle.std.proofs.lemmas.List.{take_all}
use Rattle.tk_clock.specs.declared.command.Entry.{Entry}
use Rattle.tk_clock.specs.Journal.{Journal, accepted_count, prefix}
use Rattle.tk_clock.specs.State.{state_of}
use Rattle.tk_keeper.specs.Past.{IsFolded}

whole : (journal : Journal) (n : ℕ) → length journal.entries ≤ n → prefix n journal ≡ journal
whole journal n within =
    ap (λ (es : List Entry). record journal { entries = es }) (take_all n journal.entries within)

pub state_kept : (before after : Journal) → IsFolded before after → state_of after ≡ state_of before
state_kept before after folded =
    let front = accepted_count before in
    let all = folded.all in
    sym (ap state_of (whole after (front - after.opening.count) (omega (arith, all))))
    ∙ folded.states front (omega (arith, all))
    ∙ ap state_of (whole before (front - before.opening.count) (omega arith))
