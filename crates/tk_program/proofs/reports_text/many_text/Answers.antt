use Rattle.std.proofs.Common.{List, ℕ, ◌++◌, ap, sym, ◌∙◌, append_assoc}
use Rattle.tk_program.specs.ManyText.{heading, outcome_text}
use Rattle.tk_program.proofs.ManyText.{text_more}
use Rattle.tk_program.proofs.reports_text.many_text.Goals as goal

pub loop-index-preserved : goal.loop-index-preserved
loop-index-preserved g c =
    let index = c.loop-index.index in
    let outcome = c.index-outcomes-index.result in
    let above = heading index in
    let text = outcome_text outcome in
    c.in_ok-add_outcome.ensures
    ∙ ap (λ (l : List ℕ). l ++ text) c.in_ok-add_heading.ensures
    ∙ append_assoc c.loop-index.text.items above text
    ∙ ap (λ (l : List ℕ). l ++ (above ++ text)) c.loop-index.invariant
    ∙ sym (text_more c.args.outcomes.now index outcome c.loop-index-test.true
    c.index-outcomes-index.is)
