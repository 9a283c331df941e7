use Rattle.std.proofs.Common.{◌∙◌, ◌++◌, ℕ, List, ap, codes, sym}
use Rattle.tk_script.proofs.FrequentLemmas.{first-look}
use Rattle.tk_script.proofs.frequent.leading_look.Goals as goal

pub returns : goal.returns
returns c =
    let number = c.in_ok-reading.ensures in
    let word = c.leading_field.ensures in
    let comma = c.in_ok-skip-2.ensures ∙ ap (λ (t : List ℕ). codes "," ++ t) word.split in
    first-look c.args.text.now c.in_ok-rest.rest.now c.in_ok-expected.end.now
    c.leading_field.result.1.now number.0 c.leading_field.result.0.now c.in_ok-reading.reading
    c.in_ok-clock.clock c.in_ok-expected.expected
    (c.in_ok-skip.ensures ∙ ap (λ (t : List ℕ). codes "get," ++ t)
    (number.1 ∙ ap (λ (t : List ℕ). number.0 ++ t) comma)) number.2
    (sym c.clock_word.ensures ∙ c.in_ok-clock.was) word.whole c.in_ok-expected.ensures
    c.in_ok-rest.ensures
