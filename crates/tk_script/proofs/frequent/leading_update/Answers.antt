use Rattle.std.proofs.Common.{◌∙◌, ◌++◌, ℕ, List, ap, codes}
use Rattle.tk_script.proofs.FrequentLemmas.{first-update}
use Rattle.tk_script.proofs.frequent.leading_update.Goals as goal

pub returns : goal.returns
returns c =
    let number = c.in_ok-reading.ensures in
    first-update c.args.text.now c.in_ok-rest.rest.now c.in_ok-reading.end.now number.0
    c.in_ok-reading.reading
    (c.in_ok-skip.ensures ∙ ap (λ (t : List ℕ). codes "update," ++ t) number.1) number.2
    c.in_ok-rest.ensures
