use Rattle.std.proofs.Common.{◌∙◌, ◌++◌, ℕ, List, ap, codes}
use Rattle.tk_script.proofs.FrequentLemmas.{first-stamp}
use Rattle.tk_script.proofs.frequent.Tuple2U64U64Frequent.leading.Goals as goal

pub returns : goal.returns
returns c =
    let front = c.in_ok-front.ensures in
    let stamp = c.in_ok-stamp.ensures in
    let comma = c.in_ok-skip.ensures ∙ ap (λ (t : List ℕ). codes "," ++ t) stamp.1 in
    first-stamp c.args.text.now c.in_ok-rest.rest.now c.in_ok-stamp.end.now front.0 stamp.0
    c.in_ok-front.front c.in_ok-stamp.stamp
    (front.1 ∙ ap (λ (t : List ℕ). front.0 ++ t) comma) front.2 stamp.2 c.in_ok-rest.ensures
