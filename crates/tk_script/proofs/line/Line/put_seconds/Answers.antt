use Rattle.std.proofs.Common.{◌∙◌, ◌+◌, ◌/◌, ◌++◌, ◌∷◌, ℕ, List, ap, arith}
use Rattle.tk_script.proofs.DigitLemmas.{decimal-ten}
use Rattle.tk_script.proofs.line.Line.put_seconds.Goals as goal

pub returns-clause-text : goal.returns-clause-text
returns-clause-text c =
    let ten =
    decimal-ten c.args.sec c.if-sec-lt1000000000.false (omega (arith, c.requires.below)) in
    let first = 48 + c.args.sec / 1000000000 in
    rw ten (
    c.put-2.ensures.text
    ∙ ap (λ (text : List ℕ). first ∷ text) (c.put.ensures.text
    ∙ ap (λ (digits : List ℕ). digits ++ c.args.self.now) c.nine_digits_of.ensures))
