use Rattle.std.proofs.Common.{◌≡◌, ◌∙◌, ◌++◌, ℕ, List, length, take, drop, ap, sym, arith}
use Rattle.std.proofs.lemmas.List.{take-append-drop, take_all, take_more_same}
use Rattle.tk_script.proofs.PlainLemmas.{range-to_end}
use Rattle.tk_script.proofs.frequent.skip.Goals as goal

pub loop-i-preserved : goal.loop-i-preserved
loop-i-preserved c =
    take_more_same c.args.text.now c.args.beginning.now c.loop-i.i 0
    (omega (arith, c.if-text-beginning.false, c.loop-i-test.true)) c.loop-i-test.true
    c.loop-i.invariant c.if-text-i.false

pub returns : goal.returns
returns c =
    let text = c.args.text.now in
    let beginning = c.args.beginning.now in
    let all : c.loop-i.i ≡ length beginning =
    omega (arith, c.loop-i-test.false, c.loop-i.auto.i-end) in
    let same : take (length beginning) text ≡ beginning =
    rw all at c.loop-i.invariant ∙ take_all (length beginning) beginning (omega arith) in
    sym (take-append-drop (length beginning) text)
    ∙ ap (λ (xs : List ℕ). xs ++ drop (length beginning) text) same
    ∙ ap (λ (xs : List ℕ). beginning ++ xs) (sym (range-to_end (length beginning) text))
