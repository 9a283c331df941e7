use Rattle.std.proofs.Common.{◌≡◌, ◌<◌, length, arith}
use Rattle.std.proofs.lemmas.Grind.{common_steps}
use Rattle.tk_script.proofs.PlainLemmas.{first-ended, first-last, first-none}
use Rattle.tk_script.proofs.plain.first_line.Goals as goal

pub returns-then-is_empty-clause-record : goal.returns-then-is_empty-clause-record
returns-then-is_empty-clause-record c =
    let text = c.after_empty_lines-text in
    let empty : length text.result.now ≡ 0 =
    grind (arith, common_steps, c.is_empty.ensures, c.if-is_empty.true) in
    first-none c.args.text.now text.result.now text.ensures.same empty

pub returns-in-Some-clause-record : goal.returns-in-Some-clause-record
returns-in-Some-clause-record c =
    let text = c.after_empty_lines-text in
    (first-ended c.args.text.now text.result.now c.in-Some.end text.ensures.same text.ensures.plain
    text.ensures.first c.in-Some.ensures).0

pub returns-in-Some-clause-plain : goal.returns-in-Some-clause-plain
returns-in-Some-clause-plain c =
    let text = c.after_empty_lines-text in
    (first-ended c.args.text.now text.result.now c.in-Some.end text.ensures.same text.ensures.plain
    text.ensures.first c.in-Some.ensures).1

pub returns-in-None-clause-record : goal.returns-in-None-clause-record
returns-in-None-clause-record c =
    let text = c.after_empty_lines-text in
    let some : 0 < length text.result.now =
    grind (arith, common_steps, c.is_empty.ensures, c.if-is_empty.false) in
    first-last c.args.text.now text.result.now text.ensures.same text.ensures.plain some
    c.in-None.ensures
