use Rattle.std.proofs.Common.{length, rules, sym, ap, subst, ◌∙◌, bit_and}
use Rattle.std.proofs.lemmas.List.{length-replicate}
use Rattle.std.proofs.lemmas.Nat.{and_mask}
use Rattle.tk_clock.specs.Journal.{Journal}
use Rattle.tk_clock.specs.Legal.{IsWhole}
use Rattle.tk_clock.proofs.Legal.{IsWhole-opened}
use Rattle.tk_shared.specs.Opening.{IsOpened}
use Rattle.tk_shared.proofs.prepared.prepare.Goals as goal

pub assemble-requires-clause-whole : goal.assemble-requires-clause-whole
assemble-requires-clause-whole g c =
    let answer = rw c.unwrap-keeper.ensures at c.open-2.ensures.answer in
    subst IsWhole (sym answer.1) (IsWhole-opened _ _ _ c.open-2.ensures.counter answer.0)

pub returns-clause-answer : goal.returns-clause-answer
returns-clause-answer g c =
    let answer = rw c.unwrap-keeper.ensures at c.open-2.ensures.answer in
    let whole = subst IsWhole (sym answer.1) (IsWhole-opened _ _ _ c.open-2.ensures.counter answer.0)
    in
    let opened : IsOpened c.args.desc c.args.real c.in-Ok.parts.keeper.journal =
    record {
      reading = bit_and c.read.result c.mask-mask.result;
      masked = search rules;
      opened = c.in-Ok.ensures.0 ∙ answer.1;
      whole = subst IsWhole (sym c.in-Ok.ensures.0) whole;
    } in
    (search rules, ap length c.in-Ok.ensures.2.learnt ∙ length-replicate _ _, opened, c.in-Ok.ensures.1)

pub returns-clause-reading : goal.returns-clause-reading
returns-clause-reading g c =
    let answer = rw c.unwrap-keeper.ensures at c.open-2.ensures.answer in
    let opened = ap (λ (j : Journal). j.opening.reading) (c.in-Ok.ensures.0 ∙ answer.1) in
    let masked = ap (bit_and c.read.result) c.mask-mask.ensures.value in
    record {
      answer = c.read.result;
      given = c.read.ensures.given;
      kept = opened ∙ masked ∙ and_mask c.read.result c.args.desc.bits;
    }
