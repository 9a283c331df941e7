use Rattle.std.proofs.Common.{rules, ◌∙◌, arith, ap}
use Rattle.std.specs.Prelude.{slice_index}
use Rattle.tk_clock.specs.Words.{restored}
use Rattle.tk_page.proofs.Packed.{are_small, unpacks}
use Rattle.tk_page.proofs.packing.pack.Goals as goal

pub overflow_mul-result : goal.overflow_mul-result
overflow_mul-result c =
    let small = (are_small _ _ c.words.ensures.value c.words.ensures.back).tai in omega arith

pub overflow_add-result : goal.overflow_add-result
overflow_add-result c =
    let small = (are_small _ _ c.words.ensures.value c.words.ensures.back).tai in
    let mult = c.from.type_inv in
    omega arith

pub overflow_mul-result-2 : goal.overflow_mul-result-2
overflow_mul-result-2 c =
    let small = (are_small _ _ c.words.ensures.value c.words.ensures.back).raw_sec in omega arith

pub overflow_add-result-2 : goal.overflow_add-result-2
overflow_add-result-2 c =
    let small = are_small _ _ c.words.ensures.value c.words.ensures.back in
    let sec = small.sec in
    let raw_sec = small.raw_sec in
    omega arith

pub returns-clause-back : goal.returns-clause-back
returns-clause-back c =
    let small = are_small _ _ c.words.ensures.value c.words.ensures.back in
    let sec = small.sec in
    let words = c.words.ensures.value in
    ap (restored c.args.snapshot.now.base.counter)
    (unpacks c.args.snapshot.now (search rules) (omega (arith, ap (λ ws. slice_index ws 4) words)))
    ∙ c.words.ensures.back
