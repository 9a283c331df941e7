use Rattle.std.proofs.Common.{Ok, map, string_bytes, refl, subst, sym}
use Rattle.std.proofs.lemmas.Iterator.{items_from_collect}
use Rattle.std.proofs.lemmas.Iterator.Adapters.{YieldsList-from_vec}
use Rattle.std.specs.Vec.Iter.{into_iter_items}
use Rattle.tk_program.proofs.arguments.words_of.Goals as goal

-- the collected words are all arguments
pub returns-clause-ok : goal.returns-clause-ok
returns-clause-ok g c =
    let args = c.in_ok-args_once.field-0 in
    let all = items_from_collect {E = Unit {0}} (Ok c.in_ok-words.words) c.in_ok-words.ensures.ran
    (YieldsList-from_vec (into_iter_items args) refl args.rest.ok.0) in
    subst (λ words. g.E.Arguments.args_give c.args.rt.now (Ok (map string_bytes words))) (sym all)
    c.in_ok-args_once.ensures
