use Rattle.std.proofs.Common.{◌∙◌, Err, ap, inr, sym}
use Rattle.std.proofs.lemmas.Result.{err_from_is_err_and}
use Rattle.tk_script.specs.Cursor.{fields_of, left_in}
use Rattle.tk_script.proofs.stamps.next_stamp.Goals as goal

pub returns-then-not-branch-clause-takes : goal.returns-then-not-branch-clause-takes
returns-then-not-branch-clause-takes c = λ rs e.
    rw c.if-not-branch.true at (c.in_ok-advance.ensures.takes rs
    (ap left_in c.in_default.ensures.none ∙ e))

pub returns-in_err-item-clause-takes : goal.returns-in_err-item-clause-takes
returns-in_err-item-clause-takes c = λ rs e.
    let some = rw c.if-not-branch.false at (c.in_ok-advance.ensures.takes rs
    (ap left_in c.in_default.ensures.none ∙ e)) in
    let exit = err_from_is_err_and c.from_residual-in_err-item.result
    c.from_residual-in_err-item.ensures.1 in
    rw exit.1 (inr (
      fields_of c.advance.new.self,
      some.0,
      some.1,
      sym c.read_stamp.ensures ∙ c.in_err-item.was ∙ ap Err (sym exit.2),
    ))

pub returns-clause-takes : goal.returns-clause-takes
returns-clause-takes c = λ rs e.
    let some = rw c.if-not-branch.false at (c.in_ok-advance.ensures.takes rs
    (ap left_in c.in_default.ensures.none ∙ e)) in (
      fields_of c.advance.new.self,
      some.0,
      some.1,
      some.2,
      sym c.read_stamp.ensures ∙ c.in_ok-item.was,
    )
