use Rattle.std.proofs.Common.{◌≡◌, ◌∙◌, ◌-◌, true, sym, ap, arith}
use Rattle.std.specs.Prelude.{None, nat_lt, slice_get, if◌then◌else◌, Bool}
use Rattle.std.proofs.lemmas.Grind.{common_steps}
use Rattle.std.proofs.lemmas.Option.{gets}
use Rattle.std.proofs.lemmas.Bool.{lt-ltb}
use Rattle.tk_keeper.proofs.timekeeper.Timekeeper.entry.Goals as goal

pub returns : goal.returns
returns g c =
    let keeper = c.self.inside in
    let place = c.args.number - keeper.folded - 1 in
    let later : nat_lt keeper.folded c.args.number ≡ true =
    lt-ltb keeper.folded c.args.number c.if-number-self.false in
    let found : c.get.result ≡ slice_get keeper.entries.items place =
    grind (arith, common_steps, gets) in
    rw (← c.self.view_is)
    (found ∙ ap (λ (b : Bool). if b then slice_get keeper.entries.items place
    else None) (sym later))
