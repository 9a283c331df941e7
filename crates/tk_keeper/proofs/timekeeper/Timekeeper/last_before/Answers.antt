use Rattle.std.proofs.Common.{◌≡◌, ◌∙◌, ◌-◌, sym, length, ap, arith}
use Rattle.std.specs.Prelude.{Some, slice_get}
use Rattle.tk_keeper.specs.Keeper.{Keeper}
use Rattle.tk_keeper.proofs.Steps.{listed_item}
use Rattle.tk_keeper.proofs.timekeeper.Timekeeper.last_before.Goals as goal

pub returns : goal.returns
returns g c =
    let entry = c.row.result.now in
    let place = c.args.place - 1 in
    let listed = ap (λ (k : Keeper). length k.journal.entries) c.self.view_is in
    let here : slice_get c.self.inside.entries.items place ≡ Some entry =
    listed_item c.self.inside.entries.items place entry
    (omega (arith, listed, c.requires.some, c.requires.listed)) c.row.ensures in
    sym (ap (λ (k : Keeper). slice_get k.journal.entries place) c.self.view_is) ∙ here
