use Rattle.std.proofs.Common.{◌∙◌, refl, ap, w64}
use Rattle.std.proofs.lemmas.Int.{to_z-of_z}
use Rattle.tk_clock.specs.State.{ReadBase, State}
use Rattle.tk_clock.specs.declared.command.Command.TheVariants.{Tai}
use Rattle.tk_clock.proofs.Ranges.{tai-between}
use Rattle.tk_clock.proofs.Effects.{settled_effect}
use Rattle.tk_clock.proofs.clock.Clock.set_tai.Goals as goal

pub with_tai-requires-clause-least : goal.with_tai-requires-clause-least
with_tai-requires-clause-least c =
    rw (to_z-of_z w64 c.args.seconds c.ranges.seconds)
    (tai-between c.args.self.now c.args.now.last c.args.seconds c.requires.early).0

pub with_tai-requires-clause-most : goal.with_tai-requires-clause-most
with_tai-requires-clause-most c =
    rw (to_z-of_z w64 c.args.seconds c.ranges.seconds)
    (tai-between c.args.self.now c.args.now.last c.args.seconds c.requires.early).1

pub returns : goal.returns
returns c =
    let state = c.args.self.now in
    let seconds = to_z-of_z w64 c.args.seconds c.ranges.seconds in
    let put : ReadBase → State = λ base. record state { base = base } in
    let set : ReadBase → State = λ base. put (record base { tai = c.args.seconds }) in
    let e = ap put (rw seconds at c.with_tai.ensures) ∙ ap set c.requires.forwarded.stated in
    settled_effect state c.args.now.last (Tai c.args.seconds) (put c.with_tai.result)
    c.settled.result refl e (rw seconds at c.settled.ensures)
