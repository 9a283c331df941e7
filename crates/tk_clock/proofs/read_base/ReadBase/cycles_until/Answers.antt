use Rattle.std.proofs.Common.{◌≡◌, ◌*◌, ◌<◌, ap, ◌∙◌, subst, arith}
use Rattle.tk_counter.specs.Counter.{half}
use Rattle.tk_clock.specs.State.{ReadBase}
use Rattle.tk_clock.proofs.read_base.ReadBase.cycles_until.Goals as goal

pub returns-in_default : goal.returns-in_default
returns-in_default c =
    let most : c.half-most.result ≡ half c.args.self.now.counter =
    c.half-most.ensures ∙ ap (λ (b : ReadBase). half b.counter) c.self.view_is in
    λ cycles near.
    c.units_until-units.ensures.needed cycles
    (subst (λ m. cycles * m < c.units_until-units.result) c.origin-origin.ensures.slope
    (c.in_default.ensures cycles (omega (arith, most, near, c.half-most.type_inv))))
