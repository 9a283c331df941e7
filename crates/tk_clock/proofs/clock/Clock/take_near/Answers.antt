use Rattle.std.proofs.Common.{◌∙◌, refl, sym, ap, subst, inl, Result, Ok}
use Rattle.tk_clock.specs.declared.command.Command.TheVariants.{Update}
use Rattle.tk_clock.specs.declared.refusal.Refusal.{Refusal}
use Rattle.tk_clock.specs.State.{ReadBase, State}
use Rattle.tk_clock.specs.Running.{IsRunning}
use Rattle.tk_clock.specs.contracts.clock.Clock.{the_view}
use Rattle.tk_clock.proofs.Effects.{settled_effect}
use Rattle.tk_clock.proofs.Settings.{IsRunning-settled}
use Rattle.tk_clock.proofs.clock.Clock.take_near.Goals as goal

pub invariant_of-self : goal.invariant_of-self
invariant_of-self c =
    let clock = c.self.inside in
    let now = rw (← c.self.view_is) at c.requires in
    subst (λ (b : ReadBase). IsRunning b clock.frequency clock.tick) (sym c.take_forward.ensures)
    (IsRunning-settled (the_view clock).base c.args.now clock.frequency clock.tick Update
    c.self.invariant (ap (λ (b : ReadBase). b.counter) now.stated)
    (ap (λ (b : ReadBase). b.mult) now.stated) now.rated refl (c.if-not-has_near_offsets.ensures refl))

pub returns : goal.returns
returns c =
    let before = the_view c.self.inside in
    let now = rw (← c.self.view_is) at c.requires in
    let put : ReadBase → State = λ b. record before { base = b } in
    let result : Result State Refusal = Ok (put c.args.now) in
    let settled = settled_effect before c.args.now.last Update (put c.args.now) result refl
    (ap put now.stated) (c.if-not-has_near_offsets.ensures refl, refl) in
    rw (← c.self.view_is) (inl (
      refl,
      settled.0,
      ap put (c.take_forward.ensures ∙ now.stated),
    ))
