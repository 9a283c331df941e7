use Rattle.std.proofs.Common.{◌≡◌, ◌∙◌, ap, refl, sym, subst, ◌-◌, ◌<◌, arith}
use Rattle.std.specs.Prelude.{Ok, Err}
use Rattle.tk_clock.specs.declared.command.Command.TheVariants.{Update}
use Rattle.tk_clock.specs.Reach.{distance}
use Rattle.tk_clock.specs.State.{effect}
use Rattle.tk_keeper.specs.Room.{keeper_state}
use Rattle.tk_ntp.specs.Asked.{after_command}
use Rattle.tk_ntp.specs.Course.{seen}
use Rattle.tk_ntp.specs.Early.{IsInSecond}
use Rattle.tk_ntp.proofs.Early.{from_second, in_second, settled, updated}
use Rattle.tk_steered.specs.Kept.{IsObeyed, SteeredKeeper}
use Rattle.tk_steered.proofs.Settled.{followed}
use Rattle.tk_steered.proofs.steered.Steered.apply_update.Goals as goal

pub invariant_of-self : goal.invariant_of-self
invariant_of-self g c =
    let reading = c.args.reading in
    let kept = c.self.inside in
    let s = seen (keeper_state kept.keeper) kept.course in
    let cycles = c.cycles_to-cycles.result in
    let low : cycles < kept.early = omega (arith, c.if-cycles-self.false) in
    let is : cycles ≡ distance s.clock.base reading =
    c.cycles_to-cycles.ensures
    ∙ ap (λ (k : SteeredKeeper). distance (keeper_state k.keeper).base reading)
    (sym c.self.view_is) in
    let inside = in_second kept.early cycles s low c.self.invariant in
    let next = after_command reading Update (effect s.clock reading Update) s in
    from_second (kept.early - cycles)
    (seen (keeper_state c.apply_settled.new.clocks) c.apply_settled.new.self)
    (subst (IsInSecond (kept.early - cycles)) (sym c.in-Ok.ensures.answer.1)
    (subst (λ n. IsInSecond (kept.early - n) next) (sym is)
    (updated kept.early reading s inside (subst (λ n. n < kept.early) is low))))

pub returns-in-Ok : goal.returns-in-Ok
returns-in-Ok g c =
    let reading = c.args.reading in
    let kept = c.self.inside in
    let s = seen (keeper_state kept.keeper) kept.course in
    let cycles = c.cycles_to-cycles.result in
    let low : cycles < kept.early = omega (arith, c.if-cycles-self.false) in
    let is : cycles ≡ distance s.clock.base reading =
    c.cycles_to-cycles.ensures
    ∙ ap (λ (k : SteeredKeeper). distance (keeper_state k.keeper).base reading)
    (sym c.self.view_is) in
    let inside = in_second kept.early cycles s low c.self.invariant in
    subst (λ (k : SteeredKeeper). IsObeyed c.args.who reading Update k (Ok (tt {0}))
    (record { keeper = c.apply_settled.new.clocks; course = c.apply_settled.new.self }))
    c.self.view_is
    (followed c.args.who reading kept.keeper kept.course (Ok (tt {0})) c.apply_settled.new.clocks
    c.apply_settled.new.self
    (settled kept.early reading s inside (subst (λ n. n < kept.early) is low))
    (c.if-not-is_ready.ensures.0 refl) c.in-Ok.ensures)

pub returns-in-Err : goal.returns-in-Err
returns-in-Err g c =
    let reading = c.args.reading in
    let kept = c.self.inside in
    let s = seen (keeper_state kept.keeper) kept.course in
    let cycles = c.cycles_to-cycles.result in
    let low : cycles < kept.early = omega (arith, c.if-cycles-self.false) in
    let is : cycles ≡ distance s.clock.base reading =
    c.cycles_to-cycles.ensures
    ∙ ap (λ (k : SteeredKeeper). distance (keeper_state k.keeper).base reading)
    (sym c.self.view_is) in
    let inside = in_second kept.early cycles s low c.self.invariant in
    subst (λ (k : SteeredKeeper). IsObeyed c.args.who reading Update k (Err c.in-Err.refusal)
    (record { keeper = c.apply_settled.new.clocks; course = c.apply_settled.new.self }))
    c.self.view_is
    (followed c.args.who reading kept.keeper kept.course (Err c.in-Err.refusal)
    c.apply_settled.new.clocks c.apply_settled.new.self
    (settled kept.early reading s inside (subst (λ n. n < kept.early) is low))
    (c.if-not-is_ready.ensures.0 refl) c.in-Err.ensures)
