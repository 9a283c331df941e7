use Rattle.std.proofs.Common.{rules, sym, ap, refl, ◌∙◌, arith, w64}
use Rattle.std.proofs.lemmas.Int.{ints, to_z-of_z}
use Rattle.tk_counter.specs.Counter.{multiplier}
use Rattle.tk_clock.specs.State.{ReadBase}
use Rattle.tk_clock.specs.Running.{IsRunning}
use Rattle.tk_clock.proofs.clock.Clock.from_snapshot.Goals as goal

running : (c : goal.Else-not-is_rated) → IsRunning c.snapshot.inside.base c.args.frequency c.args.tick
running c =
    let mult = rw (to_z-of_z w64 c.args.frequency c.ranges.frequency, to_z-of_z w64 c.args.tick c.ranges.tick) at c.mult_at.ensures.value in
    record {
      steered = ap (λ (b : ReadBase). b.mult) (sym c.base.view_is) ∙ c.if-base-mult_at.false ∙ mult
          ∙ ap (λ (b : ReadBase). multiplier b.counter c.args.frequency c.args.tick) c.base.view_is;
      frequency_low = omega (arith, ints, c.ranges.frequency);
      frequency_high = omega (arith, ints, c.ranges.frequency);
      tick_low = search rules;
      tick_high = search rules;
      rated = c.if-not-is_rated.ensures.0 refl;
      within = c.snapshot.invariant;
    }

pub invariant_of-result : goal.invariant_of-result
invariant_of-result c = rw (to_z-of_z w64 c.args.frequency c.ranges.frequency, to_z-of_z w64 c.args.tick c.ranges.tick) (running c)

pub returns : goal.returns
returns c =
    rw (← c.snapshot.view_is, to_z-of_z w64 c.args.frequency c.ranges.frequency, to_z-of_z w64 c.args.tick c.ranges.tick) (running c, refl)
