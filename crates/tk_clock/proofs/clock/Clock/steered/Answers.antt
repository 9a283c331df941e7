use Rattle.std.proofs.Common.{◌≤◌, ◌∙◌, sym, ap, subst, arith, w64}
use Rattle.std.proofs.lemmas.Int.{ints, to_z-of_z}
use Rattle.tk_counter.specs.Counter.{multiplier}
use Rattle.tk_clock.specs.State.{ReadBase, base_value}
use Rattle.tk_clock.proofs.Steering.{multiplier_some}
use Rattle.tk_clock.proofs.Settings.{within_boot, within_plain}
use Rattle.tk_clock.proofs.clock.Clock.steered.Goals as goal

pub with_mult-base-requires-clause-some : goal.with_mult-base-requires-clause-some
with_mult-base-requires-clause-some c =
    let counter = c.now.inside.desc in
    let same = rw (
      to_z-of_z w64 c.args.frequency c.ranges.frequency,
      to_z-of_z w64 c.args.tick c.ranges.tick,
    ) at c.mult_at.ensures.value in
    subst (λ m. 1 ≤ m) (sym same)
    (multiplier_some counter c.args.frequency c.args.tick c.now.invariant.described.mult_low
    c.requires.slowest)

pub invariant_of-result : goal.invariant_of-result
invariant_of-result c =
    let base = c.with_mult-base.result in
    let stated = c.with_mult-base.ensures in
    let past = sym c.if-is_past_limit.ensures in
    let plain = within_plain (λ clock. base_value base clock base.last) c.args.cmd c.requires.plain
    past in
    let mult = rw (
      to_z-of_z w64 c.args.frequency c.ranges.frequency,
      to_z-of_z w64 c.args.tick c.ranges.tick,
    ) at c.mult_at.ensures.value in
    let counter = ap (λ (b : ReadBase). b.counter) c.now.view_is in
    rw (
      to_z-of_z w64 c.args.frequency c.ranges.frequency,
      to_z-of_z w64 c.args.tick c.ranges.tick,
    ) record {
      steered = ap (λ (b : ReadBase). b.mult) stated ∙ mult
          ∙ ap (λ k. multiplier k c.args.frequency c.args.tick) counter
          ∙ ap (λ (b : ReadBase). multiplier b.counter c.args.frequency c.args.tick) (sym stated);
      frequency_low = omega (arith, ints, c.ranges.frequency);
      frequency_high = omega (arith, ints, c.ranges.frequency);
      tick_low = c.requires.slowest;
      tick_high = c.requires.fastest;
      rated = rw stated c.requires.rated;
      within = record {
        real_low = plain.0;
        boot_low = within_boot (λ clock. base_value base clock base.last) c.args.cmd past;
        tai_low = plain.1;
      };
    }
