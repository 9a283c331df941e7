use Rattle.std.proofs.Common.{arith}
use Rattle.std.proofs.lemmas.Int.{ints}
use Rattle.tk_clock.specs.Amount.{amount_of-units_of}
use Rattle.tk_clock.proofs.read_base.ReadBase.prove_ranges.Goals as goal

pub returns : goal.returns
returns c =
    let base = c.self.inside in
    rw (← c.self.view_is) (record {
      numbers = rw (
        amount_of-units_of base.desc base.monotonic c.self.invariant.frac_low,
        amount_of-units_of base.desc base.raw c.self.invariant.raw_frac_low,
      ) c.self.invariant;
      real_offset = omega (arith, ints);
      boot_offset = omega (arith, ints);
      tai = omega (arith, ints);
    })
