use Rattle.std.proofs.Common.{w64}
use Rattle.std.proofs.lemmas.Int.{to_z-of_z}
use Rattle.tk_clock.specs.Words.{restored}
use Rattle.tk_c.proofs.Restoring.{answered}
use Rattle.tk_c.proofs.words.tkc_clock_from_words.Goals as goal

pub returns : goal.returns
returns c =
    let is = rw (
      to_z-of_z w64 c.args.frequency c.ranges.frequency,
      to_z-of_z w64 c.args.tick c.ranges.tick,
    )
    at c.running_clock.ensures in
    answered (restored c.args.counter.now c.args.words.now) c.args.frequency c.args.tick
    c.running_clock.result c.args.out.now c.write_clock.new.out _ is c.write_clock.ensures
