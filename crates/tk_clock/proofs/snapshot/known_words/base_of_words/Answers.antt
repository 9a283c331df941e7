use Rattle.std.proofs.Common.{arith}
use Rattle.tk_clock.proofs.Words.{in_range}
use Rattle.tk_clock.proofs.snapshot.known_words.base_of_words.Goals as goal

pub overflow_cast-result : goal.overflow_cast-result
overflow_cast-result c =
    let low = (in_range c.args.desc c.args.words.now c.requires.range).mult_low in
    let fits = c.requires.counter.adjustable in
    omega (arith, low, fits)

pub overflow_cast-result-2 : goal.overflow_cast-result-2
overflow_cast-result-2 c =
    let low = (in_range c.args.desc c.args.words.now c.requires.range).tai_low in
    omega (arith, low)

pub invariant_of-result : goal.invariant_of-result
invariant_of-result c =
    let range = in_range c.args.desc c.args.words.now c.requires.range in
    record {
      described = c.requires.counter;
      last_low = range.last_low;
      mult_some = range.mult_some;
      mult_low = range.mult_low;
      frac_low = range.frac_low;
      sec_low = range.sec_low;
      raw_frac_low = range.raw_frac_low;
      raw_sec_low = range.raw_sec_low;
      tai_low = range.tai_low;
    }
