use Rattle.std.proofs.Common.{arith, w64}
use Rattle.std.proofs.lemmas.Int.{ints, to_z-of_z}
use Rattle.tk_ntp.specs.Numbers.{steered_numbers}
use Rattle.tk_c.specs.CountedNtp.{whole}
use Rattle.tk_c.proofs.Ranges.{frequency_low}
use Rattle.tk_c.proofs.steered_parts.tkc_ntp_frequency.Goals as goal

pub replied-requires : goal.replied-requires
replied-requires c =
    let steered = (whole c.args.ntp.now).steered in
    let low = frequency_low steered.clock (steered_numbers steered) steered
    (c.numbers.ensures.back steered.clock) in
    let same = c.numbers.ensures.value in
    rw same (rw (to_z-of_z w64 steered.steering.ntp.frequency (omega (arith, ints, low))) low)
