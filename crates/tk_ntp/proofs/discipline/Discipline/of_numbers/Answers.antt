use Rattle.std.proofs.Common.{◌≡◌, rules, w64, to_z, of_z}
use Rattle.tk_ntp.proofs.Restored.{in_range}
use Rattle.tk_ntp.proofs.discipline.Discipline.of_numbers.Goals as goal

pub invariant_of-result : goal.invariant_of-result
invariant_of-result c =
    let numbers = c.args.numbers in
    let range = in_range numbers c.requires.ranges in
    let offset : to_z w64 (of_z w64 numbers.offset) ≡ numbers.offset = search rules in
    let frequency : to_z w64 (of_z w64 numbers.frequency) ≡ numbers.frequency = search rules in
    let phase : to_z w64 (of_z w64 numbers.phase) ≡ numbers.phase = search rules in
    record {
      hz_low = range.hz_low;
      hz_high = range.hz_high;
      offset_short = rw offset range.short.offset_short;
      constant_high = range.low.constant_high;
      maxerror_high = range.low.maxerror_high;
      esterror_high = range.low.esterror_high;
      tick_low = range.low.tick_low;
      tick_high = range.low.tick_high;
      frequency_low = rw frequency range.short.frequency_low;
      reftime_high = range.low.reftime_high;
      phase_short = rw phase range.short.phase_short;
    }
