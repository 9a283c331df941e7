use Rattle.std.proofs.Common.{refl, w64}
use Rattle.std.proofs.lemmas.Int.{to_z-of_z}
use Rattle.tk_c.proofs.words.running_clock.Goals as goal

pub returns-in_default-from_snapshot : goal.returns-in_default-from_snapshot
returns-in_default-from_snapshot c =
    let refused = rw (
      to_z-of_z w64 c.args.frequency c.ranges.frequency,
      to_z-of_z w64 c.args.tick c.ranges.tick,
    )
    at c.in_default-from_snapshot.ensures in
    rw (← (rw (c.loaded.ensures) at c.in-Some.ensures.value)) refused

pub returns : goal.returns
returns c =
    let stated = rw (
      to_z-of_z w64 c.args.frequency c.ranges.frequency,
      to_z-of_z w64 c.args.tick c.ranges.tick,
    )
    at c.in-Some-from_snapshot.ensures in
    rw (← (rw (c.loaded.ensures) at c.in-Some.ensures.value)) (stated.0, rw (stated.1, c.front.ensures) refl)
