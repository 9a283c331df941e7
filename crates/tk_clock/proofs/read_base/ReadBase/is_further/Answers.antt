use Rattle.std.proofs.Common.{◌≡◌, ◌<◌, ◌∙◌, ap, arith}
use Rattle.std.specs.Prelude.{◌<ℤ◌}
use Rattle.std.proofs.lemmas.Bool.{lt-ltb, ltb-true}
use Rattle.std.proofs.lemmas.Int.{ints, clamps}
use Rattle.tk_counter.specs.Counter.{half}
use Rattle.tk_clock.specs.State.{ReadBase}
use Rattle.tk_clock.specs.Limits.{limit}
use Rattle.tk_clock.specs.Origin.{mult_of}
use Rattle.tk_clock.specs.Reach.{distance}
use Rattle.tk_clock.specs.Time.{nanoseconds}
use Rattle.tk_clock.proofs.Further.{is_further, is_before, earlier, later}
use Rattle.tk_clock.proofs.read_base.ReadBase.is_further.Goals as goal

pub returns-in-Ok : goal.returns-in-Ok
returns-in-Ok c =
    let base = c.args.self.now in
    let nanos = nanoseconds c.args.time in
    let away : distance base c.reading_after.result ≡ half base.counter =
    c.reading_after.ensures.distance ∙ c.half.ensures
    ∙ ap (λ (b : ReadBase). half b.counter) c.self.view_is in
    let counts : 0 < mult_of base c.args.clock =
    omega (arith, c.if-origin-eq0.false, c.origin-origin.ensures.slope) in
    let low : nanos <ℤ limit c.args.clock =
    omega (
      arith,
      ints,
      clamps,
      c.if-nanos-from.false,
      c.nanos_from_zero-nanos.ensures.value,
      c.from.ensures,
      c.origin-origin.ensures.ends,
    ) in (
      λ e. is_further base c.args.clock nanos c.reading_after.result away counts low
          (earlier _ _ _ _ c.in-Ok.ensures.1 c.nanos_from_zero-nanos.ensures.value
          (rw c.from-in-Ok.ensures at (ltb-true _ _ e))),
      λ further. lt-ltb _ _ (rw c.from-in-Ok.ensures (later _ _ _ _ c.in-Ok.ensures.1
          c.nanos_from_zero-nanos.ensures.value
          (is_before base c.args.clock nanos c.reading_after.result away c.reading_after.ensures.low
          further).1)),
    )
