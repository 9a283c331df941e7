use Rattle.std.proofs.Common.{◌∙◌, refl, sym, ap, inl, inr}
use Rattle.std.specs.Prelude.{pos}
use Rattle.tk_clock.specs.declared.clock_id.ClockId.TheVariants.{Monotonic, Boottime}
use Rattle.tk_c.proofs.StepTests.{read_low, read_past}
use Rattle.tk_c.proofs.steps.monotonic_within.Goals as goal

pub returns-in_default : goal.returns-in_default
returns-in_default c =
    let base = c.args.snapshot.now.base in (
      refl,
      inl
          (read_past base Monotonic c.args.reading _ c.requires
          (sym c.nanos.ensures ∙ c.in_default.is)),
    )

pub returns-in_default-nanos : goal.returns-in_default-nanos
returns-in_default-nanos c =
    let base = c.args.snapshot.now.base in (
      refl,
      inr
          (read_past base Boottime c.args.reading _ c.requires
          (sym c.nanos-2.ensures ∙ c.in_default-nanos.is)),
    )

pub returns : goal.returns
returns c =
    let base = c.args.snapshot.now.base in
    let monotonic = read_low base Monotonic c.args.reading _ (sym c.nanos.ensures ∙ c.in-Ok.is) in
    let boottime = read_low base Boottime c.args.reading _ (sym c.nanos-2.ensures ∙ c.in-Ok-nanos.is) in
    (ap pos (sym monotonic.1), monotonic.0, boottime.0)
