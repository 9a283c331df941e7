use Rattle.std.proofs.Common.{◌∙◌, ap}
use Rattle.std.specs.Prelude.{ℤ, ◌+ℤ◌}
use Rattle.tk_clock.specs.Time.{nanoseconds}
use Rattle.tk_c.proofs.StepTests.{real_is, refused, accepted}
use Rattle.tk_c.proofs.steps.stepped_within.Goals as goal

pub returns-in-Some : goal.returns-in-Some
returns-in-Some c =
    let base = c.args.snapshot.now.base in
    let real = real_is base c.args.reading c.args.monotonic c.origin.result.offset c.requires.value
    c.origin.ensures.start in (
      accepted base c.args.reading c.args.by c.args.monotonic _ c.requires.early c.requires.value
          real c.requires.monotonic c.requires.boottime c.in-Some.ensures.1 c.in-Some.ensures.2,
      real,
      c.in-Some.ensures.0 ∙ ap (λ (z : ℤ). z +ℤ nanoseconds c.args.by) real,
    )

pub returns-in-None : goal.returns-in-None
returns-in-None c =
    let base = c.args.snapshot.now.base in
    let real = real_is base c.args.reading c.args.monotonic c.origin.result.offset c.requires.value
    c.origin.ensures.start in
    refused base c.args.reading c.args.by c.args.monotonic _ c.requires.early c.requires.value real
    c.requires.monotonic c.requires.boottime c.in-None.ensures
