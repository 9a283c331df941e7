use Rattle.std.proofs.Common.{◌∙◌, refl, sym}
use Rattle.tk_ntp.proofs.course.Course.ask.Goals as goal

pub returns-in_default : goal.returns-in_default
returns-in_default g c =
    let a = c.args.clocks.now in
    rw (sym c.step.ensures ∙ c.in_default.is) (
      a,
      c.args.self.now,
      record { clocks = refl; entries = g.met.C.Clocks.stays a },
      c.request.ensures,
    )
