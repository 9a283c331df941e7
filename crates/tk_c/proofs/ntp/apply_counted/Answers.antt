use Rattle.std.proofs.Common.{◌∙◌, ap, refl}
use Rattle.tk_c.specs.Codes.{number_of}
use Rattle.tk_c.specs.CountedNtp.{counted_clock, whole}
use Rattle.tk_c.proofs.CountedCalls.{command_made}
use Rattle.tk_c.proofs.ntp.apply_counted.Goals as goal

pub returns : goal.returns
returns c =
    let old = whole c.args.ntp.now in
    command_made c.args.reading _ c.args.cmd old _ (counted_clock old)
    c.apply-called.new.clocks c.args.ntp.now.course c.apply-called.new.self
    c.apply-called.result refl refl refl c.apply-called.ensures
    (c.number.ensures ∙ ap number_of c.code_of_call.ensures)
