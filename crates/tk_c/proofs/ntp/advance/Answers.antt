use Rattle.std.proofs.Common.{◌∙◌, ap, refl}
use Rattle.tk_c.specs.Codes.{number_of}
use Rattle.tk_c.specs.CountedNtp.{counted_clock, whole}
use Rattle.tk_c.proofs.CountedCalls.{advance_made}
use Rattle.tk_c.proofs.ntp.advance.Goals as goal

pub returns : goal.returns
returns c =
    let old = whole c.args.ntp.now in
    advance_made c.args.is_late c.args.reading _ old _ (counted_clock old)
    c.advance-called.new.clocks c.args.ntp.now.course c.advance-called.new.self
    c.advance-called.result refl refl refl c.advance-called.ensures
    (c.number.ensures ∙ ap number_of c.code_of_call.ensures)
