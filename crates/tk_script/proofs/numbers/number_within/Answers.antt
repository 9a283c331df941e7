use Rattle.tk_script.proofs.NumberLemmas.{number-leading}
use Rattle.tk_script.proofs.numbers.number_within.Goals as goal

pub returns : goal.returns
returns c =
    let lead = c.leading_digits-value in
    number-leading c.args.text.now c.args.most lead.result.1 lead.result.0 lead.ensures.len
    c.if-len-eq0.false lead.ensures.value lead.ensures.digits lead.ensures.fits
