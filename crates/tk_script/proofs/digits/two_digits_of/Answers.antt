use Rattle.std.proofs.Common.{refl}
use Rattle.tk_script.proofs.DigitLemmas.{pair-at}
use Rattle.tk_script.proofs.digits.two_digits_of.Goals as goal

pub returns : goal.returns
returns c =
    let pair = pair-at c.args.n c.requires in
    rw (pair.0, pair.1) refl
