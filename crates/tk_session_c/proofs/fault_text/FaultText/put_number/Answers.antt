use Rattle.std.proofs.Common.{length, drop, decimal, arith, ap, length-append, length-drop}
use Rattle.std.proofs.lemmas.Fmt.{length-decimal-le}
use Rattle.tk_session_c.proofs.fault_text.FaultText.put_number.Goals as goal

pub write_digits-self-inside-requires : goal.write_digits-self-inside-requires
write_digits-self-inside-requires c =
    let few = length-decimal-le 20 c.args.n (omega arith) (omega arith) (omega arith) in
    let bytes = length-drop c.self.inside.start c.self.inside.bytes in
    let room = ap length c.self.view_is in
    (omega (arith, few, bytes, room, c.requires), omega arith)

pub returns-clause-more : goal.returns-clause-more
returns-clause-more c =
    let few = length-decimal-le 20 c.args.n (omega arith) (omega arith) (omega arith) in
    let before = drop c.self.inside.start c.self.inside.bytes in
    let written = ap length c.write_digits-self-inside.ensures.written in
    omega (arith, few, written, length-append (decimal c.args.n) before, ap length c.self.view_is)
