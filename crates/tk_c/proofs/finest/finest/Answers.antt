use Rattle.std.proofs.Common.{rules, ap, ◌≡◌, ◌≤◌, ◌*◌, None}
use Rattle.tk_c.specs.Finest.{finest_fault, IsFinest}
use Rattle.tk_c.proofs.FinestCounter.{finest_at, made}
use Rattle.tk_c.proofs.finest.finest.Goals as goal

pub returns : goal.returns
returns c =
    let shift = c.finest_shift-shift.result in
    let same : c.from.result * c.args.hz ≡ c.args.maxsec * c.args.hz =
    ap (λ maxsec. maxsec * c.args.hz) c.from.ensures in
    let few : 8 ≤ c.args.bits = search rules in
    let many : c.args.bits ≤ 64 = search rules in
    let none : finest_fault c.args.bits c.args.hz c.args.maxsec ≡ None = search rules in
    let finest : IsFinest c.args.bits c.args.hz c.args.maxsec shift =
    finest_at c.args.bits c.args.hz c.args.maxsec shift (c.from.result * c.args.hz) same
    c.finest_shift-shift.ensures.least c.finest_shift-shift.ensures.most
    c.finest_shift-shift.ensures.exact c.finest_shift-shift.ensures.greatest in
    made c.args.bits c.args.hz c.args.maxsec shift c.rounded_mult.result c.new-2.result few many none
    finest c.finest_shift-shift.ensures.ample c.rounded_mult.ensures c.new-2.ensures
