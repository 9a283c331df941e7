use Rattle.std.proofs.Common.{◌∙◌, sym, ◌<◌, ◌≤◌, arith}
use Rattle.tk_ntp.specs.contracts.pps.Pps.{the_view}
use Rattle.tk_ntp.proofs.PulseSeconds.{lost, is_lost, kept, is_kept}
use Rattle.tk_ntp.proofs.pps.Pps.seconds.Goals as goal

pub returns-then-from-count-clause-state : goal.returns-then-from-count-clause-state
returns-then-from-count-clause-state c =
    let less : c.self.inside.valid < c.args.count =
    omega (arith, c.from.ensures, c.if-from-count.true) in
    rw (← c.self.view_is)
    (c.clear.ensures ∙ sym (lost c.args.count (the_view c.self.inside) less))

pub returns-then-from-count-clause-lost : goal.returns-then-from-count-clause-lost
returns-then-from-count-clause-lost c =
    let less : c.self.inside.valid < c.args.count =
    omega (arith, c.from.ensures, c.if-from-count.true) in
    rw (← c.self.view_is) (sym (is_lost c.args.count (the_view c.self.inside) less))

pub returns-clause-state : goal.returns-clause-state
returns-clause-state c =
    let enough : c.args.count ≤ c.self.inside.valid =
    omega (arith, c.from.ensures, c.if-from-count.false) in
    rw (← c.self.view_is) (sym (kept c.args.count (the_view c.self.inside) enough))

pub returns-clause-lost : goal.returns-clause-lost
returns-clause-lost c =
    let enough : c.args.count ≤ c.self.inside.valid =
    omega (arith, c.from.ensures, c.if-from-count.false) in
    rw (← c.self.view_is) (sym (is_kept c.args.count (the_view c.self.inside) enough))
