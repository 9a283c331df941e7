use Rattle.std.proofs.Common.{◌∙◌}
use Rattle.tk_c.proofs.Halves.{saturated}
use Rattle.tk_c.proofs.cycles.tkc_counter_nanos.Goals as goal

pub returns : goal.returns
returns c =
    let counter = c.args.counter.now in
    let mult = c.from-mult.ensures ∙ c.mult.ensures.value in
    saturated c.args.cycles counter.mult counter.shift c.saturating_mul.result
    c.saturating_add.result c.mult.ensures.counter.shift_high
    (rw (mult, c.shift.ensures.value) at c.saturating_mul.ensures)
    (rw (mult, c.shift-2.ensures.value) at c.saturating_add.ensures)
