use Rattle.std.proofs.Common.{arith, sym, ◌-◌, ◌+◌, ◌≡◌, ◌≤◌, ◌<◌, ⊎_elim}
use Rattle.std.proofs.lemmas.Bool.{cases_lt}
use Rattle.tk_c.specs.Finest.{counter_at}
use Rattle.tk_c.proofs.FinestShift.{exact_short, exact_at_1, low_mult, ample}
use Rattle.tk_c.proofs.finest.finest_shift.Goals as goal

pub loop-shift-init : goal.loop-shift-init
loop-shift-init c = record {
  above = λ shift high low. absurd (omega arith);
  least = omega arith;
  most = omega arith;
}

pub loop-shift-preserved : goal.loop-shift-preserved
loop-shift-preserved c = record {
  above = λ shift high low.
      ⊎_elim {A = shift < c.loop-shift.shift} {B = c.loop-shift.shift ≤ shift}
      (λ same. let equal : shift ≡ c.loop-shift.shift - 1 = omega arith
      in rw equal (sym c.if-is_exact.ensures))
      (λ more. c.loop-shift.invariant.above shift more low)
      (cases_lt shift c.loop-shift.shift);
  least = omega arith;
  most = omega arith;
}

pub returns-then-is_exact-clause-greatest : goal.returns-then-is_exact-clause-greatest
returns-then-is_exact-clause-greatest c = λ above high low.
    c.loop-shift.invariant.above above (omega arith) low

pub returns-then-is_exact-clause-short : goal.returns-then-is_exact-clause-short
returns-then-is_exact-clause-short c =
    let fast = exact_short (counter_at 64 c.args.hz (c.loop-shift.shift - 1)) c.args.cycles
    (sym c.if-is_exact.ensures) in
    omega (arith, fast)

pub returns-then-is_exact-clause-ample : goal.returns-then-is_exact-clause-ample
returns-then-is_exact-clause-ample c =
    let next : c.loop-shift.shift ≡ c.loop-shift.shift - 1 + 1 = omega arith in
    ample c.args.hz c.args.cycles (c.loop-shift.shift - 1) c.loop-shift.shift next c.requires.some
    c.requires.low c.requires.short c.loop-shift.invariant.most
    (λ low. c.loop-shift.invariant.above c.loop-shift.shift (omega arith) low)

pub returns-clause-exact : goal.returns-clause-exact
returns-clause-exact c =
    exact_at_1 c.args.hz c.args.cycles c.requires.some c.requires.low c.requires.short

pub returns-clause-greatest : goal.returns-clause-greatest
returns-clause-greatest c = λ above high low.
    c.loop-shift.invariant.above above (omega arith) low

pub returns-clause-short : goal.returns-clause-short
returns-clause-short c = omega (arith, low_mult c.args.hz c.requires.some)

pub returns-clause-ample : goal.returns-clause-ample
returns-clause-ample c =
    let next : c.loop-shift.shift ≡ 1 + 1 = omega arith in
    ample c.args.hz c.args.cycles 1 c.loop-shift.shift next c.requires.some c.requires.low
    c.requires.short c.loop-shift.invariant.most
    (λ low. c.loop-shift.invariant.above c.loop-shift.shift (omega arith) low)
