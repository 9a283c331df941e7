use Rattle.std.proofs.Common.{◌≡◌, ◌∙◌, ap, arith, subst, sym}
use Rattle.std.specs.Prelude.{◌<ℤ◌}
use Rattle.std.proofs.Math.Nat.{mod-lt}
use Rattle.tk_clock.specs.declared.clock_id.ClockId.TheVariants.{Boottime, Monotonic}
use Rattle.tk_clock.specs.Limits.{limit}
use Rattle.tk_clock.specs.Snapshot.{Snapshot}
use Rattle.tk_clock.specs.State.{ReadBase, base_value}
use Rattle.tk_clock.proofs.Units.{second_pos}
use Rattle.tk_keeper.proofs.Latest.{IsTimeOf-parts, seconds_low}
use Rattle.tk_report.specs.CountedClocks.{Counted}
use Rattle.tk_report.proofs.counted_clocks.CountedClocks.monotonic.Goals as goal

pub time_of-requires-clause-whole : goal.time_of-requires-clause-whole
time_of-requires-clause-whole c =
    let now = c.snapshot-now.result.base in
    let same : now ≡ c.self.inside.clock.base =
    ap (λ (s : Snapshot). s.base) c.snapshot-now.ensures
    ∙ ap (λ (k : Counted). k.clock.base) (sym c.self.view_is) in
    let low : base_value now Boottime now.last <ℤ limit Boottime =
    subst (λ (b : ReadBase). base_value b Boottime b.last <ℤ limit Boottime) (sym same)
    c.tick.ensures.running.within.boot_low in
    omega (arith, c.sec.ensures, seconds_low now c.boot_offset.result c.boot_offset.ensures low)

pub time_of-requires-clause-part : goal.time_of-requires-clause-part
time_of-requires-clause-part c =
    let now = c.snapshot-now.result.base in
    rw (c.frac.ensures, c.shift.ensures.value, c.desc.ensures)
    (mod-lt now.amount (second_pos now.counter.shift))

pub returns-clause-value : goal.returns-clause-value
returns-clause-value c =
    let now = c.snapshot-now.result.base in
    let base = c.args.self.now.clock.base in
    let value : base_value now Monotonic now.last ≡ base_value base Monotonic base.last =
    ap (λ (s : Snapshot). base_value s.base Monotonic s.base.last) c.snapshot-now.ensures in
    rw (c.time_of.ensures.value, c.sec.ensures, c.frac.ensures, c.shift.ensures.value, c.desc.ensures)
    (IsTimeOf-parts now (base_value base Monotonic base.last) value)
