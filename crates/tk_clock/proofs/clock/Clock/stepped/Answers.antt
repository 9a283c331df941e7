use Rattle.std.proofs.Common.{◌≡◌, ℕ, ◌+◌, ◌-◌, ◌*◌, ◌^◌, ◌<◌, ◌∙◌, sym, ap, arith, inl, inr}
use Rattle.std.specs.Prelude.{pos, ◌+ℤ◌, ◌<ℤ◌, ◌≤ℤ◌}
use Rattle.std.proofs.lemmas.Int.{ints}
use Rattle.tk_clock.specs.Time.{nanoseconds}
use Rattle.tk_clock.specs.State.{ReadBase, State, base_value, forwarded}
use Rattle.tk_clock.specs.declared.clock.Clock.TheInside.{Inside}
use Rattle.tk_clock.specs.declared.timespec.Timespec.{Timespec}
use Rattle.tk_clock.proofs.Values.{now_of, real_offset_low}
use Rattle.tk_clock.proofs.Settings.{stepped, step_range, step_invalid, step_none, within_boot}
use Rattle.tk_clock.proofs.clock.Clock.stepped.Goals as goal
use Rattle.tk_clock.proofs.clock.Clock.stepped.Goals.{After-self-inside, After-time_moved, then-real-monotonic-via-then-real-monotonic, then-real-monotonic-via-else-real-monotonic+then-real-settable_limit}
use Rattle.tk_clock.specs.Limits.{clock_end, monotonic_end, settable_end}

pub returns-then-is_past_limit : goal.returns-then-is_past_limit
returns-then-is_past_limit c =
    step_range c.args.cmd c.requires.steps c.requires.forwarded (sym c.if-is_past_limit.ensures)

-- REALTIME before the step fits in 64 bits
real_low : (c : After-self-inside) →
    c.monotonic_now-monotonic.result + c.self-inside.inside.0.0.real_offset
    < (clock_end + monotonic_end) * 10 ^ 9
real_low c =
    let base = c.self.inside.base in
    let held = ap (λ (i : Inside). i.base.real_offset) (sym c.self-inside.view_is) in
    let low = real_offset_low base c.self-inside.inside.0.0.real_offset held
    c.self.invariant.within.real_low in
    let now = c.monotonic_now-monotonic.ensures.low in
    omega (arith, low, now)

pub overflow_add-monotonic : goal.overflow_add-monotonic
overflow_add-monotonic c =
    let low = real_low (goal.at.overflow_add-monotonic c).After-self-inside in
    omega (arith, low)

pub time_moved-requires-clause-real : goal.time_moved-requires-clause-real
time_moved-requires-clause-real c =
    real_low (goal.at.time_moved-requires-clause-real c).After-self-inside

-- REALTIME after the step, by the parts that the code adds
real_is : (state : State) (base now : ReadBase) (by : Timespec) (monotonic offset : ℕ) →
    now ≡ forwarded state.base now.last → base ≡ state.base →
    base.real_offset ≡ pos offset → monotonic ≡ now_of now →
    stepped now (nanoseconds by) ≡ pos (monotonic + offset) +ℤ nanoseconds by
real_is state base now by monotonic offset forwarded same held amount =
    let stated : now.real_offset ≡ pos offset =
    ap (λ (b : ReadBase). b.real_offset) forwarded ∙ ap (λ (b : ReadBase). b.real_offset) (sym same)
    ∙ held in
    omega (arith, ints, stated, amount)

moved_is : (c : After-time_moved) →
    stepped c.args.now (nanoseconds c.args.by)
    ≡ pos (c.monotonic_now-monotonic.result + c.self-inside.inside.0.0.real_offset)
    +ℤ nanoseconds c.args.by
moved_is c =
    let held = ap (λ (i : Inside). i.base.real_offset) (sym c.self-inside.view_is) in
    let base = ap (λ (s : State). s.base) c.self.view_is in
    real_is c.args.self.now c.self.inside.base c.args.now c.args.by
    c.monotonic_now-monotonic.result c.self-inside.inside.0.0.real_offset
    c.requires.forwarded.stated base held c.monotonic_now-monotonic.ensures.amount

pub returns-in_default : goal.returns-in_default
returns-in_default c =
    let now = c.args.now in
    let real = moved_is (goal.at.returns-in_default c).After-time_moved in
    step_invalid c.args.self.now now c.args.cmd (nanoseconds c.args.by) c.requires.early
    c.requires.forwarded c.requires.steps c.requires.amount
    (sym c.if-is_past_limit.ensures)
    (elim c.in_default.ensures [
      | inl under ↦ inl (omega (arith, ints, under, real))
      | inr over ↦ inr
          (omega (arith, ints, over, real))
    ])

pub returns-then-real-monotonic : goal.returns-then-real-monotonic
returns-then-real-monotonic c =
    let now = c.args.now in
    let real = moved_is (goal.at.returns-then-real-monotonic c).After-time_moved in
    let stated = c.in-Some.ensures in
    let amount = c.monotonic_now-monotonic.ensures.amount in
    step_invalid c.args.self.now now c.args.cmd (nanoseconds c.args.by) c.requires.early
    c.requires.forwarded c.requires.steps c.requires.amount
    (sym c.if-is_past_limit.ensures)
    (elim c.then-real-monotonic.branch [
      | then-real-monotonic-via-then-real-monotonic w ↦ let low = w.if-real-monotonic.true
          in inl (omega (arith, ints, stated, real, amount, low))
      | then-real-monotonic-via-else-real-monotonic+then-real-settable_limit w ↦
          let high = w.if-real-settable_limit.true in
          let limit = w.settable_limit.ensures in
          inr (omega (arith, ints, stated, real, high, limit))
    ])

pub returns : goal.returns
returns c =
    let now = c.args.now in
    let real = moved_is (goal.at.returns c).After-time_moved in
    let stated = c.in-Some.ensures in
    let amount = c.monotonic_now-monotonic.ensures.amount in
    let above : pos (now_of now) ≤ℤ stepped now (nanoseconds c.args.by) = let high = c.if-real-monotonic.false
    in omega (arith, ints, stated, real, amount, high) in
    let below : stepped now (nanoseconds c.args.by) <ℤ pos (settable_end * 10 ^ 9) =
    let low = c.if-real-settable_limit.false in let limit = c.settable_limit.ensures
    in omega (arith, ints, stated, real, low, limit) in
    let offset : pos (c.in-Some.real - c.monotonic_now-monotonic.result)
    ≡ now.real_offset +ℤ nanoseconds c.args.by =
    let high = c.if-real-monotonic.false in omega (arith, ints, stated, real, amount, high) in
    let settable : now_of now + (c.in-Some.real - c.monotonic_now-monotonic.result)
    < settable_end * 10 ^ 9 =
    let high = c.if-real-monotonic.false in let low = c.if-real-settable_limit.false in
    let limit = c.settable_limit.ensures in omega (arith, amount, high, low, limit) in (
      step_none c.args.self.now now c.args.cmd (nanoseconds c.args.by) c.requires.early
          c.requires.forwarded c.requires.steps c.requires.amount
          (sym c.if-is_past_limit.ensures) above below,
      offset,
      settable,
      within_boot (λ clock. base_value now clock now.last) c.args.cmd
          (sym c.if-is_past_limit.ensures),
    )
