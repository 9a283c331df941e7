use Rattle.std.proofs.Common.{◌≡◌, ◌+◌, ◌*◌, ◌^◌, ◌<◌, ◌∙◌, sym, ap, arith}
use Rattle.std.specs.Prelude.{pos, ◌<ℤ◌, ◌≤ℤ◌}
use Rattle.std.proofs.lemmas.Int.{ints}
use Rattle.tk_clock.specs.declared.clock_id.ClockId.TheVariants.{Monotonic}
use Rattle.tk_clock.specs.Journal.{opened}
use Rattle.tk_clock.specs.Limits.{limit, monotonic_end, settable_end}
use Rattle.tk_clock.specs.State.{State, ReadBase, state_of}
use Rattle.tk_clock.specs.Time.{nanoseconds}
use Rattle.tk_clock.specs.Uptime.{opened_running}
use Rattle.tk_clock.proofs.Ranges.{settable-below}
use Rattle.tk_clock.proofs.Uptime.{opens-settable, opens-running, uptime-within, base_opens, runs, has_run}
use Rattle.tk_clock.proofs.Values.{running_words}
use Rattle.tk_clock.proofs.clock.Clock.open_at.Goals as goal

pub nanos_of-requires-clause-since : goal.nanos_of-requires-clause-since
nanos_of-requires-clause-since c =
    (settable-below c.args.real
    (opens-settable c.args.desc c.args.reading c.args.real c.in_ok-fresh.ensures.answer.0)).since

pub nanos_of-requires-clause-rest : goal.nanos_of-requires-clause-rest
nanos_of-requires-clause-rest c =
    (settable-below c.args.real
    (opens-settable c.args.desc c.args.reading c.args.real c.in_ok-fresh.ensures.answer.0)).rest

pub invariant_of-result : goal.invariant_of-result
invariant_of-result c =
    let desc = c.args.desc in
    let real = c.args.real in
    let fresh = c.fresh.inside in
    let words = running_words c.fresh.invariant in
    let begun : fresh.base ≡ (state_of (opened desc c.args.reading real)).base =
    ap (λ (s : State). s.base) (c.fresh.view_is ∙ c.in_ok-fresh.ensures.answer.1) in
    let within = settable-below real
    (opens-settable desc c.args.reading real c.in_ok-fresh.ensures.answer.0) in
    let since : pos (c.nanos_of-2.result + c.in-Some.offset) ≡ nanoseconds real =
    omega (arith, ints, c.in-Some.ensures, c.nanos_of.ensures.value) in
    let past = uptime-within c.args.uptime (sym c.if-not-is_uptime.ensures) in
    let low : c.nanos_of-2.result < monotonic_end * 10 ^ 9 =
    omega (arith, ints, c.nanos_of-2.ensures.value, c.if-uptime.false, past.0, past.1) in
    let ranged : c.nanos_of-2.result + c.in-Some.offset < settable_end * 10 ^ 9 =
    omega (arith, ints, since, within.until, within.rest) in
    rw (words.0, words.1)
    (runs desc c.args.reading real c.args.uptime c.amount_of.result c.nanos_of-2.result
    c.in-Some.offset c.nanos_of-2.ensures.value since c.amount_of.ensures.units fresh.base
    c.with_uptime-base.result begun c.with_uptime-base.ensures fresh.frequency fresh.tick
    c.fresh.invariant low ranged)

pub returns-clause-answer : goal.returns-clause-answer
returns-clause-answer c =
    let desc = c.args.desc in
    let real = c.args.real in
    let uptime = c.args.uptime in
    let words = running_words c.fresh.invariant in
    let stated = c.fresh.view_is ∙ c.in_ok-fresh.ensures.answer.1 in
    let begun : c.fresh.inside.base ≡ (state_of (opened desc c.args.reading real)).base =
    ap (λ (s : State). s.base) stated in
    let since : pos (c.nanos_of-2.result + c.in-Some.offset) ≡ nanoseconds real =
    omega (arith, ints, c.in-Some.ensures, c.nanos_of.ensures.value) in
    let past = uptime-within uptime (sym c.if-not-is_uptime.ensures) in
    let low : nanoseconds uptime <ℤ limit Monotonic =
    omega (arith, ints, c.if-uptime.false, past.0, past.1) in
    let ahead : nanoseconds uptime ≤ℤ nanoseconds real =
    omega (arith, ints, since, c.nanos_of-2.ensures.value) in
    let base = base_opens desc c.args.reading real uptime c.amount_of.result c.nanos_of-2.result
    c.in-Some.offset c.nanos_of-2.ensures.value since c.amount_of.ensures.units
    c.fresh.inside.base c.with_uptime-base.result begun c.with_uptime-base.ensures in
    let put : ReadBase → State = λ b. record {
      base = b;
      frequency = c.fresh.inside.frequency;
      tick = c.fresh.inside.tick;
    } in
    let keep : State → State =
    λ s. record s { base = (opened_running desc c.args.reading real uptime).base } in
    rw (words.0, words.1) (
      opens-running desc c.args.reading real uptime c.in_ok-fresh.ensures.answer.0
          (sym c.if-not-is_uptime.ensures) low ahead,
      ap put base ∙ ap keep stated,
    )

pub returns-clause-times : goal.returns-clause-times
returns-clause-times c =
    let desc = c.args.desc in
    let real = c.args.real in
    let begun : c.fresh.inside.base ≡ (state_of (opened desc c.args.reading real)).base =
    ap (λ (s : State). s.base) (c.fresh.view_is ∙ c.in_ok-fresh.ensures.answer.1) in
    let since : pos (c.nanos_of-2.result + c.in-Some.offset) ≡ nanoseconds real =
    omega (arith, ints, c.in-Some.ensures, c.nanos_of.ensures.value) in
    has_run desc c.args.reading real c.args.uptime c.amount_of.result c.nanos_of-2.result
    c.in-Some.offset c.nanos_of-2.ensures.value since c.amount_of.ensures.units
    c.fresh.inside.base c.with_uptime-base.result begun c.with_uptime-base.ensures
