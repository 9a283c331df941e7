use Rattle.std.proofs.Common.{◌≡◌, ◌∙◌, refl, sym, arith}
use Rattle.std.specs.Prelude.{pos, ◌-ℤ◌, ◌<ℤ◌, ◌≤ℤ◌}
use Rattle.std.proofs.lemmas.Int.{ints}
use Rattle.tk_clock.specs.Time.{nanoseconds}
use Rattle.tk_clock.specs.State.{base_value}
use Rattle.tk_clock.specs.declared.command.Command.TheVariants.{SetTime}
use Rattle.tk_clock.proofs.Ranges.{set-below}
use Rattle.tk_clock.proofs.Values.{now_of}
use Rattle.tk_clock.proofs.Settings.{setting_range, set_invalid, set_none, set_state, within_boot}
use Rattle.tk_clock.proofs.clock.Clock.set_time.Goals as goal

pub returns-then-is_past_limit : goal.returns-then-is_past_limit
returns-then-is_past_limit c =
    setting_range (SetTime c.args.time) refl c.requires.forwarded (sym c.if-is_past_limit.ensures)

pub nanos_of-requires-clause-since : goal.nanos_of-requires-clause-since
nanos_of-requires-clause-since c =
    (set-below c.args.self.now c.args.now.last c.args.time c.requires.early).since

pub nanos_of-requires-clause-until : goal.nanos_of-requires-clause-until
nanos_of-requires-clause-until c =
    let below = (set-below c.args.self.now c.args.now.last c.args.time c.requires.early).until
    in
    omega (arith, ints, below)

pub nanos_of-requires-clause-rest : goal.nanos_of-requires-clause-rest
nanos_of-requires-clause-rest c =
    (set-below c.args.self.now c.args.now.last c.args.time c.requires.early).rest

pub returns-in_default : goal.returns-in_default
returns-in_default c =
    let low : nanoseconds c.args.time <ℤ pos (now_of c.args.now) =
    omega (
      arith,
      ints,
      c.in_default.ensures,
      c.nanos_of.ensures.value,
      c.monotonic_now.ensures.amount,
    ) in
    set_invalid c.args.self.now c.args.now c.args.time c.requires.early c.requires.forwarded
    (sym c.if-is_past_limit.ensures) low

pub set_to-requires-clause-settable : goal.set_to-requires-clause-settable
set_to-requires-clause-settable c =
    let below = set-below c.args.self.now c.args.now.last c.args.time c.requires.early in
    omega (
      arith,
      ints,
      c.in-Some.ensures,
      c.nanos_of.ensures.value,
      c.monotonic_now.ensures.amount,
      below.until,
      below.rest,
    )

pub set_to-requires-clause-boot : goal.set_to-requires-clause-boot
set_to-requires-clause-boot c =
    within_boot (λ clock. base_value c.args.now clock c.args.now.last) (SetTime c.args.time)
    (sym c.if-is_past_limit.ensures)

pub returns : goal.returns
returns c =
    let now = c.args.now in
    let high : pos (now_of now) ≤ℤ nanoseconds c.args.time =
    omega (arith, ints, c.in-Some.ensures, c.nanos_of.ensures.value, c.monotonic_now.ensures.amount)
    in
    let offset : pos c.in-Some.offset ≡ nanoseconds c.args.time -ℤ pos (now_of now) =
    omega (arith, ints, c.in-Some.ensures, c.nanos_of.ensures.value, c.monotonic_now.ensures.amount)
    in (
      set_none c.args.self.now now c.args.time c.requires.early c.requires.forwarded
          (sym c.if-is_past_limit.ensures) high,
      c.set_to.ensures
          ∙ set_state c.args.self.now now c.args.time c.in-Some.offset c.requires.forwarded
          offset,
    )
