-- The tests of the clocks' values, which follow the early tests, in terms of the forwarded base.
use Rattle.std.proofs.Common.{◌≡◌, ℕ, ◌+◌, ◌*◌, ◌/◌, ◌^◌, ◌≤◌, ◌∙◌, refl, sym, ap, subst, arith, Bool, true, false, Result, Ok, Err}
use Rattle.std.specs.Prelude.{ℤ, pos, int_lt, nat_lt, Some, None, not, ◌&&◌, ◌||◌, if◌then◌else◌}
use Rattle.std.proofs.lemmas.Int.{ints}
use Rattle.std.proofs.lemmas.Grind.{common_steps}
use Rattle.tk_counter.specs.Counter.{Counter, mask, half, gap, multiplier}
use Rattle.tk_clock.specs.declared.command.Command.{Command}
use Rattle.tk_clock.specs.declared.command.Command.TheVariants.{Update, SetTime, Step, Freq, Tick, Tai, Leap, Suspend, Resume}
use Rattle.tk_clock.specs.declared.clock_id.ClockId.{ClockId}
use Rattle.tk_clock.specs.declared.clock_id.ClockId.TheVariants.{Monotonic}
use Rattle.tk_clock.specs.declared.refusal.Refusal.{Refusal}
use Rattle.tk_clock.specs.declared.refusal.Refusal.TheVariants.{Asleep, Awake, Invalid, Behind, Range}
use Rattle.tk_clock.specs.Command.{is_resume}
use Rattle.tk_clock.specs.Monotonic.{cycles_since}
use Rattle.tk_clock.specs.State.{ReadBase, State, base_monotonic, base_value, forwarded, effect}
use Rattle.tk_clock.specs.Limits.{limit, is_well_formed, is_past_limit, is_bad_setting, sets_real, monotonic_end}
use Rattle.tk_clock.specs.Refusal.{first_of, value_refusal, state_value_refusal}
use Rattle.tk_clock.specs.Effect.{IsEarly, IsEffect, IsSettled, is_settled_past}
use Rattle.tk_clock.proofs.Forwarding.{base_monotonic-last}
use Rattle.tk_clock.proofs.Values.{now_of}

-- the facts that follow if the early tests pass
early_split : (asleep resumes above well behind : Bool) →
    first_of (if asleep && not resumes then Some Asleep else if not asleep
    && resumes then Some Awake else None)
    (first_of (if above || not well then Some Invalid else None) (if not resumes
    && behind then Some Behind else None)) ≡ None →
    (above ≡ false) × (well ≡ true) × (resumes ≡ false → asleep ≡ false)
    × (resumes ≡ false → behind ≡ false)
early_split true false above well behind e = absurd cc
early_split false true above well behind e = absurd cc
early_split true true true well behind e = absurd cc
early_split true true false false behind e = absurd cc
early_split true true false true behind e = (refl, refl, λ h. cc h, λ h. absurd (cc h))
early_split false false true well behind e = absurd cc
early_split false false false false behind e = absurd cc
early_split false false false true true e = absurd cc
early_split false false false true false e = (refl, refl, λ h. refl, λ h. refl)

pub record IsReady (state : State) (reading : ℕ) (cmd : Command) : Type 0 where
  pub low : reading ≤ mask state.base.counter
  pub well : is_well_formed cmd ≡ true
  pub awake : is_resume cmd ≡ false → state.base.asleep ≡ false
  pub ahead : is_resume cmd ≡ false →
      nat_lt (half state.base.counter) (gap state.base.counter state.base.last reading) ≡ false

pub ready : (state : State) (reading : ℕ) (cmd : Command) → IsEarly state reading cmd →
    IsReady state reading cmd
ready state reading cmd early =
    let counter = state.base.counter in
    let parts = early_split state.base.asleep (is_resume cmd) (nat_lt (mask counter) reading)
    (is_well_formed cmd)
    (nat_lt (half counter) (gap counter state.base.last reading)) early in
    let below = parts.0 in
    record {
      low = grind (arith, common_steps, below);
      well = parts.1;
      awake = parts.2;
      ahead = parts.3;
    }

-- while awake, a reading that is not behind counts the whole gap
pub cycles-ahead : (counter : Counter) (asleep : Bool) (last reading : ℕ) → asleep ≡ false →
    nat_lt (half counter) (gap counter last reading) ≡ false →
    cycles_since counter asleep last reading ≡ gap counter last reading
cycles-ahead counter asleep last reading awake ahead =
    ap (λ b. if b || nat_lt (half counter) (gap counter last reading) then 0
    else gap counter last reading) awake
    ∙ ap (λ b. if b then 0 else gap counter last reading) ahead

-- so MONOTONIC before the command, at its reading, equals the forwarded base's
pub monotonic-before : (state : State) (reading : ℕ) (cmd : Command) → IsEarly state reading cmd →
    is_resume cmd ≡ false →
    base_monotonic state.base reading ≡ now_of (forwarded state.base reading)
monotonic-before state reading cmd early awake =
    let base = state.base in
    let parts = ready state reading cmd early in
    ap (λ k. (base.amount + k * base.mult) / 2 ^ base.counter.shift)
    (cycles-ahead base.counter base.asleep base.last reading (parts.awake awake)
    (parts.ahead awake))

-- a command leaves its own reading as the last one
pub effect-last : (state : State) (reading : ℕ) (cmd : Command) →
    (effect state reading cmd).base.last ≡ reading
effect-last state reading Update = refl
effect-last state reading (SetTime time) = refl
effect-last state reading (Step by) = refl
effect-last state reading (Freq frequency) = refl
effect-last state reading (Tick tick) = refl
effect-last state reading (Tai seconds) = refl
effect-last state reading (Leap by tai) = refl
effect-last state reading Suspend = refl
effect-last state reading (Resume away) = refl

-- MONOTONIC after a command equals the forwarded base's, unless the command wakes the clocks
monotonic-after : (state : State) (reading : ℕ) (cmd : Command) → is_resume cmd ≡ false →
    base_monotonic (effect state reading cmd).base reading ≡ now_of (forwarded state.base reading)
monotonic-after state reading Update awake = base_monotonic-last (effect state reading Update).base
monotonic-after state reading (SetTime time) awake =
    base_monotonic-last (effect state reading (SetTime time)).base
monotonic-after state reading (Step by) awake =
    base_monotonic-last (effect state reading (Step by)).base
monotonic-after state reading (Freq frequency) awake =
    base_monotonic-last (effect state reading (Freq frequency)).base
monotonic-after state reading (Tick tick) awake =
    base_monotonic-last (effect state reading (Tick tick)).base
monotonic-after state reading (Tai seconds) awake =
    base_monotonic-last (effect state reading (Tai seconds)).base
monotonic-after state reading (Leap by tai) awake =
    base_monotonic-last (effect state reading (Leap by tai)).base
monotonic-after state reading Suspend awake =
    base_monotonic-last (effect state reading Suspend).base
monotonic-after state reading (Resume away) awake = absurd cc

-- the refusal by the tests of values, from the result of each test
pub stated_range : (before after : ClockId → ℤ) (cmd : Command) → is_past_limit after cmd ≡ true →
    value_refusal before after cmd ≡ Some Range
stated_range before after cmd past =
    ap (λ (b : Bool). if b then Some Range else if is_bad_setting before cmd then Some Invalid
    else None) past

pub stated_invalid : (before after : ClockId → ℤ) (cmd : Command) → is_past_limit after cmd ≡ false →
    is_bad_setting before cmd ≡ true →
    value_refusal before after cmd ≡ Some Invalid
stated_invalid before after cmd past bad =
    ap (λ (b : Bool). if b then Some Range else if is_bad_setting before cmd then Some Invalid
    else None) past
    ∙ ap (λ (b : Bool). if b then Some Invalid else None) bad

pub stated_none : (before after : ClockId → ℤ) (cmd : Command) → is_past_limit after cmd ≡ false →
    is_bad_setting before cmd ≡ false →
    value_refusal before after cmd ≡ None
stated_none before after cmd past good =
    ap (λ (b : Bool). if b then Some Range else if is_bad_setting before cmd then Some Invalid
    else None) past
    ∙ ap (λ (b : Bool). if b then Some Invalid else None) good

-- if MONOTONIC is at its limit, the test of limits fails
past_monotonic : (after : ClockId → ℤ) (cmd : Command) (now : ℕ) → after Monotonic ≡ pos now →
    monotonic_end * 10 ^ 9 ≤ now → is_past_limit after cmd ≡ true
unfolding is_past_limit
past_monotonic after cmd now e far =
    let over : int_lt (pos now) (limit Monotonic) ≡ false = grind (arith, common_steps, ints) in
    rw (e, over) refl

pub past_effect : (state : State) (reading : ℕ) (cmd : Command) → is_resume cmd ≡ false →
    monotonic_end * 10 ^ 9 ≤ now_of (forwarded state.base reading) →
    state_value_refusal state reading cmd ≡ Some Range
past_effect state reading cmd awake far =
    let after : ClockId → ℤ = λ clock. base_value (effect state reading cmd).base clock reading in
    stated_range (λ clock. base_value state.base clock reading) after cmd
    (past_monotonic after cmd (now_of (forwarded state.base reading))
    (ap pos (monotonic-after state reading cmd awake)) far)

-- a command that doesn't set REALTIME passes the test of settings
plain_good : (before : ClockId → ℤ) (cmd : Command) → sets_real cmd ≡ false →
    is_bad_setting before cmd ≡ false
unfolding is_bad_setting
plain_good before Update plain = refl
plain_good before (SetTime time) plain = absurd cc
plain_good before (Step by) plain = absurd cc
plain_good before (Freq frequency) plain = refl
plain_good before (Tick tick) plain = refl
plain_good before (Tai seconds) plain = refl
plain_good before (Leap by tai) plain = absurd cc
plain_good before Suspend plain = refl
plain_good before (Resume away) plain = refl

-- the result of such a command is the result of settling its state
settled_result : (state : State) (reading : ℕ) (cmd : Command) (result : Result State Refusal) →
    sets_real cmd ≡ false →
    is_settled_past (effect state reading cmd) cmd
    ≡ is_past_limit (λ clock. base_value (effect state reading cmd).base clock reading) cmd →
    IsSettled (effect state reading cmd) cmd result → IsEffect state reading cmd result
settled_result state reading cmd (Ok after) plain same stated =
    let before : ClockId → ℤ = λ clock. base_value state.base clock reading in
    let then_ : ClockId → ℤ = λ clock. base_value (effect state reading cmd).base clock reading in
    (stated_none before then_ cmd (sym same ∙ stated.0) (plain_good before cmd plain), stated.1)
settled_result state reading cmd (Err refusal) plain same stated =
    let before : ClockId → ℤ = λ clock. base_value state.base clock reading in
    let then_ : ClockId → ℤ = λ clock. base_value (effect state reading cmd).base clock reading in
    stated_range before then_ cmd (sym same ∙ stated.0) ∙ ap (λ (r : Refusal). Some r) (sym stated.1)

pub settled_effect : (state : State) (reading : ℕ) (cmd : Command) (after : State)
    (result : Result State Refusal) → sets_real cmd ≡ false →
    after ≡ effect state reading cmd → IsSettled after cmd result →
    IsEffect state reading cmd result
settled_effect state reading cmd after result plain e stated =
    let there : IsSettled (effect state reading cmd) cmd result =
    subst (λ (s : State). IsSettled s cmd result) e stated in
    settled_result state reading cmd result plain
    (ap (λ k. is_past_limit (λ clock. base_value (effect state reading cmd).base clock k) cmd)
    (effect-last state reading cmd))
    there

-- the state with this base, frequency and tick
abbrev pub steered : ℤ → ℤ → ReadBase → State
steered frequency tick base =
    record {
      base = record base { mult = multiplier base.counter frequency tick };
      frequency = frequency;
      tick = tick;
    }

-- a command that sets the frequency or the tick settles that state
pub steered_effect : (state : State) (now : ReadBase) (cmd : Command) (frequency tick : ℤ)
    (result : Result State Refusal) → sets_real cmd ≡ false →
    steered frequency tick (forwarded state.base now.last) ≡ effect state now.last cmd →
    now ≡ forwarded state.base now.last → IsSettled (steered frequency tick now) cmd result →
    IsEffect state now.last cmd result
steered_effect state now cmd frequency tick result plain same e stated =
    settled_effect state now.last cmd (steered frequency tick now) result plain
    (ap (steered frequency tick) e ∙ same) stated
