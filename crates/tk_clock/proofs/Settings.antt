-- Setting and stepping REALTIME, in terms of the forwarded base.
use Rattle.std.proofs.Common.{◌≡◌, ℕ, ◌+◌, ◌*◌, ◌^◌, ◌<◌, ◌∙◌, refl, sym, ap, subst, arith, Bool, true, false, ◌⊎◌, inl, inr}
use Rattle.std.specs.Prelude.{ℤ, pos, ◌≤ℤ◌, ◌<ℤ◌, ◌+ℤ◌, ◌-ℤ◌, ◌*ℤ◌, int_lt, Some, None, not, ◌&&◌, ◌||◌}
use Rattle.std.proofs.lemmas.Int.{ints}
use Rattle.std.proofs.lemmas.Grind.{common_steps}
use Rattle.tk_counter.specs.Counter.{multiplier}
use Rattle.tk_clock.specs.declared.timespec.Timespec.{Timespec}
use Rattle.tk_clock.specs.declared.command.Command.{Command}
use Rattle.tk_clock.specs.declared.command.Command.TheVariants.{SetTime, Step, Leap}
use Rattle.tk_clock.specs.declared.clock_id.ClockId.{ClockId}
use Rattle.tk_clock.specs.declared.clock_id.ClockId.TheVariants.{Realtime, Monotonic, Boottime, Tai as TaiClock}
use Rattle.tk_clock.specs.declared.refusal.Refusal.TheVariants.{Invalid, Range}
use Rattle.tk_clock.specs.Command.{is_resume, steps_real, real_amount}
use Rattle.tk_clock.specs.Time.{nanoseconds}
use Rattle.tk_clock.specs.State.{ReadBase, State, base_monotonic, base_value, forwarded, effect}
use Rattle.tk_clock.specs.Limits.{limit, is_past_limit, is_bad_step, is_bad_setting, sets_real, settable_end, greatest_tai}
use Rattle.tk_clock.specs.Refusal.{state_value_refusal}
use Rattle.tk_clock.specs.Effect.{IsEarly, IsForwarded}
use Rattle.tk_clock.specs.Running.{IsRunning, IsRated}
use Rattle.tk_clock.proofs.Values.{now_of, real-last, tai-last}
use Rattle.tk_clock.proofs.Effects.{monotonic-before, stated_range, stated_invalid, stated_none}

pub is_below : (x y : ℤ) → x <ℤ y → int_lt x y ≡ true
is_below x y low = grind (arith, common_steps, ints)

not_below : (x y : ℤ) → y ≤ℤ x → int_lt x y ≡ false
not_below x y high = grind (arith, common_steps, ints)

pub below-of : (x y : ℤ) → int_lt x y ≡ true → x <ℤ y
below-of x y e = grind (arith, common_steps, ints)

-- the facts that follow if the test of limits passes
pub both : (a b c : Bool) → (not a || not b || c) ≡ false → (a ≡ true) × (b ≡ true) × (c ≡ false)
both true true false e = (refl, refl, refl)
both true true true e = absurd cc
both true false c e = absurd cc
both false b c e = absurd cc

pub either : (p a b : Bool) → p ≡ false → (not p && (not a || not b)) ≡ false →
    (a ≡ true) × (b ≡ true)
either false true true q e = (refl, refl)
either false true false q e = absurd cc
either false false b q e = absurd cc
either true a b q e = absurd cc

pub within_boot : (values : ClockId → ℤ) (cmd : Command) → is_past_limit values cmd ≡ false →
    values Boottime <ℤ limit Boottime
unfolding is_past_limit
within_boot values cmd e =
    below-of (values Boottime) (limit Boottime)
    ((both (int_lt (values Monotonic) (limit Monotonic)) (int_lt (values Boottime) (limit Boottime))
    _ e).1)

pub within_plain : (values : ClockId → ℤ) (cmd : Command) → sets_real cmd ≡ false →
    is_past_limit values cmd ≡ false →
    (values Realtime <ℤ limit Realtime) × (values TaiClock <ℤ limit TaiClock)
unfolding is_past_limit
within_plain values cmd plain e =
    let parts = either (sets_real cmd) (int_lt (values Realtime) (limit Realtime))
    (int_lt (values TaiClock) (limit TaiClock)) plain
    ((both (int_lt (values Monotonic) (limit Monotonic)) (int_lt (values Boottime) (limit Boottime))
    _ e).2) in (
      below-of (values Realtime) (limit Realtime) parts.0,
      below-of (values TaiClock) (limit TaiClock) parts.1,
    )

-- a rated base with the counter and the multiplier of running clocks runs at their frequency and
-- tick, if its clocks are below their limits
IsRunning-within : (before base : ReadBase) (frequency tick : ℤ) →
    IsRunning before frequency tick → base.counter ≡ before.counter → base.mult ≡ before.mult →
    IsRated base → base_value base Realtime base.last <ℤ limit Realtime →
    base_value base Boottime base.last <ℤ limit Boottime →
    base_value base TaiClock base.last <ℤ limit TaiClock → IsRunning base frequency tick
IsRunning-within before base frequency tick held counter mult rated real boot tai =
    record {
      steered = mult ∙ held.steered ∙ ap (λ k. multiplier k frequency tick) (sym counter);
      frequency_low = held.frequency_low;
      frequency_high = held.frequency_high;
      tick_low = held.tick_low;
      tick_high = held.tick_high;
      rated = rated;
      within = record { real_low = real; boot_low = boot; tai_low = tai };
    }

-- such a base runs if it passes the test of limits
pub IsRunning-settled : (before base : ReadBase) (frequency tick : ℤ) (cmd : Command) →
    IsRunning before frequency tick → base.counter ≡ before.counter → base.mult ≡ before.mult →
    IsRated base → sets_real cmd ≡ false →
    is_past_limit (λ clock. base_value base clock base.last) cmd ≡ false →
    IsRunning base frequency tick
IsRunning-settled before base frequency tick cmd held counter mult rated plain past =
    let values : ClockId → ℤ = λ clock. base_value base clock base.last in
    let low = within_plain values cmd plain past in
    IsRunning-within before base frequency tick held counter mult rated low.0
    (within_boot values cmd past) low.1

-- a setting of REALTIME doesn't move the clocks that its test of limits reads
setting_past : (state : State) (now : ReadBase) (cmd : Command) (b : Bool) → sets_real cmd ≡ true →
    IsForwarded state now →
    is_past_limit (λ clock. base_value now clock now.last) cmd ≡ b →
    is_past_limit (λ clock. base_value (effect state now.last cmd).base clock now.last) cmd ≡ b
unfolding is_past_limit
setting_past state now (SetTime time) b sets e past =
    subst (λ (f : ReadBase). is_past_limit (λ clock. base_value f clock now.last) (SetTime time)
    ≡ b) e.stated past
setting_past state now (Step by) b sets e past =
    subst (λ (f : ReadBase). is_past_limit (λ clock. base_value f clock now.last) (Step by)
    ≡ b) e.stated past
setting_past state now (Leap by tai) b sets e past =
    subst (λ (f : ReadBase). is_past_limit (λ clock. base_value f clock now.last) (Leap by tai)
    ≡ b) e.stated past
setting_past state now _ b sets e past = absurd cc

pub setting_range : {state : State} {now : ReadBase} (cmd : Command) → sets_real cmd ≡ true →
    IsForwarded state now →
    is_past_limit (λ clock. base_value now clock now.last) cmd ≡ true →
    state_value_refusal state now.last cmd ≡ Some Range
setting_range {state} {now} cmd sets e past =
    stated_range _ _ _ (setting_past state now cmd true sets e past)

-- MONOTONIC before the command equals the forwarded base's
same_now : (state : State) (now : ReadBase) (cmd : Command) → IsForwarded state now →
    base_monotonic state.base now.last ≡ now_of (forwarded state.base now.last) →
    base_monotonic state.base now.last ≡ now_of now
same_now state now cmd e before = before ∙ ap now_of (sym e.stated)

set_setting : (state : State) (now : ReadBase) (time : Timespec) (b : Bool) →
    IsEarly state now.last (SetTime time) → IsForwarded state now →
    int_lt (nanoseconds time) (pos (now_of now)) ≡ b →
    is_bad_setting (λ clock. base_value state.base clock now.last) (SetTime time) ≡ b
unfolding is_bad_setting
set_setting state now time b early e stated =
    ap (λ n. int_lt (nanoseconds time) (pos n))
    (same_now state now (SetTime time) e
    (monotonic-before state now.last (SetTime time) early refl))
    ∙ stated

pub set_invalid : (state : State) (now : ReadBase) (time : Timespec) →
    IsEarly state now.last (SetTime time) → IsForwarded state now →
    is_past_limit (λ clock. base_value now clock now.last) (SetTime time) ≡ false →
    nanoseconds time <ℤ pos (now_of now) →
    state_value_refusal state now.last (SetTime time) ≡ Some Invalid
set_invalid state now time early e past low =
    stated_invalid _ _ _ (setting_past state now (SetTime time) false refl e past)
    (set_setting state now time true early e (is_below (nanoseconds time) (pos (now_of now)) low))

pub set_none : (state : State) (now : ReadBase) (time : Timespec) →
    IsEarly state now.last (SetTime time) → IsForwarded state now →
    is_past_limit (λ clock. base_value now clock now.last) (SetTime time) ≡ false →
    pos (now_of now) ≤ℤ nanoseconds time →
    state_value_refusal state now.last (SetTime time) ≡ None
set_none state now time early e past high =
    stated_none _ _ _ (setting_past state now (SetTime time) false refl e past)
    (set_setting state now time false early e
    (not_below (nanoseconds time) (pos (now_of now)) high))

-- the state with a base that has this offset of REALTIME
abbrev with_real : State → ReadBase → ℤ → State
with_real state base offset = record state { base = record base { real_offset = offset } }

-- the state after a setting of REALTIME, where the offset is a function of the forwarded base
setting_state : (state : State) (now : ReadBase) (offset : ℕ) (real : ReadBase → ℤ) →
    IsForwarded state now → pos offset ≡ real now →
    (let fwd = forwarded state.base now.last
    in with_real state now (pos offset) ≡ with_real state fwd (real fwd))
setting_state state now offset real e stated =
    ap (with_real state now) stated ∙ ap (λ (b : ReadBase). with_real state b (real b)) e.stated

pub set_state : (state : State) (now : ReadBase) (time : Timespec) (offset : ℕ) →
    IsForwarded state now →
    pos offset ≡ nanoseconds time -ℤ pos (now_of now) →
    (let after : State = record state { base = record now { real_offset = pos offset } }
    in after ≡ effect state now.last (SetTime time))
set_state state now time offset e stated =
    setting_state state now offset (λ base. nanoseconds time -ℤ pos (now_of base)) e stated

-- REALTIME after it is moved by an amount, in nanoseconds
abbrev pub stepped : ReadBase → ℤ → ℤ
stepped now by = pos (now_of now) +ℤ now.real_offset +ℤ by

-- a command that moves REALTIME by an amount is tested by that amount, and is no resume
step_tested : (before : ClockId → ℤ) (cmd : Command) → steps_real cmd ≡ true →
    is_bad_setting before cmd ≡ is_bad_step before (real_amount cmd)
unfolding is_bad_setting
step_tested before (Step by) steps = refl
step_tested before (Leap by tai) steps = refl
step_tested before _ steps = absurd cc

step_sets : (cmd : Command) → steps_real cmd ≡ true → sets_real cmd ≡ true
step_sets (Step by) steps = refl
step_sets (Leap by tai) steps = refl
step_sets _ steps = absurd cc

step_awake : (cmd : Command) → steps_real cmd ≡ true → is_resume cmd ≡ false
step_awake (Step by) steps = refl
step_awake (Leap by tai) steps = refl
step_awake _ steps = absurd cc

step_setting : (state : State) (now : ReadBase) (cmd : Command) (by : ℤ) (b : Bool) →
    IsEarly state now.last cmd → IsForwarded state now → steps_real cmd ≡ true →
    real_amount cmd ≡ by →
    (int_lt (stepped now by) (pos (now_of now))
    || not (int_lt (stepped now by) (pos (settable_end * 10 ^ 9)))) ≡ b →
    is_bad_setting (λ clock. base_value state.base clock now.last) cmd ≡ b
step_setting state now cmd by b early e steps amount stated =
    let before : ClockId → ℤ = λ clock. base_value state.base clock now.last in
    let test : ℕ → ℤ → Bool = λ n offset.
    int_lt (pos n +ℤ offset +ℤ by) (pos n)
    || not (int_lt (pos n +ℤ offset +ℤ by) (pos (settable_end * 10 ^ 9))) in
    step_tested before cmd steps
    ∙ ap (is_bad_step before) amount
    ∙ ap (λ n. test n state.base.real_offset)
    (same_now state now cmd e (monotonic-before state now.last cmd early (step_awake cmd steps)))
    ∙ ap (λ (f : ReadBase). test (now_of now) f.real_offset) (sym e.stated)
    ∙ stated

bad_step : (x low high : ℤ) → (x <ℤ low) ⊎ (high ≤ℤ x) →
    (int_lt x low || not (int_lt x high)) ≡ true
bad_step x low high (inl under) = ap (λ b. b || not (int_lt x high)) (is_below x low under)
bad_step x low high (inr over) = by_over (int_lt x low) (int_lt x high) (not_below x high over)
  where
    by_over : (a b : Bool) → b ≡ false → (a || not b) ≡ true
    by_over true b h = refl
    by_over false false h = refl
    by_over false true h = absurd cc

good_step : (x low high : ℤ) → low ≤ℤ x → x <ℤ high → (int_lt x low || not (int_lt x high)) ≡ false
good_step x low high above below =
    ap (λ b. b || not (int_lt x high)) (not_below x low above)
    ∙ ap (λ b. not b) (is_below x high below)

pub step_range : {state : State} {now : ReadBase} (cmd : Command) → steps_real cmd ≡ true →
    IsForwarded state now →
    is_past_limit (λ clock. base_value now clock now.last) cmd ≡ true →
    state_value_refusal state now.last cmd ≡ Some Range
step_range cmd steps e past = setting_range cmd (step_sets cmd steps) e past

pub step_invalid : (state : State) (now : ReadBase) (cmd : Command) (by : ℤ) →
    IsEarly state now.last cmd → IsForwarded state now → steps_real cmd ≡ true →
    real_amount cmd ≡ by →
    is_past_limit (λ clock. base_value now clock now.last) cmd ≡ false →
    (stepped now by <ℤ pos (now_of now)) ⊎ (pos (settable_end * 10 ^ 9) ≤ℤ stepped now by) →
    state_value_refusal state now.last cmd ≡ Some Invalid
step_invalid state now cmd by early e steps amount past out =
    stated_invalid _ _ _ (setting_past state now cmd false (step_sets cmd steps) e past)
    (step_setting state now cmd by true early e steps amount
    (bad_step (stepped now by) (pos (now_of now)) (pos (settable_end * 10 ^ 9)) out))

pub step_none : (state : State) (now : ReadBase) (cmd : Command) (by : ℤ) →
    IsEarly state now.last cmd → IsForwarded state now → steps_real cmd ≡ true →
    real_amount cmd ≡ by →
    is_past_limit (λ clock. base_value now clock now.last) cmd ≡ false →
    pos (now_of now) ≤ℤ stepped now by → stepped now by <ℤ pos (settable_end * 10 ^ 9) →
    state_value_refusal state now.last cmd ≡ None
step_none state now cmd by early e steps amount past above below =
    stated_none _ _ _ (setting_past state now cmd false (step_sets cmd steps) e past)
    (step_setting state now cmd by false early e steps amount
    (good_step (stepped now by) (pos (now_of now)) (pos (settable_end * 10 ^ 9)) above below))

pub step_state : (state : State) (now : ReadBase) (by : Timespec) (offset : ℕ) →
    IsForwarded state now →
    pos offset ≡ now.real_offset +ℤ nanoseconds by →
    (let after : State = record state { base = record now { real_offset = pos offset } }
    in after ≡ effect state now.last (Step by))
step_state state now by offset e stated =
    setting_state state now offset (λ base. base.real_offset +ℤ nanoseconds by) e stated

-- a leap second as nanoseconds
pub leap_nanoseconds : (by : ℤ) →
    by *ℤ pos (10 ^ 9) ≡ nanoseconds (record { sec = by; nsec = 0 })
leap_nanoseconds by = omega (arith, ints)

pub leap_state : (state : State) (now : ReadBase) (by tai : ℤ) (offset : ℕ) →
    IsForwarded state now →
    pos offset ≡ now.real_offset +ℤ by *ℤ pos (10 ^ 9) →
    (let after : State = record state { base = record now { real_offset = pos offset; tai = tai } }
    in after ≡ effect state now.last (Leap by tai))
leap_state state now by tai offset e stated =
    let put : ℤ → ReadBase → State = λ real base.
    record state { base = record base { real_offset = real; tai = tai } } in
    ap (λ z. put z now) stated
    ∙ ap (λ (b : ReadBase). put (b.real_offset +ℤ by *ℤ pos (10 ^ 9)) b) e.stated

-- clocks still run after REALTIME is set to a time to which it may be set
pub IsRunning-set : (base now : ReadBase) (frequency tick : ℤ) (offset : ℕ) →
    IsRunning base frequency tick → now.counter ≡ base.counter → now.mult ≡ base.mult →
    IsRated now → now_of now + offset < settable_end * 10 ^ 9 → now.tai ≤ℤ pos greatest_tai →
    base_value now Boottime now.last <ℤ limit Boottime →
    IsRunning (record now { real_offset = pos offset }) frequency tick
IsRunning-set base now frequency tick offset held counter mult rated low tai boot =
    let after : ReadBase = record now { real_offset = pos offset } in
    IsRunning-within base after frequency tick held counter mult rated
    (rw (real-last after) (omega (arith, ints))) boot
    (rw (tai-last after) (omega (arith, ints, tai)))
