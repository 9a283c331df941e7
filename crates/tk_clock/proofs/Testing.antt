-- The tests of an update that isn't made, by the clocks' values at its reading.
use Rattle.std.proofs.Common.{◌≡◌, ◌∙◌, refl, sym, ap, ℕ, ◌^◌, Bool, true, false}
use Rattle.std.specs.Prelude.{ℤ, pos, ◌+ℤ◌, ◌*ℤ◌, int_lt, Option, Some, None, not, ◌&&◌, ◌||◌}
use Rattle.tk_clock.specs.declared.clock_id.ClockId.{ClockId}
use Rattle.tk_clock.specs.declared.clock_id.ClockId.TheVariants.{Realtime, Monotonic, Boottime, Tai as TaiClock}
use Rattle.tk_clock.specs.declared.command.Command.TheVariants.{Update}
use Rattle.tk_clock.specs.declared.refusal.Refusal.{Refusal}
use Rattle.tk_clock.specs.declared.refusal.Refusal.TheVariants.{Range}
use Rattle.tk_clock.specs.Effect.{IsEarly}
use Rattle.tk_clock.specs.Limits.{is_bad_setting, is_past_limit, limit, sets_real}
use Rattle.tk_clock.specs.Refusal.{first_of, state_refusal, state_value_refusal}
use Rattle.tk_clock.specs.State.{State, base_value, effect}
use Rattle.tk_clock.proofs.Effects.{monotonic-before, stated_none, stated_range}
use Rattle.tk_clock.proofs.Forwarding.{base_monotonic-last}

-- the clocks' values at a reading, before an update there and after it
abbrev pub values_before : State → ℕ → ClockId → ℤ
values_before state reading clock = base_value state.base clock reading

abbrev values_after : State → ℕ → ClockId → ℤ
values_after state reading clock = base_value (effect state reading Update).base clock reading

-- an update leaves each clock its value
past-updated : (state : State) (reading : ℕ) → IsEarly state reading Update →
    is_past_limit (values_after state reading) Update
    ≡ is_past_limit (values_before state reading) Update
unfolding is_past_limit
past-updated state reading early =
    let base = state.base in
    let past : ℕ → Bool = λ n.
    not (int_lt (pos n) (limit Monotonic))
    || not (int_lt (pos n +ℤ base.boot_offset) (limit Boottime))
    || (not (sets_real Update)
    && (not (int_lt (pos n +ℤ base.real_offset) (limit Realtime))
    || not (int_lt (pos n +ℤ base.real_offset +ℤ base.tai *ℤ pos (10 ^ 9)) (limit TaiClock)))) in
    ap past
    (base_monotonic-last (effect state reading Update).base
    ∙ sym (monotonic-before state reading Update early refl))

-- an update sets no time
no_setting : (before : ClockId → ℤ) → is_bad_setting before Update ≡ false
unfolding is_bad_setting
no_setting before = refl

late : (state : State) (reading : ℕ) (refusal : Option Refusal) → IsEarly state reading Update →
    state_value_refusal state reading Update ≡ refusal →
    state_refusal state reading Update ≡ refusal
late state reading refusal early e =
    ap (λ (r : Option Refusal). first_of r (state_value_refusal state reading Update)) early ∙ e

pub refused : (state : State) (reading : ℕ) → IsEarly state reading Update →
    is_past_limit (values_before state reading) Update ≡ true →
    state_refusal state reading Update ≡ Some Range
refused state reading early past =
    late state reading (Some Range) early
    (stated_range (values_before state reading) (values_after state reading) Update
    (past-updated state reading early ∙ past))

pub accepted : (state : State) (reading : ℕ) → IsEarly state reading Update →
    is_past_limit (values_before state reading) Update ≡ false →
    state_refusal state reading Update ≡ None
accepted state reading early low =
    late state reading None early
    (stated_none (values_before state reading) (values_after state reading) Update
    (past-updated state reading early ∙ low) (no_setting (values_before state reading)))
