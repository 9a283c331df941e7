-- A reading after the seconds up to it have begun.
use Rattle.std.proofs.Common.{◌≡◌, sym, subst, ℕ, ◌-◌, ◌≤◌, inl, inr, arith}
use Rattle.tk_counter.specs.Counter.{Counter, gap, half}
use Rattle.tk_clock.specs.Reach.{distance}
use Rattle.tk_clock.specs.State.{State}
use Rattle.tk_ntp.specs.Advance.{IsAdvanced, Arrived, Begins, second_begun_at}
use Rattle.tk_ntp.specs.SteeredClock.{SteeredClock}
use Rattle.tk_ntp.proofs.Gaps.{later_gap}
use Rattle.tk_ntp.proofs.Made.{second-made}
use Rattle.tk_ntp.proofs.Often.{IsNear, order-near, second-near}

-- commands at an earlier reading leave a reading at most half the range ahead
pub near-ahead : (at reading : ℕ) (before after : State) → IsNear at before after →
    distance before.base at ≤ distance before.base reading →
    distance before.base reading ≤ half before.base.counter →
    distance after.base reading ≤ half after.base.counter
near-ahead at reading before after near order ahead =
    let c = before.base.counter in
    let less : gap c at reading ≡ gap c before.base.last reading - gap c before.base.last at =
    later_gap c before.base.last at reading order in
    let goal : Counter → ℕ → Type 0 = λ counter last. gap counter last reading ≤ half counter in
    subst (λ counter. goal counter after.base.last) (sym near.counter)
    (elim near.last as (λ _. goal c after.base.last) [
      | inl e ↦ subst (goal c) (sym e) ahead
      | inr e ↦ subst (goal c) (sym e) (omega (arith, less, ahead))
    ])

pub still_ahead : (reading : ℕ) (before after : SteeredClock) → IsAdvanced reading before after →
    distance before.clock.base reading ≤ half before.clock.base.counter →
    distance after.clock.base reading ≤ half after.clock.base.counter
still_ahead reading before after (Arrived steered none) ahead = ahead
still_ahead reading before after (Begins steered end at due rest) ahead =
    let next = second_begun_at at steered in
    still_ahead reading next end rest
    (near-ahead at reading steered.clock next.clock (second-near at steered) due.until ahead)

same_order : (n : ℕ) → n ≤ n
same_order n = omega arith

-- the last account stays at or before the reading
pub still_after : (reading : ℕ) (before after : SteeredClock) → IsAdvanced reading before after →
    distance before.clock.base before.last_account ≤ distance before.clock.base reading →
    distance after.clock.base after.last_account ≤ distance after.clock.base reading
still_after reading before after (Arrived steered none) order = order
still_after reading before after (Begins steered end at due rest) order =
    let next = second_begun_at at steered in
    still_after reading next end rest
    (subst (λ (last_account : ℕ). distance next.clock.base last_account ≤ distance next.clock.base reading)
    (sym (second-made at steered).last_account)
    (order-near at steered.clock next.clock at reading (second-near at steered)
    (same_order (distance steered.clock.base at)) due.until))
