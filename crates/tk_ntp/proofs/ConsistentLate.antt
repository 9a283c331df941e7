-- Where the last account is after seconds have begun late.
use Rattle.std.proofs.Common.{◌≡◌, ◌∙◌, sym, subst, ℕ, ◌≤◌, false, arith}
use Rattle.tk_counter.specs.Counter.{half}
use Rattle.tk_clock.specs.Reach.{distance}
use Rattle.tk_ntp.specs.Account.{IsConsistent}
use Rattle.tk_ntp.specs.Advance.{Arrived, Begins, leapt}
use Rattle.tk_ntp.specs.Late.{second_begun_late, with_late_second, IsAdvancedLate}
use Rattle.tk_ntp.specs.Second.{leap_at}
use Rattle.tk_ntp.specs.Steering.{commands}
use Rattle.tk_ntp.specs.SteeredClock.{SteeredClock, given_change, rate_in_force}
use Rattle.tk_ntp.proofs.Account.{never}
use Rattle.tk_ntp.proofs.Made.{change-made, leapt-asleep, leapt-last_account}
use Rattle.tk_ntp.proofs.Consistent.{none_nearer}
use Rattle.tk_ntp.proofs.Often.{given_change-near, IsNear, joined, leapt-near}
use Rattle.tk_ntp.proofs.Passed.{near-ahead}

-- a second that has begun late: its commands are at the reading of the call
record IsBegunAt (reading : ℕ) (before after : SteeredClock) : Type 0 where
  last_account : after.last_account ≡ reading
  near : IsNear reading before.clock after.clock
  asleep : after.clock.base.asleep ≡ before.clock.base.asleep

begun-late : (at reading : ℕ) (steered : SteeredClock) →
    IsBegunAt reading steered (second_begun_late at reading steered)
begun-late at reading steered =
    let begun = with_late_second at reading steered in
    let leap = leap_at steered.steering.ntp steered.next in
    let after = leapt reading leap begun in
    let change = commands after.clock.base.counter (rate_in_force after.clock) after.steering in
    record {
      last_account = leapt-last_account reading leap begun;
      near = joined reading steered.clock after.clock (given_change reading change after.clock)
          (leapt-near reading leap begun) (given_change-near reading change after.clock);
      asleep = (change-made reading change after.clock).asleep ∙ leapt-asleep reading leap begun;
    }

same_order : (n : ℕ) → n ≤ n
same_order n = omega arith

-- clocks whose last account is at the reading of a call, up to which their seconds begin
pub record IsAt (reading : ℕ) (steered : SteeredClock) : Type 0 where
  pub last_account : steered.last_account ≡ reading
  pub ahead : distance steered.clock.base reading ≤ half steered.clock.base.counter
  pub awake : steered.clock.base.asleep ≡ false

pub next-at : (at reading : ℕ) (steered : SteeredClock) →
    distance steered.clock.base reading ≤ half steered.clock.base.counter →
    steered.clock.base.asleep ≡ false → IsAt reading (second_begun_late at reading steered)
next-at at reading steered ahead awake =
    let next = second_begun_late at reading steered in
    let begun = begun-late at reading steered in
    record {
      last_account = begun.last_account;
      ahead = near-ahead reading reading steered.clock next.clock begun.near
          (same_order (distance steered.clock.base reading)) ahead;
      awake = begun.asleep ∙ awake;
    }

consistent-at : (reading : ℕ) (before after : SteeredClock) → IsAdvancedLate reading before after →
    IsAt reading before → IsConsistent after
consistent-at reading before after (Arrived steered none) here =
    let base = steered.clock.base in
    record {
      ahead = subst (λ (last_account : ℕ). distance base last_account ≤ half base.counter) (sym here.last_account)
          here.ahead;
      asleep = λ is. absurd (never (sym is ∙ here.awake));
      nearer = λ other ahead reached.
          subst (λ (last_account : ℕ). distance base last_account ≤ distance base other) (sym here.last_account)
          (none_nearer reading steered none other ahead reached);
    }
consistent-at reading before after (Begins steered end at due rest) here =
    consistent-at reading (second_begun_late at reading steered) end rest
    (next-at at reading steered here.ahead here.awake)

-- the last account stays after the last command, and before the next second
pub consistent_late : (reading : ℕ) (before after : SteeredClock) →
    IsAdvancedLate reading before after →
    distance before.clock.base reading ≤ half before.clock.base.counter →
    before.clock.base.asleep ≡ false → IsConsistent before → IsConsistent after
consistent_late reading before after (Arrived steered none) ahead awake consistent = consistent
consistent_late reading before after (Begins steered end at due rest) ahead awake consistent =
    consistent-at reading (second_begun_late at reading steered) end rest
    (next-at at reading steered ahead awake)
