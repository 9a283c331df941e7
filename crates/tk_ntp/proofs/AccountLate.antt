-- What clocks were asked for is what they were given, as seconds begin late.
use Rattle.std.proofs.Common.{◌≡◌, ap, refl, sym, subst, ◌∙◌, ℕ, ◌≤◌, Bool, true, false, Option, None, arith}
use Rattle.std.specs.Prelude.{ℤ, ◌+ℤ◌, nat_lt, if◌then◌else◌}
use Rattle.tk_counter.specs.Counter.{gap, half}
use Rattle.tk_clock.specs.Reach.{distance}
use Rattle.tk_ntp.specs.Account.{units_at, owed, asked_to, dropped_at, lag_to, IsConsistent}
use Rattle.tk_ntp.specs.Advance.{Arrived, Begins, IsDue, leapt, sum_over, with_next_second}
use Rattle.tk_ntp.specs.Lag.{greatest_lag}
use Rattle.tk_ntp.specs.Late.{late_start, second_begun_late, with_late_second, IsAdvancedLate}
use Rattle.tk_ntp.specs.LateLaws.{asked_late, dropped_again, dropped_late, started_late, IsAccountedLate, IsKeptLate}
use Rattle.tk_ntp.specs.Second.{leap_at}
use Rattle.tk_ntp.specs.Steering.{Steered, commands}
use Rattle.tk_ntp.specs.SteeredClock.{SteeredClock, rate_in_force, reading_refusal}
use Rattle.tk_ntp.proofs.Accepted.{after_mark, ahead_at, awake_at, no_more}
use Rattle.tk_ntp.proofs.Account.{account-sum, chained, kept_whole}
use Rattle.tk_ntp.proofs.Each.{each}
use Rattle.tk_ntp.proofs.Gaps.{further}
use Rattle.tk_ntp.proofs.Made.{change-made, leapt-last_account, leapt-units}
use Rattle.tk_ntp.proofs.ConsistentLate.{next-at, IsAt}
use Rattle.tk_ntp.proofs.Seconds.{leapt-steering}

-- clocks whose last account is not after the reading of a call
record IsBefore (reading : ℕ) (steered : SteeredClock) : Type 0 where
  ahead : distance steered.clock.base steered.last_account ≤ half steered.clock.base.counter
  order : distance steered.clock.base steered.last_account ≤ distance steered.clock.base reading
  until : distance steered.clock.base reading ≤ half steered.clock.base.counter
  awake : steered.clock.base.asleep ≡ false

same_order : (n : ℕ) → n ≤ n
same_order n = omega arith

before-at : (reading : ℕ) (steered : SteeredClock) → IsAt reading steered →
    IsBefore reading steered
before-at reading steered here =
    let base = steered.clock.base in
    record {
      ahead = subst (λ (last_account : ℕ). distance base last_account ≤ half base.counter) (sym here.last_account)
          here.ahead;
      order = subst (λ (last_account : ℕ). distance base last_account ≤ distance base reading) (sym here.last_account)
          (same_order (distance base reading));
      until = here.ahead;
      awake = here.awake;
    }

-- a late second begins neither before the last account nor after the call
record IsBetween (reading start : ℕ) (steered : SteeredClock) : Type 0 where
  since : distance steered.clock.base steered.last_account ≤ distance steered.clock.base start
  until : distance steered.clock.base start ≤ distance steered.clock.base reading

between : (test : Bool) (reading at : ℕ) (steered : SteeredClock) →
    let counter = steered.clock.base.counter in
    nat_lt (half counter) (gap counter steered.last_account at) ≡ test → IsDue steered reading at →
    IsBefore reading steered → IsBetween reading (if test then steered.last_account else at) steered
between true reading at steered is due before = record {
  since = same_order (distance steered.clock.base steered.last_account);
  until = before.order;
}
between false reading at steered is due before =
    let base = steered.clock.base in
    record {
      since = further base.counter base.last steered.last_account at before.ahead
          (no_more (half base.counter) (gap base.counter steered.last_account at) is);
      until = due.until;
    }

-- both accounts of a second
late-sum : (reading at : ℕ) (steered : SteeredClock) → IsDue steered reading at →
    IsBefore reading steered →
    owed steered +ℤ asked_late reading at steered
    ≡ owed (second_begun_late at reading steered) +ℤ dropped_late reading at steered
late-sum reading at steered due before =
    let counter = steered.clock.base.counter in
    let start = late_start at steered in
    let started = started_late at steered in
    let begun = with_late_second at reading steered in
    let leap = leap_at steered.steering.ntp steered.next in
    let after = leapt reading leap begun in
    let change = commands after.clock.base.counter (rate_in_force after.clock) after.steering in
    let next = second_begun_late at reading steered in
    let order =
    between (nat_lt (half counter) (gap counter steered.last_account at)) reading at steered refl due
    before in
    chained (owed steered) (owed started) (owed next) (asked_to start steered)
    (asked_to reading started) (dropped_at start steered) (dropped_again reading at steered)
    (account-sum start started.steering.lag steered started refl refl refl order.since)
    (account-sum reading begun.steering.lag started next (leapt-last_account reading leap begun)
    (ap (λ (s : Steered). s.lag) (leapt-steering reading leap begun))
    ((change-made reading change after.clock).units ∙ leapt-units reading leap begun) order.until)

sum-late : (reading : ℕ) (before after : SteeredClock) (h : IsAdvancedLate reading before after) →
    IsBefore reading before →
    owed before
    +ℤ sum_over (λ at. second_begun_late at reading) (asked_late reading) reading before after h
    ≡ owed after
    +ℤ sum_over (λ at. second_begun_late at reading) (dropped_late reading) reading before after h
sum-late reading before after (Arrived steered none) is = refl
sum-late reading before after (Begins steered end at due rest) is =
    let next = second_begun_late at reading steered in
    chained (owed steered) (owed next) (owed end) (asked_late reading at steered)
    (sum_over (λ at. second_begun_late at reading) (asked_late reading) reading next end rest)
    (dropped_late reading at steered)
    (sum_over (λ at. second_begun_late at reading) (dropped_late reading) reading next end rest)
    (late-sum reading at steered due is)
    (sum-late reading next end rest
    (before-at reading next (next-at at reading steered is.until is.awake)))

kept-late : (reading at : ℕ) (steered : SteeredClock) → IsKeptLate reading at steered
kept-late reading at steered =
    let most = greatest_lag steered.clock.base.counter in (
      λ within. kept_whole most (lag_to (late_start at steered) steered) within,
      λ within. kept_whole most (lag_to reading (started_late at steered)) within,
    )

pub accounted_late : (reading : ℕ) (before after : SteeredClock) →
    IsAdvancedLate reading before after → reading_refusal reading before ≡ None → IsConsistent before →
    IsAccountedLate reading before after
accounted_late reading before after h accepted consistent =
    let base = before.clock.base in
    record {
      begun = h;
      sum = sum-late reading before after h (record {
        ahead = consistent.ahead;
        order = further base.counter base.last before.last_account reading consistent.ahead
            (after_mark reading before accepted);
        until = ahead_at reading before accepted;
        awake = awake_at reading before accepted;
      });
      kept = each (λ at. second_begun_late at reading) (IsKeptLate reading) reading before after h
          (kept-late reading);
    }
