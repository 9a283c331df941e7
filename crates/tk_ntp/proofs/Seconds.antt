-- Only finitely many seconds can begin.
use Rattle.std.proofs.Common.{◌≡◌, refl, ℕ, ◌+◌, ◌-◌, ◌*◌, ◌<◌, ◌≤◌, Bool, true, false, ◌&&◌, ◌||◌, Option, Some, None, arith}
use Rattle.std.specs.Prelude.{ℤ, nat_eq, if◌then◌else◌}
use Rattle.tk_clock.specs.Limits.{clock_end}
use Rattle.tk_clock.specs.Refusal.{state_refusal}
use Rattle.tk_clock.specs.declared.refusal.Refusal.{Refusal}
use Rattle.tk_ntp.specs.declared.leap.Leap.{Leap}
use Rattle.tk_ntp.specs.declared.leap.Leap.TheVariants.{None as NoLeap, Insert, Delete}
use Rattle.tk_ntp.specs.declared.leap_plan.LeapState.{LeapState}
use Rattle.tk_ntp.specs.declared.leap_plan.LeapState.TheVariants.{Idle, Inserting, Deleting, InProgress, Over}
use Rattle.tk_ntp.specs.Bits.{has, sta_ins, sta_del}
use Rattle.tk_ntp.specs.Leap.{LeapPlan, number_of, over, is_due, plan_in, leap_in}
use Rattle.tk_ntp.specs.Late.{second_begun_late, with_late_second}
use Rattle.tk_ntp.specs.Second.{begun as begun_of, leap_at}
use Rattle.tk_ntp.specs.SteeredClock.{SteeredClock, steered_at}
use Rattle.tk_ntp.specs.Advance.{leap_of_clock, leapt, leapt_unless, with_next_second, second_begun_at, steps_before, seconds_left}

-- the seconds that REALTIME goes back by
abbrev pub back : Leap → ℕ
back NoLeap = 0
back Insert = 1
back Delete = 0

at_most_one : (test : Bool) → (if test then 0 else 1) ≤ 1
at_most_one true = omega arith
at_most_one false = omega arith

steps_most : (state : LeapState) → steps_before state ≤ 1
steps_most state = at_most_one (nat_eq (number_of state) 3)

inserting : (plan : LeapPlan) (due : Bool) →
    steps_before (if due then record plan { state = InProgress } else plan).state
    + 2 * back (if true && due then Insert else NoLeap) < 3
inserting plan true = omega arith
inserting plan false = let most = steps_most plan.state in omega arith

deleting : (plan : LeapPlan) (due : Bool) →
    steps_before (if due then over else plan).state
    + 2 * back (if true && due then Delete else NoLeap) < 3
deleting plan true = omega arith
deleting plan false = let most = steps_most plan.state in omega arith

after_leap : (plan : LeapPlan) (waits : Bool) →
    steps_before (if waits then plan else record plan { state = Idle }).state < 3
after_leap plan true = let most = steps_most plan.state in omega arith
after_leap plan false = omega arith

-- a leap that goes back is in progress after it
pub plan_steps : (state : LeapState) (plan : LeapPlan) (insert delete : Bool) (sec : ℕ) →
    steps_before (plan_in state plan insert delete sec).state
    + 2 * back (leap_in state plan insert delete sec) < 2 + steps_before state
plan_steps Idle plan true delete sec = omega arith
plan_steps Idle plan false true sec = omega arith
plan_steps Idle plan false false sec = let most = steps_most plan.state in omega arith
plan_steps Inserting plan false delete sec = omega arith
plan_steps Inserting plan true delete sec = inserting plan (is_due plan.due sec)
plan_steps Deleting plan insert false sec = omega arith
plan_steps Deleting plan insert true sec = deleting plan (is_due plan.due sec)
plan_steps InProgress plan insert delete sec = omega arith
plan_steps Over plan insert delete sec = let after = after_leap plan (insert || delete) in omega arith

leapt_unless-next : (refusal : Option Refusal) (reading : ℕ) (leap : Leap)
    (steered : SteeredClock) →
    steered.next ≤ (leapt_unless refusal reading leap steered).next + back leap
leapt_unless-next (Some refusal) reading leap steered = omega arith
leapt_unless-next None reading NoLeap steered = omega arith
leapt_unless-next None reading Insert steered = omega arith
leapt_unless-next None reading Delete steered = omega arith

-- what holds without a leap, and whether its command is refused or not, holds after a leap
pub leapt-by : (P : SteeredClock → Type 0) (reading : ℕ) (leap : Leap) (steered : SteeredClock) →
    P steered → ((refusal : Option Refusal) → P (leapt_unless refusal reading leap steered)) →
    P (leapt reading leap steered)
leapt-by P reading NoLeap steered h k = h
leapt-by P reading Insert steered h k =
    k (state_refusal steered.clock reading (leap_of_clock Insert steered.clock))
leapt-by P reading Delete steered h k =
    k (state_refusal steered.clock reading (leap_of_clock Delete steered.clock))

leapt-next : (reading : ℕ) (leap : Leap) (steered : SteeredClock) →
    steered.next ≤ (leapt reading leap steered).next + back leap
leapt-next reading leap steered =
    leapt-by (λ (s : SteeredClock). steered.next ≤ s.next + back leap) reading leap steered
    (omega arith) (λ refusal. leapt_unless-next refusal reading leap steered)

leapt_unless-steering : (refusal : Option Refusal) (reading : ℕ) (leap : Leap)
    (steered : SteeredClock) → (leapt_unless refusal reading leap steered).steering ≡ steered.steering
leapt_unless-steering (Some refusal) reading leap steered = refl
leapt_unless-steering None reading leap steered = refl

-- a leap leaves the discipline
pub leapt-steering : (reading : ℕ) (leap : Leap) (steered : SteeredClock) →
    (leapt reading leap steered).steering ≡ steered.steering
leapt-steering reading leap steered =
    leapt-by (λ (s : SteeredClock). s.steering ≡ steered.steering) reading leap steered refl
    (λ refusal. leapt_unless-steering refusal reading leap steered)

pub counted : (next after drop steps before : ℕ) → next < clock_end → next + 1 ≤ after + drop →
    steps + 2 * drop < 2 + before →
    2 * (clock_end + 1 - after) + steps < 2 * (clock_end + 1 - next) + before
counted next after drop steps before low h k = omega arith

-- a second that begins leaves fewer of them, after any account
begun-fewer : (reading last_account : ℕ) (lag : ℤ) (steered : SteeredClock) → steered.next < clock_end →
    let ntp = steered.steering.ntp in
    let begun : SteeredClock = record steered {
      steering = record { ntp = begun_of ntp steered.next; lag = lag };
      next = steered.next + 1;
      last_account = last_account;
    } in
    seconds_left (steered_at reading (leapt reading (leap_at ntp steered.next) begun))
    < seconds_left steered
begun-fewer reading last_account lag steered low =
    let ntp = steered.steering.ntp in
    let leap = leap_at ntp steered.next in
    let begun : SteeredClock = record steered {
      steering = record { ntp = begun_of ntp steered.next; lag = lag };
      next = steered.next + 1;
      last_account = last_account;
    } in
    rw (leapt-steering reading leap begun)
    (counted steered.next (leapt reading leap begun).next (back leap)
    (steps_before begun.steering.ntp.plan.state) (steps_before ntp.plan.state) low
    (leapt-next reading leap begun)
    (plan_steps ntp.plan.state ntp.plan (has ntp.status sta_ins) (has ntp.status sta_del)
    steered.next))

-- each second that begins leaves fewer of them
pub fewer : (reading : ℕ) (steered : SteeredClock) → steered.next < clock_end →
    seconds_left (second_begun_at reading steered) < seconds_left steered
fewer reading steered =
    begun-fewer reading reading (with_next_second reading steered).steering.lag steered

-- so does each second that begins late
pub fewer_late : (at reading : ℕ) (steered : SteeredClock) → steered.next < clock_end →
    seconds_left (second_begun_late at reading steered) < seconds_left steered
fewer_late at reading steered =
    begun-fewer reading reading (with_late_second at reading steered).steering.lag steered
