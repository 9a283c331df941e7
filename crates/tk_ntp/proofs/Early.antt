-- Updates of the present second.
use Rattle.std.proofs.Common.{◌≡◌, ◌∙◌, ap, refl, sym, subst, ℕ, zero, suc, ◌+◌, ◌-◌, ◌*◌, ◌/◌, ◌^◌, ◌<◌, ◌≤◌, Bool, true, false, Some, None, arith}
use Rattle.std.specs.Prelude.{ℤ, pos, not, ◌+ℤ◌, ◌<ℤ◌, ◌≤ℤ◌, ◌||◌, nat_lt, int_lt, if◌then◌else◌}
use Rattle.std.proofs.lemmas.Bool.{le-ltb}
use Rattle.std.proofs.lemmas.Int.{ints}
use Rattle.std.proofs.lemmas.Nat.{pow_pos}
use Rattle.tk_clock.specs.declared.clock_id.ClockId.TheVariants.{Realtime}
use Rattle.tk_clock.specs.declared.command.Command.TheVariants.{Update}
use Rattle.tk_clock.specs.declared.refusal.ReadError.TheVariants.{Invalid as InvalidReading, Range as PastLimit}
use Rattle.tk_clock.specs.declared.refusal.Refusal.TheVariants.{Behind}
use Rattle.tk_clock.specs.Limits.{limit}
use Rattle.tk_clock.specs.Reach.{IsFirstReached, IsNeverReached, distance}
use Rattle.tk_clock.specs.State.{ReadBase, base_value, effect, forwarded}
use Rattle.tk_clock.specs.Time.{nanoseconds}
use Rattle.tk_clock.proofs.Lines.{value_ahead}
use Rattle.tk_counter.specs.Counter.{Counter, gap, half, mask}
use Rattle.tk_ntp.specs.Advance.{second_time}
use Rattle.tk_ntp.specs.Asked.{after_command}
use Rattle.tk_ntp.specs.Early.{IsEarlyBy, IsEarlyFor, IsInSecond}
use Rattle.tk_ntp.specs.Staged.{IsSettled}
use Rattle.tk_ntp.specs.SteeredClock.{SteeredClock}
use Rattle.tk_ntp.proofs.Gaps.{sum_gap}

-- no second is due after an update, if none is due before it

fewer : (p d g early : ℕ) → 0 < p → d + early ≤ (p - 1) / 2 + 1 → g < early →
    (d + g < p) × (g ≤ (p - 1) / 2) × (d + g ≤ (p - 1) / 2)
fewer p d g early some near low =
    (omega (arith, some, near, low), omega (arith, near, low), omega (arith, near, low))

-- readings in the present second, and the gaps up to them
record IsNearBy (last reading : ℕ) (base : ReadBase) : Type 0 where
  sum : distance base reading ≡ distance base last + gap base.counter last reading
  ahead : gap base.counter last reading ≤ half base.counter
  all : distance base reading ≤ half base.counter

near-by : (early last reading : ℕ) (steered : SteeredClock) →
    distance steered.clock.base last + early ≤ half steered.clock.base.counter + 1 →
    gap steered.clock.base.counter last reading < early →
    IsNearBy last reading steered.clock.base
near-by early last reading steered near low =
    let base = steered.clock.base in
    let few = fewer (2 ^ base.counter.bits) (distance base last)
    (gap base.counter last reading) early (pow_pos base.counter.bits) near low in
    let sum = sum_gap base.counter base.last last reading few.0 in
    record { sum = sum; ahead = few.1; all = subst (λ n. n ≤ half base.counter) (sym sum) few.2 }

more : (a d g k m : ℕ) → k ≡ d + g → a + d * m + g * m ≡ a + k * m
more a d g k m is = rw is (omega arith)

same-units : (asleep : Bool) (a d g k m shift : ℕ) (offset : ℤ) → asleep ≡ false → k ≡ d + g →
    pos ((a + d * m + g * (if asleep || false then 0 else m)) / 2 ^ shift) +ℤ offset
    ≡ pos ((a + k * (if asleep || false then 0 else m)) / 2 ^ shift) +ℤ offset
same-units false a d g k m shift offset awake is =
    ap (λ n. pos (n / 2 ^ shift) +ℤ offset) (more a d g k m is)
same-units true a d g k m shift offset awake is = absurd (cc)

-- an update leaves REALTIME at later readings
same-value : (base : ReadBase) (last reading : ℕ) → base.asleep ≡ false →
    IsNearBy last reading base →
    base_value (forwarded base last) Realtime reading ≡ base_value base Realtime reading
same-value base last reading awake near =
    value_ahead (forwarded base last) Realtime reading near.ahead
    ∙ same-units base.asleep base.amount (distance base last) (gap base.counter last reading)
    (distance base reading) base.mult base.counter.shift base.real_offset awake near.sum
    ∙ sym (value_ahead base Realtime reading near.all)

-- a read of REALTIME, which gives the value, has reached a time
abbrev ReachesBy : Counter → ℕ → ℤ → ℤ → Type 0
ReachesBy counter reading nanos value =
    ((if nat_lt (mask counter) reading then Some InvalidReading
    else if not (int_lt value (limit Realtime)) then Some PastLimit
    else None)
    ≡ None)
    × (nanos ≤ℤ value)

further : (d k g : ℕ) (a b : ℕ) → a ≡ d + k → b ≡ d + g → k ≤ g → a ≤ b
further d k g a b e f order = omega (arith, e, f, order)

nearer : (d g early : ℕ) (b : ℕ) → b ≡ d + g → g < early → b < d + early
nearer d g early b e low = omega (arith, e, low)

lower : (k g early : ℕ) → k ≤ g → g < early → k < early
lower k g early order low = omega (arith, order, low)

rest-of : (early d : ℕ) → d < early → d + (early - d) ≡ early
rest-of early d low = omega (arith, low)

fewer-left : (early d most : ℕ) → early ≤ most → early - d ≤ most
fewer-left early d most near = omega (arith, near)

-- an update in the present second leaves fewer cycles to its end
pub updated : (early reading : ℕ) (steered : SteeredClock) → IsInSecond early steered →
    distance steered.clock.base reading < early →
    IsInSecond (early - distance steered.clock.base reading)
    (after_command reading Update (effect steered.clock reading Update) steered)
updated early last steered h low =
    let base = steered.clock.base in
    let d = distance base last in
    let rest = early - d in
    let near : d + rest ≤ half base.counter + 1 =
    subst (λ n. n ≤ half base.counter + 1) (sym (rest-of early d low)) h.ahead.near in
    record {
      awake = h.awake;
      last_account = refl;
      ahead = record {
        near = fewer-left early d (half base.counter + 1) h.ahead.near;
        none = λ reading few at ahead order reached.
            let g = gap base.counter last reading in
            let k = gap base.counter last at in
            let there = near-by rest last reading steered near few in
            let there' = near-by rest last at steered near (lower k g rest order few) in
            h.ahead.none reading
            (subst (λ n. distance base reading < n) (rest-of early d low)
            (nearer d g rest (distance base reading) there.sum few)) at
            (ahead.0, there'.all)
            (further d k g (distance base at) (distance base reading) there'.sum there.sum order)
            (subst (ReachesBy base.counter at (nanoseconds (second_time steered.next)))
            (same-value base last at h.awake there') reached);
      };
    }

no-more : (early most d : ℕ) → early ≤ most + 1 → d < early → d ≤ most
no-more early most d near low = omega (arith, near, low)

-- no second is due at an update in the present second
pub settled : (early reading : ℕ) (steered : SteeredClock) → IsInSecond early steered →
    distance steered.clock.base reading < early → IsSettled steered reading
settled early reading steered h low =
    let counter = steered.clock.base.counter in
    record {
      none = h.ahead.none reading low;
      order = ap (λ b. if b then Some Behind else None)
          (le-ltb _ _ (subst (λ (last_account : ℕ). gap counter last_account reading ≤ half counter) (sym h.last_account)
          (no-more early (half counter) (gap counter steered.clock.base.last reading) h.ahead.near
          low)));
    }

-- the countdown that an owner stores

pub in_second : (early cycles : ℕ) (steered : SteeredClock) → cycles < early →
    IsEarlyBy early steered → IsInSecond early steered
in_second zero cycles steered low h = absurd (omega (arith, low))
in_second (suc rest) cycles steered low h = h

pub from_second : (early : ℕ) (steered : SteeredClock) → IsInSecond early steered →
    IsEarlyBy early steered
from_second zero steered h = tt
from_second (suc rest) steered h = h

-- the search for the next second

apart : (a b : ℤ) → a <ℤ b → b ≤ℤ a → ⊥
apart a b low high = absurd (omega (arith, ints, low, high))

pub first-early : (at : ℕ) (steered : SteeredClock) →
    IsFirstReached steered.clock.base Realtime (nanoseconds (second_time steered.next)) at →
    IsEarlyFor (distance steered.clock.base at) steered
first-early at steered first = record {
  near = let near = first.ahead.1 in omega (arith, near);
  none = λ reading low other ahead order reached.
      let before = first.nearer other ahead (omega (arith, low, order)) in
      apart _ _ before.1 reached.1;
}

pub never-early : (steered : SteeredClock) →
    IsNeverReached steered.clock.base Realtime (nanoseconds (second_time steered.next)) →
    IsEarlyFor (half steered.clock.base.counter + 1) steered
never-early steered never = record {
  near = omega arith;
  none = λ reading low other ahead order. never other ahead;
}
