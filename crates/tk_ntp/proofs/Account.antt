-- What clocks were asked for is what they were given, as seconds begin.
use Rattle.std.proofs.Common.{◌≡◌, ◌∙◌, refl, sym, ap, subst, ℕ, ◌+◌, ◌-◌, ◌*◌, ◌<◌, ◌≤◌, ◌⊎◌, inl, inr, true, false, arith}
use Rattle.std.specs.Prelude.{ℤ, pos, ◌+ℤ◌, ◌-ℤ◌, ◌*ℤ◌, ◌<ℤ◌, ◌≤ℤ◌, unsigned_abs}
use Rattle.std.proofs.lemmas.Int.{ints, clamps}
use Rattle.std.proofs.Math.IntN.{pos-*ℤ-pos}
use Rattle.tk_counter.specs.Counter.{gap, half}
use Rattle.tk_clock.specs.declared.clock_id.ClockId.TheVariants.{Realtime}
use Rattle.tk_clock.specs.Reach.{IsAhead, HasReached, distance}
use Rattle.tk_clock.specs.State.{State, base_value}
use Rattle.tk_clock.specs.Time.{nanoseconds}
use Rattle.tk_ntp.specs.Account.{units_at, owed, cycles_to, lag_to, asked_to, dropped_at, dropped_to, asked_of, dropped_of, AreKept, IsConsistent, IsAccounted}
use Rattle.tk_ntp.specs.Advance.{IsAdvanced, Arrived, Begins, IsDue, second_begun_at, second_time, with_next_second}
use Rattle.tk_ntp.specs.Lag.{greatest_lag}
use Rattle.tk_ntp.specs.Loops.{clamped_by}
use Rattle.tk_ntp.specs.Ntp.{second_length}
use Rattle.tk_ntp.specs.Rate.{nominal}
use Rattle.tk_ntp.specs.SteeredClock.{SteeredClock}
use Rattle.tk_ntp.proofs.Gaps.{later_gap}
use Rattle.tk_ntp.proofs.Made.{none_here, second-made}
use Rattle.tk_ntp.proofs.Scaled.{scaled_difference}
use borrow.Author.Differences.{abs_is}

finish : (a b s lag after y : ℤ) → s ≡ a +ℤ b →
    a +ℤ lag +ℤ y ≡ s +ℤ after +ℤ (lag +ℤ (y -ℤ b) -ℤ after)
finish a b s lag after y h = omega (arith, ints, h)

plus : (a b : ℕ) → pos (a + b) ≡ pos a +ℤ pos b
plus a b = omega (arith, ints)

spread : (u c m n : ℕ) → (u + c * m) * n ≡ u * n + c * (m * n)
spread u c m n = omega arith

products : (u c m n : ℕ) →
    pos (u + c * m) *ℤ pos n ≡ pos u *ℤ pos n +ℤ pos c *ℤ (pos m *ℤ pos n)
products u c m n =
    pos-*ℤ-pos (u + c * m) n
    ∙ ap pos (spread u c m n)
    ∙ plus (u * n) (c * (m * n))
    ∙ ap (λ z. pos (u * n) +ℤ z) (sym (pos-*ℤ-pos c (m * n)))
    ∙ ap (λ z. z +ℤ pos c *ℤ pos (m * n)) (sym (pos-*ℤ-pos u n))
    ∙ ap (λ z. pos u *ℤ pos n +ℤ pos c *ℤ z) (sym (pos-*ℤ-pos m n))

-- an account: what a stretch was asked for is what it got, up to the lag and to what is dropped
conserved : (u c m n : ℕ) (lag after x : ℤ) →
    pos u *ℤ pos n +ℤ lag +ℤ pos c *ℤ x
    ≡ pos (u + c * m) *ℤ pos n +ℤ after
    +ℤ (lag +ℤ pos c *ℤ (x -ℤ pos m *ℤ pos n) -ℤ after)
conserved u c m n lag after x =
    rw (scaled_difference c x (pos m *ℤ pos n))
    (finish (pos u *ℤ pos n) (pos c *ℤ (pos m *ℤ pos n)) (pos (u + c * m) *ℤ pos n) lag after
    (pos c *ℤ x) (products u c m n))

pub owed_is : (s : SteeredClock) (at u : ℕ) (lag : ℤ) → s.last_account ≡ at → units_at at s.clock ≡ u →
    s.steering.lag ≡ lag → owed s ≡ pos u *ℤ pos nominal +ℤ lag
owed_is s at u lag m e l =
    ap (λ (k : ℕ). pos (units_at k s.clock) *ℤ pos nominal +ℤ s.steering.lag) m
    ∙ ap (λ (k : ℕ). pos k *ℤ pos nominal +ℤ s.steering.lag) e
    ∙ ap (λ z. pos u *ℤ pos nominal +ℤ z) l

split : (a k d m g : ℕ) → g ≡ k + d → a + g * m ≡ a + k * m + d * m
split a k d m g h = rw h (omega arith)

-- MONOTONIC at a reading, and at an earlier one
units_later : (clock : State) (last_account at : ℕ) →
    distance clock.base last_account ≤ distance clock.base at →
    units_at at clock ≡ units_at last_account clock + gap clock.base.counter last_account at * clock.base.mult
units_later clock last_account at order =
    let base = clock.base in
    let d = gap base.counter last_account at in
    let k = gap base.counter base.last last_account in
    let g = gap base.counter base.last at in
    let later : d ≡ g - k = later_gap base.counter base.last last_account at order in
    split base.amount k d base.mult g (omega (arith, later, order))

-- one account, at a reading at which MONOTONIC stays
pub account-sum : (at : ℕ) (lag : ℤ) (before after : SteeredClock) → after.last_account ≡ at →
    after.steering.lag ≡ lag → units_at at after.clock ≡ units_at at before.clock →
    distance before.clock.base before.last_account ≤ distance before.clock.base at →
    owed before +ℤ asked_to at before ≡ owed after +ℤ dropped_to at lag before
account-sum at lag before after last_account is units order =
    let base = before.clock.base in
    let u = units_at before.last_account before.clock in
    let c = cycles_to at before in
    conserved u c base.mult nominal before.steering.lag lag
    (pos base.counter.mult *ℤ second_length before.steering.ntp)
    ∙ ap (λ z. z +ℤ dropped_to at lag before)
    (sym
    (owed_is after at (u + c * base.mult) lag last_account
    (units ∙ units_later before.clock before.last_account at order) is))

second-sum : (at : ℕ) (steered : SteeredClock) →
    distance steered.clock.base steered.last_account ≤ distance steered.clock.base at →
    owed steered +ℤ asked_to at steered
    ≡ owed (second_begun_at at steered) +ℤ dropped_at at steered
second-sum at steered order =
    let made = second-made at steered in
    account-sum at (with_next_second at steered).steering.lag steered (second_begun_at at steered)
    made.last_account made.lag made.units order

pub chained : (a b c x y p q : ℤ) → a +ℤ x ≡ b +ℤ p → b +ℤ y ≡ c +ℤ q →
    a +ℤ (x +ℤ y) ≡ c +ℤ (p +ℤ q)
chained a b c x y p q h k = omega (arith, ints, h, k)

-- REALTIME reaches the second after the next one at no nearer reading than the next one
late : (value : ℤ) (n : ℕ) → value <ℤ nanoseconds (second_time n) →
    nanoseconds (second_time (n + 1)) ≤ℤ value → ⊥
late value n h k = absurd (omega (arith, ints, h, k))

pub order : (a b : ℕ) → (a < b) ⊎ (b ≤ a)
order a b = grind arith

-- REALTIME reaches the next second at no reading before the last account
abbrev pub IsNearer : SteeredClock → Type 0
IsNearer s = (other : ℕ) → IsAhead s.clock.base other →
    HasReached s.clock.base Realtime (nanoseconds (second_time s.next)) other →
    distance s.clock.base s.last_account ≤ distance s.clock.base other

following : (steered : SteeredClock) (reading at other : ℕ) → IsDue steered reading at →
    IsAhead steered.clock.base other →
    HasReached steered.clock.base Realtime (nanoseconds (second_time (steered.next + 1))) other →
    distance steered.clock.base at ≤ distance steered.clock.base other
following steered reading at other due ahead reached =
    let base = steered.clock.base in
    elim (order (distance base other) (distance base at)) as
    (λ _. distance base at ≤ distance base other) [
      | inl less ↦ absurd
          (late (base_value base Realtime other) steered.next
          (due.first.nearer other ahead less).1 reached.1)
      | inr no_less ↦ no_less
    ]

second-nearer : (reading at : ℕ) (steered : SteeredClock) → IsDue steered reading at →
    IsNearer (second_begun_at at steered)
second-nearer reading at steered due =
    let end = second_begun_at at steered in
    let made = second-made at steered in
    let goal : State → ℕ → ℕ → Type 0 = λ clock last_account other.
    distance clock.base last_account ≤ distance clock.base other in
    λ other ahead reached.
    subst (λ last_account. goal end.clock last_account other) (sym made.last_account)
    (elim made.same as (λ _. goal end.clock at other) [
      | inl e ↦
          let reached' : HasReached end.clock.base Realtime
          (nanoseconds (second_time (steered.next + 1))) other =
          subst (λ (n : ℕ). HasReached end.clock.base Realtime (nanoseconds (second_time n)) other)
          e.1 reached in
          subst (λ (clock : State). IsAhead clock.base other →
          HasReached clock.base Realtime (nanoseconds (second_time (steered.next + 1))) other →
          goal clock at other) (sym e.0)
          (λ a r. following steered reading at other due a r) ahead reached'
      | inr e ↦ subst (λ (last : ℕ). gap end.clock.base.counter last at
          ≤ gap end.clock.base.counter last other) (sym e)
          (rw (none_here end.clock.base.counter at) (omega arith))
    ])

-- the second's reading is the last account's, and at most half the range ahead
second-ahead : (reading at : ℕ) (steered : SteeredClock) → IsDue steered reading at →
    distance (second_begun_at at steered).clock.base (second_begun_at at steered).last_account
    ≤ half (second_begun_at at steered).clock.base.counter
second-ahead reading at steered due =
    let end = second_begun_at at steered in
    let made = second-made at steered in
    let goal : State → Type 0 =
    λ clock. distance clock.base at ≤ half clock.base.counter in
    subst (λ (last_account : ℕ). distance end.clock.base last_account ≤ half end.clock.base.counter)
    (sym made.last_account)
    (elim made.same as (λ _. goal end.clock) [
      | inl e ↦ subst goal (sym e.0) due.first.ahead.1
      | inr e ↦ subst (λ (last : ℕ). gap end.clock.base.counter last at
          ≤ half end.clock.base.counter) (sym e)
          (rw (none_here end.clock.base.counter at) (omega arith))
    ])

pub never : true ≡ false → ⊥
never h = cc

second-awake : (at : ℕ) (steered : SteeredClock) → steered.clock.base.asleep ≡ false →
    (second_begun_at at steered).clock.base.asleep ≡ false
second-awake at steered awake = (second-made at steered).asleep ∙ awake

second-consistent : (reading at : ℕ) (steered : SteeredClock) → IsDue steered reading at →
    steered.clock.base.asleep ≡ false → IsConsistent (second_begun_at at steered)
second-consistent reading at steered due awake = record {
  ahead = second-ahead reading at steered due;
  asleep = λ is. absurd (never (sym is ∙ second-awake at steered awake));
  nearer = second-nearer reading at steered due;
}

pub sum-of : (reading : ℕ) (before after : SteeredClock) (h : IsAdvanced reading before after) →
    IsConsistent before → before.clock.base.asleep ≡ false →
    owed before +ℤ asked_of reading before after h
    ≡ owed after +ℤ dropped_of reading before after h
sum-of reading before after (Arrived steered none) consistent awake = refl
sum-of reading before after (Begins steered end at due rest) consistent awake =
    let next = second_begun_at at steered in
    chained (owed steered) (owed next) (owed end) (asked_to at steered)
    (asked_of reading next end rest) (dropped_at at steered) (dropped_of reading next end rest)
    (second-sum at steered (consistent.nearer at due.first.ahead due.first.reached))
    (sum-of reading next end rest (second-consistent reading at steered due awake)
    (second-awake at steered awake))

pub consistent-after : (reading : ℕ) (before after : SteeredClock) → IsAdvanced reading before after →
    IsConsistent before → before.clock.base.asleep ≡ false → IsConsistent after
consistent-after reading before after (Arrived steered none) consistent awake = consistent
consistent-after reading before after (Begins steered end at due rest) consistent awake =
    consistent-after reading (second_begun_at at steered) end rest
    (second-consistent reading at steered due awake) (second-awake at steered awake)

pub awake-after : (reading : ℕ) (before after : SteeredClock) → IsAdvanced reading before after →
    before.clock.base.asleep ≡ false → after.clock.base.asleep ≡ false
awake-after reading before after (Arrived steered none) awake = awake
awake-after reading before after (Begins steered end at due rest) awake =
    awake-after reading (second_begun_at at steered) end rest (second-awake at steered awake)

-- nothing is dropped of a number within a bound
pub kept_whole : (most : ℕ) (z : ℤ) → unsigned_abs z ≤ most → z -ℤ clamped_by most z ≡ pos 0
kept_whole most z h = omega (arith, ints, clamps, abs_is, h)

pub kept-of : (reading : ℕ) (before after : SteeredClock) (h : IsAdvanced reading before after) →
    AreKept reading before after h
kept-of reading before after (Arrived steered none) = tt
kept-of reading before after (Begins steered end at due rest) = (
  λ within. kept_whole (greatest_lag steered.clock.base.counter) (lag_to at steered) within,
  kept-of reading (second_begun_at at steered) end rest,
)

pub accounted_for : (reading : ℕ) (before after : SteeredClock) → IsAdvanced reading before after →
    before.clock.base.asleep ≡ false → IsConsistent before → IsAccounted reading before after
accounted_for reading before after h awake consistent = record {
  begun = h;
  sum = sum-of reading before after h consistent awake;
  kept = kept-of reading before after h;
  consistent = consistent-after reading before after h consistent awake;
}
