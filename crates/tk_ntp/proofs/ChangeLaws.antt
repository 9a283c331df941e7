-- The laws of the accounts, of an offset and of TAI, over a change of counter.
use Rattle.std.proofs.Common.{◌≡◌, ◌∙◌, refl, sym, ap, subst, ℕ, ◌+◌, ◌-◌, ◌*◌, ◌^◌, ◌<◌, ◌≤◌, inl, inr, Bool, true, false, Option, Some, None, MatchOption, arith}
use Rattle.std.specs.Prelude.{⊤, ℤ, pos, ◌+ℤ◌, ◌*ℤ◌, ◌<ℤ◌, ◌≤ℤ◌, nat_le, Result, Ok, Err, IfOk, if◌then◌else◌}
use Rattle.std.specs.Int.{int_div_euclid}
use Rattle.std.proofs.lemmas.Grind.{common_steps}
use Rattle.std.proofs.lemmas.Int.{ints}
use Rattle.std.proofs.lemmas.Nat.{pow_pos}
use Rattle.std.proofs.Math.IntN.{pos-*ℤ-pos, *ℤ_comm}
use Rattle.std.proofs.Math.Nat.{mul-le-mul_right}
use Rattle.tk_counter.specs.Counter.{Counter}
use Rattle.tk_clock.specs.ChangeCounter.{rescaled, changed, change_refusal, reading_refusal as number_refusal, state_over, IsKeptAmount}
use Rattle.tk_clock.specs.declared.refusal.Refusal.{Refusal}
use Rattle.tk_clock.specs.State.{forwarded}
use Rattle.tk_clock.proofs.ChangeCounter.{KeepsTimes-changed}
use Rattle.tk_clock.proofs.Rescaling.{IsKeptAmount-rescaled}
use Rattle.tk_ntp.specs.Account.{units_at, owed, IsBalanced, IsConsistent}
use Rattle.tk_ntp.specs.Advance.{IsAdvanced}
use Rattle.tk_ntp.specs.ChangeCounter.{accounted_awake, lag_over, rescaled_lag, steered_over, turn_refusal, IsAdvancedAwake, IsCounterChanged, IsTurnedOver}
use Rattle.tk_ntp.specs.ChangeLaws.{limited, AreKeptAwake, IsBalancedOver, IsKeptOver, IsOwedOver}
use Rattle.tk_ntp.specs.Lag.{greatest_lag}
use Rattle.tk_ntp.specs.Loops.{clamped_by}
use Rattle.tk_ntp.specs.Ntp.{Ntp}
use Rattle.tk_ntp.specs.Rate.{nominal}
use Rattle.tk_ntp.specs.SteeredClock.{SteeredClock, accounted_to, reading_refusal}
use Rattle.tk_ntp.proofs.Accepted.{later}
use Rattle.tk_ntp.proofs.Account.{awake-after, never, owed_is}
use Rattle.tk_ntp.proofs.History.{offset_kept}
use Rattle.tk_ntp.proofs.Left.{accounted-left}
use Rattle.tk_ntp.proofs.Made.{kept_units}
use Rattle.tk_ntp.proofs.MadeUp.{divided}
use Rattle.tk_ntp.proofs.Numbered.{numbered}
use Rattle.tk_ntp.proofs.Scaled.{scaled_added, scaled_order, scaled_twice}
use Rattle.tk_ntp.proofs.Settled.{settled}
use Rattle.tk_ntp.proofs.TaiKept.{tai_kept}
use Rattle.tk_ntp.proofs.Turning.{joined}

-- a lag of units of 2^-from nanoseconds, as units of 2^-to nanoseconds
record IsKeptLag (from to : ℕ) (before after : ℤ) : Type 0 where
  exact : from ≤ to → pos (2 ^ from) *ℤ after ≡ pos (2 ^ to) *ℤ before
  most : (pos (2 ^ from) *ℤ after) ≤ℤ (pos (2 ^ to) *ℤ before)
  lost : (pos (2 ^ to) *ℤ before) ≤ℤ (pos (2 ^ from) *ℤ after +ℤ pos (2 ^ from))

same : (x y : ℤ) → x ≡ y → x ≤ℤ y
same x y h = omega (arith, ints, h)

same_more : (x y : ℤ) (n : ℕ) → x ≡ y → y ≤ℤ (x +ℤ pos n)
same_more x y n h = omega (arith, ints, h)

is_finer : (from to : ℕ) → nat_le from to ≡ true → from ≤ to
is_finer from to h = grind (arith, common_steps)

is_coarser : (from to : ℕ) → nat_le from to ≡ false → to < from
is_coarser from to h = grind (arith, common_steps)

finer : (from to : ℕ) (lag : ℤ) → from ≤ to →
    pos (2 ^ from) *ℤ (lag *ℤ pos (2 ^ (to - from))) ≡ pos (2 ^ to) *ℤ lag
finer from to lag up =
    ap (λ z. pos (2 ^ from) *ℤ z) (*ℤ_comm lag (pos (2 ^ (to - from))))
    ∙ scaled_twice (2 ^ from) (2 ^ (to - from)) lag
    ∙ ap (λ (n : ℕ). pos n *ℤ lag) (joined from to up)

coarser : (from to : ℕ) (q : ℤ) → to ≤ from →
    pos (2 ^ to) *ℤ (pos (2 ^ (from - to)) *ℤ q) ≡ pos (2 ^ from) *ℤ q
coarser from to q down =
    scaled_twice (2 ^ to) (2 ^ (from - to)) q
    ∙ ap (λ (n : ℕ). pos n *ℤ q) (joined to from down)

below : (to from : ℕ) → to < from → to ≤ from
below to from h = omega (arith, h)

apart : (from to : ℕ) → to < from → from ≤ to → ⊥
apart from to h k = absurd (omega (arith, h, k))

lag-kept : (test : Bool) (from to : ℕ) (lag : ℤ) → nat_le from to ≡ test →
    IsKeptLag from to lag
    (if test then lag *ℤ pos (2 ^ (to - from)) else int_div_euclid lag (pos (2 ^ (from - to))))
lag-kept true from to lag is =
    let up = is_finer from to is in
    let after = lag *ℤ pos (2 ^ (to - from)) in
    let whole = finer from to lag up in
    record {
      exact = λ _. whole;
      most = same (pos (2 ^ from) *ℤ after) (pos (2 ^ to) *ℤ lag) whole;
      lost = same_more (pos (2 ^ from) *ℤ after) (pos (2 ^ to) *ℤ lag) (2 ^ from) whole;
    }
lag-kept false from to lag is =
    let down = is_coarser from to is in
    let low = below to from down in
    let t = 2 ^ to in
    let d = 2 ^ (from - to) in
    let q = int_div_euclid lag (pos d) in
    let found = divided lag d (pow_pos (from - to)) in
    let whole = coarser from to q low in
    let rest : pos t *ℤ pos d ≡ pos (2 ^ from) = pos-*ℤ-pos t d ∙ ap pos (joined to from low) in
    record {
      exact = λ up. absurd (apart from to down up);
      most = subst (λ z. z ≤ℤ (pos t *ℤ lag)) whole
          (scaled_order t (pos d *ℤ q) lag found.low);
      lost = subst (λ z. (pos t *ℤ lag) ≤ℤ z)
          (scaled_added t (pos d *ℤ q) (pos d)
          ∙ ap (λ z. z +ℤ pos t *ℤ pos d) whole
          ∙ ap (λ z. pos (2 ^ from) *ℤ q +ℤ z) rest)
          (scaled_order t lag (pos d *ℤ q +ℤ pos d) found.high);
    }

-- an amount and a lag, times a number of units
turned : (f b n : ℕ) → f * (b * n) ≡ b * f * n
turned f b n = omega arith

spread : (f b n : ℕ) (y : ℤ) →
    pos f *ℤ (pos b *ℤ pos n +ℤ y) ≡ pos (b * f * n) +ℤ pos f *ℤ y
spread f b n y =
    scaled_added f (pos b *ℤ pos n) y
    ∙ ap (λ z. pos f *ℤ z +ℤ pos f *ℤ y) (pos-*ℤ-pos b n)
    ∙ ap (λ z. z +ℤ pos f *ℤ y) (pos-*ℤ-pos f (b * n))
    ∙ ap (λ (k : ℕ). pos k +ℤ pos f *ℤ y) (turned f b n)

exactly : (k k' n : ℕ) (x y : ℤ) → k' ≡ k → y ≡ x → pos (k' * n) +ℤ y ≡ pos (k * n) +ℤ x
exactly k k' n x y h i = ap (λ (m : ℕ). pos (m * n) +ℤ y) h ∙ ap (λ z. pos (k * n) +ℤ z) i

at_most : (k k' n : ℕ) (x y : ℤ) → k' ≤ k → y ≤ℤ x → (pos (k' * n) +ℤ y) ≤ℤ (pos (k * n) +ℤ x)
at_most k k' n x y h i =
    let more : k' * n ≤ k * n = mul-le-mul_right n h in omega (arith, ints, more, i)

at_least : (k b f n : ℕ) (x y : ℤ) → 0 < n → k < (b + 1) * f → x ≤ℤ (y +ℤ pos f) →
    (pos (k * n) +ℤ x) <ℤ (pos (b * f * n) +ℤ y +ℤ pos (f * (n + 1)))
at_least k b f n x y some h i =
    let more : (k + 1) * n ≤ (b + 1) * f * n = mul-le-mul_right n (omega (arith, h)) in
    omega (arith, ints, more, i, some)

owed-over : (from to a b n : ℕ) (x y : ℤ) → 0 < n → IsKeptAmount from to a b →
    IsKeptLag from to x y →
    let f = 2 ^ from in
    let t = 2 ^ to in
    let before = pos a *ℤ pos n +ℤ x in
    let after = pos b *ℤ pos n +ℤ y in
    (from ≤ to → pos f *ℤ after ≡ pos t *ℤ before)
    × ((pos f *ℤ after) ≤ℤ (pos t *ℤ before))
    × ((pos t *ℤ before) <ℤ (pos f *ℤ (after +ℤ pos (n + 1))))
owed-over from to a b n x y some amount lag =
    let f = 2 ^ from in
    let t = 2 ^ to in
    let before = spread t a n x in
    let after = spread f b n y in
    let more =
    scaled_added f (pos b *ℤ pos n +ℤ y) (pos (n + 1))
    ∙ ap (λ z. z +ℤ pos f *ℤ pos (n + 1)) after
    ∙ ap (λ z. pos (b * f * n) +ℤ pos f *ℤ y +ℤ z) (pos-*ℤ-pos f (n + 1)) in (
      λ up. after
          ∙ exactly (a * t) (b * f) n (pos t *ℤ x) (pos f *ℤ y) (amount.exact up) (lag.exact up)
          ∙ sym before,
      subst (λ z. z ≤ℤ (pos t *ℤ (pos a *ℤ pos n +ℤ x))) (sym after)
          (subst (λ z. (pos (b * f * n) +ℤ pos f *ℤ y) ≤ℤ z) (sym before)
          (at_most (a * t) (b * f) n (pos t *ℤ x) (pos f *ℤ y) amount.most lag.most)),
      subst (λ z. z <ℤ (pos f *ℤ (pos b *ℤ pos n +ℤ y +ℤ pos (n + 1)))) (sym before)
          (subst (λ z. (pos (a * t * n) +ℤ pos t *ℤ x) <ℤ z) (sym more)
          (at_least (a * t) b f n (pos t *ℤ x) (pos f *ℤ y) some amount.lost lag.lost)),
    )

some_nominal : 0 < nominal
some_nominal = omega arith

carried : (from to a : ℕ) (lag before after : ℤ) →
    before ≡ pos a *ℤ pos nominal +ℤ lag →
    after ≡ pos (rescaled from to a) *ℤ pos nominal +ℤ rescaled_lag from to lag →
    IsOwedOver from to before after
carried from to a lag before after is is' =
    let found =
    owed-over from to a (rescaled from to a) nominal lag (rescaled_lag from to lag) some_nominal
    (IsKeptAmount-rescaled from to a) (lag-kept (nat_le from to) from to lag refl) in
    subst (λ z. IsOwedOver from to z after) (sym is)
    (subst (IsOwedOver from to (pos a *ℤ pos nominal +ℤ lag)) (sym is')
    (record { exact = found.0; most = found.1; lost = found.2 }))

-- the state after a change, of clocks that are asleep or awake
abbrev over_by : Bool → ℕ → Counter → ℕ → SteeredClock → SteeredClock
over_by asleep reading counter first s =
    let accounted = accounted_awake asleep reading s in
    let base = s.clock.base in
    record {
      clock =
          state_over (record s.clock { base = if asleep then base else forwarded base reading })
          counter first;
      steering = record accounted.steering {
        lag = lag_over base.counter counter accounted.steering.lag;
      };
      next = s.next;
      last_account = first;
    }

over-owed : (asleep : Bool) (reading : ℕ) (counter : Counter) (first : ℕ) (s : SteeredClock) →
    (asleep ≡ true → s.last_account ≡ s.clock.base.last) →
    IsOwedOver s.clock.base.counter.shift counter.shift
    (owed (limited (accounted_awake asleep reading s)))
    (owed (over_by asleep reading counter first s))
over-owed true reading counter first s at_last =
    let base = s.clock.base in
    let from = base.counter.shift in
    let lag = clamped_by (greatest_lag base.counter) s.steering.lag in
    let end = over_by true reading counter first s in
    let amount = rescaled from counter.shift base.amount in
    carried from counter.shift base.amount lag (owed (limited s)) (owed end)
    (owed_is (limited s) base.last base.amount lag (at_last refl)
    (kept_units base.counter base.last base.amount base.mult) refl)
    (owed_is end first amount (rescaled_lag from counter.shift lag) refl
    (kept_units counter first amount end.clock.base.mult) refl)
over-owed false reading counter first s at_last =
    let base = s.clock.base in
    let from = base.counter.shift in
    let accounted = accounted_to reading s in
    let lag = clamped_by (greatest_lag base.counter) accounted.steering.lag in
    let end = over_by false reading counter first s in
    let units = units_at reading s.clock in
    let amount = rescaled from counter.shift units in
    carried from counter.shift units lag (owed (limited accounted)) (owed end)
    (owed_is (limited accounted) reading units lag refl refl refl)
    (owed_is end first amount (rescaled_lag from counter.shift lag) refl
    (kept_units counter first amount end.clock.base.mult) refl)

-- what holds after a change that is made
changed-holds : (P : Type 0) (reading : ℕ) (counter : Counter) (first : ℕ)
    (s after : SteeredClock) (result : Result ⊤ Refusal) (refused : Option Refusal) →
    turn_refusal reading counter first s ≡ refused →
    MatchOption refused
    ((advanced : SteeredClock) × IsAdvancedAwake s.clock.base.asleep reading s advanced
    × IsTurnedOver reading counter first advanced result after)
    (λ r. (result ≡ Err r) × (after ≡ s)) →
    ((advanced : SteeredClock) → turn_refusal reading counter first s ≡ None →
    IsAdvancedAwake s.clock.base.asleep reading s advanced →
    change_refusal advanced.clock reading counter first ≡ None →
    after ≡ steered_over reading counter first advanced → P) →
    IfOk result (λ _. P)
changed-holds P reading counter first s after (Err r) refused is h holds = tt
changed-holds P reading counter first s after (Ok done) None is h holds =
    holds h.0 is h.1 h.2.0 h.2.1
changed-holds P reading counter first s after (Ok done) (Some r) is h holds = absurd (cc h.0)

same-ntp : (asleep : Bool) (reading : ℕ) (s : SteeredClock) →
    (accounted_awake asleep reading s).steering.ntp ≡ s.steering.ntp
same-ntp true reading s = refl
same-ntp false reading s = refl

kept-awake : (asleep : Bool) (reading : ℕ) (s advanced : SteeredClock) →
    IsAdvancedAwake asleep reading s advanced → AreKeptAwake asleep reading s advanced
kept-awake true reading s advanced h = h
kept-awake false reading s advanced h = (
  numbered reading s advanced h,
  offset_kept reading s advanced h,
  tai_kept reading s advanced h,
)

-- the accounts, right before the change
balanced-awake : (asleep : Bool) (reading : ℕ) (s advanced : SteeredClock) →
    (asleep ≡ false → reading_refusal reading s ≡ None) →
    IsAdvancedAwake asleep reading s advanced → IsConsistent s →
    IsBalanced (λ _. false) reading s (accounted_awake asleep reading advanced)
balanced-awake true reading s advanced accepted h consistent = inl h
balanced-awake false reading s advanced accepted h consistent =
    inr (settled (λ _. false) reading s advanced (accounted_to reading advanced) (accepted refl) h
    consistent (inr (refl, refl)) (accounted-left reading advanced))

-- the last account stays at the last command while the clocks are asleep
at-last : (asleep : Bool) (reading : ℕ) (s advanced : SteeredClock) → s.clock.base.asleep ≡ asleep →
    IsAdvancedAwake asleep reading s advanced → IsConsistent s →
    asleep ≡ true → advanced.last_account ≡ advanced.clock.base.last
at-last true reading s advanced is h consistent asleep =
    ap (λ (t : SteeredClock). t.last_account) h
    ∙ consistent.asleep is
    ∙ sym (ap (λ (t : SteeredClock). t.clock.base.last) h)
at-last false reading s advanced is h consistent asleep = absurd (never (sym asleep))

-- the clocks stay asleep or awake as the seconds begin
asleep-kept : (asleep : Bool) (reading : ℕ) (s advanced : SteeredClock) →
    s.clock.base.asleep ≡ asleep → IsAdvancedAwake asleep reading s advanced →
    advanced.clock.base.asleep ≡ asleep
asleep-kept true reading s advanced is h =
    ap (λ (t : SteeredClock). t.clock.base.asleep) h ∙ is
asleep-kept false reading s advanced is h = awake-after reading s advanced h is

refused-awake : (asleep : Bool) (a b : Option Refusal) → (if asleep then a else b) ≡ None →
    asleep ≡ false → b ≡ None
refused-awake true a b h is = absurd (never is)
refused-awake false a b h is = h

module _ (reading : ℕ) (counter : Counter) (first : ℕ) (s after : SteeredClock)
    (result : Result ⊤ Refusal) (h : IsCounterChanged reading counter first s result after) where
  pub changed_kept : IfOk result (λ _. IsKeptOver reading first s after)
  changed_kept =
      changed-holds (IsKeptOver reading first s after) reading counter first s after result
      (turn_refusal reading counter first s) refl h
      (λ advanced accepted chain fits is.
      subst (IsKeptOver reading first s) (sym is)
      (record {
        middle = advanced;
        seconds = kept-awake s.clock.base.asleep reading s advanced chain;
        ntp = same-ntp advanced.clock.base.asleep reading advanced;
        times = KeepsTimes-changed advanced.clock reading counter first fits;
      }))

  pub changed_sum : IsConsistent s → IfOk result (λ _. IsBalancedOver reading s after)
  changed_sum consistent =
      let asleep = s.clock.base.asleep in
      changed-holds (IsBalancedOver reading s after) reading counter first s after result
      (turn_refusal reading counter first s) refl h
      (λ advanced accepted chain fits is.
      let awake : asleep ≡ false → reading_refusal reading s ≡ None =
      refused-awake asleep (number_refusal s.clock.base.counter reading)
      (reading_refusal reading s)
      (later (number_refusal counter first)
      (if asleep then number_refusal s.clock.base.counter reading else reading_refusal reading s)
      accepted) in
      let same : advanced.clock.base.asleep ≡ asleep =
      asleep-kept asleep reading s advanced refl chain in
      subst (IsBalancedOver reading s) (sym is)
      (record {
        middle = accounted_awake advanced.clock.base.asleep reading advanced;
        balanced =
            subst (λ (test : Bool). IsBalanced (λ _. false) reading s
            (accounted_awake test reading advanced)) (sym same)
            (balanced-awake asleep reading s advanced awake chain consistent);
        over =
            subst (λ (c : Counter). IsOwedOver c.shift counter.shift
            (owed (limited (accounted_awake advanced.clock.base.asleep reading advanced)))
            (owed (steered_over reading counter first advanced)))
            (sym (same-counter advanced.clock.base.asleep reading advanced))
            (over-owed advanced.clock.base.asleep reading counter first advanced
            (λ e. at-last asleep reading s advanced refl chain consistent (sym same ∙ e)));
      }))
    where
      same-counter : (test : Bool) (reading : ℕ) (t : SteeredClock) →
          (accounted_awake test reading t).clock.base.counter ≡ t.clock.base.counter
      same-counter true reading t = refl
      same-counter false reading t = refl
