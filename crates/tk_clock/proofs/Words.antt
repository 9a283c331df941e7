-- Ten 64-bit words and the snapshot that they encode.
use Rattle.std.proofs.Common.{◌≡◌, ℕ, ◌+◌, ◌*◌, ◌/◌, ◌%◌, ◌<◌, ◌≤◌, ◌∙◌, refl, ap, arith, Bool, true, false, List, [], ◌∷◌, length, get_or}
use Rattle.std.specs.Prelude.{ℤ, zero, suc, ◌==◌, pos, ◌<ℤ◌, int_lt, ◌&&◌, ◌||◌, not, Some, None, IsSome, if◌then◌else◌}
use Rattle.std.proofs.lemmas.Int.{ints}
use Rattle.std.proofs.lemmas.Bool.{lt-ltb, le-leb, ltb-true, leb-true}
use Rattle.tk_counter.specs.Counter.{Counter, mask, fastest, second}
use Rattle.tk_clock.specs.declared.amount.Amount.{Amount}
use Rattle.tk_clock.specs.declared.clock_id.ClockId.{ClockId}
use Rattle.tk_clock.specs.declared.clock_id.ClockId.TheVariants.{Realtime, Monotonic, Boottime, Tai as TaiClock}
use Rattle.tk_clock.specs.declared.command.Command.TheVariants.{Update}
use Rattle.tk_clock.specs.Amount.{units_of, amount_of, amount_of-units_of}
use Rattle.tk_clock.specs.State.{ReadBase, base_value}
use Rattle.tk_clock.specs.Limits.{limit, is_past_limit, monotonic_end, raw_end, greatest_tai}
use Rattle.tk_clock.specs.Running.{IsReadBase, IsWithin}
use Rattle.tk_clock.specs.Snapshot.{Snapshot}
use Rattle.tk_clock.proofs.Units.{below_nanos}
use Rattle.tk_clock.proofs.Rates.{below_seconds}
use Rattle.tk_clock.proofs.Values.{monotonic-last}
use Rattle.tk_clock.proofs.Settings.{both, either, is_below, below-of}
use Rattle.tk_clock.specs.Words.{words_of, are_in_range, is_within, snapshot_of_words, restored}

-- the words of a snapshot, from the parts that the code stores
abbrev pub parts : ℕ → ℕ → ℕ → Amount → Amount → ℕ → ℕ → ℕ → List ℕ
parts front last mult monotonic raw real boot tai =
    front ∷ last ∷ mult ∷ monotonic.frac ∷ monotonic.sec ∷ real ∷ boot ∷ tai ∷ raw.frac ∷ raw.sec
    ∷ []

abbrev pub base_from : Counter → ℕ → ℕ → Amount → Amount → ℕ → ℕ → ℕ → Bool → ReadBase
base_from counter last mult monotonic raw real boot tai asleep = record {
  counter = counter;
  last = last;
  mult = mult;
  amount = units_of counter monotonic;
  raw_amount = units_of counter raw;
  real_offset = pos real;
  boot_offset = pos boot;
  tai = pos tai;
  asleep = asleep;
}

pub words_of-parts : (counter : Counter) (front last mult : ℕ) (monotonic raw : Amount)
    (real boot tai : ℕ) (asleep : Bool) →
    monotonic.frac < second counter → raw.frac < second counter →
    words_of (record {
      front = front;
      base =
          base_from counter last mult monotonic raw real boot tai asleep;
    })
    ≡ parts front last mult monotonic raw real boot (tai * 2 + (if asleep then 1 else 0))
words_of-parts counter front last mult monotonic raw real boot tai asleep low raw_low =
    let put : Amount → Amount →
    List ℕ = λ m r. parts front last mult m r real boot (tai * 2 + (if asleep then 1 else 0)) in
    ap (λ (m : Amount). put m (amount_of counter (units_of counter raw)))
    (amount_of-units_of counter monotonic low)
    ∙ ap (λ (r : Amount). put monotonic r) (amount_of-units_of counter raw raw_low)

-- sleep and the TAI offset share a word
half_of : (tai : ℕ) (asleep : Bool) → (tai * 2 + (if asleep then 1 else 0)) / 2 ≡ tai
half_of tai true = omega arith
half_of tai false = omega arith

odd_of : (tai : ℕ) (asleep : Bool) → ((tai * 2 + (if asleep then 1 else 0)) % 2 == 1) ≡ asleep
odd_of tai true = let e : (tai * 2 + 1) % 2 ≡ 1 = omega arith in ap (λ n. n == 1) e
odd_of tai false = let e : (tai * 2 + 0) % 2 ≡ 0 = omega arith in ap (λ n. n == 1) e

shared : (n : ℕ) → n / 2 * 2 + (if n % 2 == 1 then 1 else 0) ≡ n
shared n =
    let rest : n % 2 < 2 = omega arith in
    let stated = bit_is (n % 2) rest in
    omega (arith, stated)
  where
    bit_is : (r : ℕ) → r < 2 → (if r == 1 then 1 else 0) ≡ r
    bit_is zero low = refl
    bit_is (suc zero) low = refl
    bit_is (suc (suc r)) low = absurd (omega arith)

-- the facts that follow if the test of ranges passes
pub record IsInRange (counter : Counter) (words : List ℕ) : Type 0 where
  pub last_low : get_or words 1 0 ≤ mask counter
  pub mult_some : 1 ≤ get_or words 2 0
  pub mult_low : get_or words 2 0 ≤ fastest counter
  pub frac_low : get_or words 3 0 < second counter
  pub sec_low : get_or words 4 0 < monotonic_end
  pub tai_low : get_or words 7 0 / 2 ≤ greatest_tai
  pub raw_frac_low : get_or words 8 0 < second counter
  pub raw_sec_low : get_or words 9 0 < raw_end

first_true : (a b : Bool) → (a && b) ≡ true → a ≡ true
first_true true b e = refl
first_true false b e = e

then_true : (a b : Bool) → (a && b) ≡ true → b ≡ true
then_true true b e = e
then_true false b e = absurd cc

pub in_range : (counter : Counter) (words : List ℕ) → are_in_range counter words ≡ true →
    IsInRange counter words
unfolding are_in_range
in_range counter words e =
    let t7 = first_true _ _ e in
    let t6 = first_true _ _ t7 in
    let t5 = first_true _ _ t6 in
    let t4 = first_true _ _ t5 in
    let t3 = first_true _ _ t4 in
    let t2 = first_true _ _ t3 in
    record {
      last_low = leb-true _ _ (first_true _ _ t2);
      mult_some = leb-true _ _ (then_true _ _ t2);
      mult_low = leb-true _ _ (then_true _ _ t3);
      frac_low = ltb-true _ _ (then_true _ _ t4);
      sec_low = ltb-true _ _ (then_true _ _ t5);
      tai_low = leb-true _ _ (then_true _ _ t6);
      raw_frac_low = ltb-true _ _ (then_true _ _ t7);
      raw_sec_low = ltb-true _ _ (then_true _ _ e);
    }

both_true : (a b : Bool) → a ≡ true → b ≡ true → (a && b) ≡ true
both_true a b p q = ap (λ x. x && b) p ∙ q

-- words in their ranges pass the test of ranges
pub passes_range : (counter : Counter) (words : List ℕ) → IsInRange counter words →
    are_in_range counter words ≡ true
unfolding are_in_range
passes_range counter words held =
    both_true _ _ (both_true _ _
    (both_true _ _ (both_true _ _ (both_true _ _ (both_true _ _ (both_true _ _
    (le-leb _ _ held.last_low) (le-leb _ _ held.mult_some)) (le-leb _ _ held.mult_low))
    (lt-ltb _ _ held.frac_low))
    (lt-ltb _ _ held.sec_low)) (le-leb _ _ held.tai_low)) (lt-ltb _ _ held.raw_frac_low))
    (lt-ltb _ _ held.raw_sec_low)

-- the test of limits, if MONOTONIC is below its limit
three_true : (b r t : Bool) → b ≡ true → r ≡ true → t ≡ true → (b && r && t) ≡ true
three_true b r t p q s = both_true (b && r) t (both_true b r p q) s

not_within : (m b r t : Bool) → m ≡ true → (not m || not b || (not r || not t)) ≡ true →
    (b && r && t) ≡ false
not_within true true true true e h = absurd cc
not_within true true true false e h = refl
not_within true true false t e h = refl
not_within true false r t e h = refl
not_within false b r t e h = absurd cc

pub within_stated : (base : ReadBase) →
    is_past_limit (λ clock. base_value base clock base.last) Update ≡ false → IsWithin base
unfolding is_past_limit
within_stated base past =
    let at : ClockId → ℤ = λ clock. base_value base clock base.last in
    let parts = both (int_lt (at Monotonic) (limit Monotonic))
    (int_lt (at Boottime) (limit Boottime)) _ past in
    let later = either false (int_lt (at Realtime) (limit Realtime))
    (int_lt (at TaiClock) (limit TaiClock)) refl parts.2 in
    record {
      real_low = below-of (at Realtime) (limit Realtime) later.0;
      boot_low = below-of (at Boottime) (limit Boottime) parts.1;
      tai_low = below-of (at TaiClock) (limit TaiClock) later.1;
    }

pub passes_within : (base : ReadBase) → IsWithin base → is_within base ≡ true
unfolding is_within
passes_within base held =
    three_true _ _ _ (is_below _ _ held.boot_low) (is_below _ _ held.real_low)
    (is_below _ _ held.tai_low)

pub fails_within : (base : ReadBase) → base_value base Monotonic base.last <ℤ limit Monotonic →
    is_past_limit (λ clock. base_value base clock base.last) Update ≡ true → is_within base ≡ false
unfolding is_past_limit is_within
fails_within base low past =
    not_within _ _ _ _ (is_below (base_value base Monotonic base.last) (limit Monotonic) low) past

-- MONOTONIC of parts is below its limit
pub monotonic_within : (base : ReadBase) (monotonic : Amount) →
    base.amount ≡ units_of base.counter monotonic → monotonic.sec < monotonic_end →
    monotonic.frac < second base.counter → base_value base Monotonic base.last <ℤ limit Monotonic
monotonic_within base monotonic e sec_low frac_low =
    let units : base.amount < monotonic_end * second base.counter =
    rw e (below_seconds monotonic.sec monotonic.frac monotonic_end
    (second base.counter) sec_low frac_low) in
    let low = below_nanos monotonic_end base.amount base.counter.shift units in
    rw (monotonic-last base) (omega (arith, ints, low))

-- the words of the snapshot that ten words encode are the same ten words
ten : (words : List ℕ) → length words ≡ 10 →
    get_or words 0 0 ∷ get_or words 1 0 ∷ get_or words 2 0 ∷ get_or words 3 0 ∷ get_or words 4 0
    ∷ get_or words 5 0 ∷ get_or words 6 0
    ∷ get_or words 7 0 ∷ get_or words 8 0 ∷ get_or words 9 0 ∷ [] ≡ words
ten (a ∷ b ∷ c ∷ d ∷ e ∷ f ∷ g ∷ h ∷ i ∷ j ∷ []) all = refl
ten (a ∷ b ∷ c ∷ d ∷ e ∷ f ∷ g ∷ h ∷ i ∷ j ∷ k ∷ more) all = absurd (omega arith)
ten (a ∷ b ∷ c ∷ d ∷ e ∷ f ∷ g ∷ h ∷ i ∷ []) all = absurd (omega arith)
ten (a ∷ b ∷ c ∷ d ∷ e ∷ f ∷ g ∷ h ∷ []) all = absurd (omega arith)
ten (a ∷ b ∷ c ∷ d ∷ e ∷ f ∷ g ∷ []) all = absurd (omega arith)
ten (a ∷ b ∷ c ∷ d ∷ e ∷ f ∷ []) all = absurd (omega arith)
ten (a ∷ b ∷ c ∷ d ∷ e ∷ []) all = absurd (omega arith)
ten (a ∷ b ∷ c ∷ d ∷ []) all = absurd (omega arith)
ten (a ∷ b ∷ c ∷ []) all = absurd (omega arith)
ten (a ∷ b ∷ []) all = absurd (omega arith)
ten (a ∷ []) all = absurd (omega arith)
ten [] all = absurd (omega arith)

pub words_again : (counter : Counter) (words : List ℕ) → length words ≡ 10 →
    IsInRange counter words →
    words_of (snapshot_of_words counter words) ≡ words
words_again counter words all held =
    let monotonic : Amount = record { sec = get_or words 4 0; frac = get_or words 3 0 } in
    let raw : Amount = record { sec = get_or words 9 0; frac = get_or words 8 0 } in
    words_of-parts counter (get_or words 0 0) (get_or words 1 0) (get_or words 2 0) monotonic raw
    (get_or words 5 0) (get_or words 6 0)
    (get_or words 7 0 / 2) (get_or words 7 0 % 2 == 1) held.frac_low held.raw_frac_low
    ∙ ap (λ n. parts (get_or words 0 0) (get_or words 1 0) (get_or words 2 0) monotonic raw
    (get_or words 5 0) (get_or words 6 0) n) (shared (get_or words 7 0))
    ∙ ten words all

-- words that pass both tests restore the snapshot that they encode
pub restored-stated : (counter : Counter) (words : List ℕ) → are_in_range counter words ≡ true →
    is_within (snapshot_of_words counter words).base ≡ true →
    restored counter words ≡ Some (snapshot_of_words counter words)
restored-stated counter words range within =
    ap (λ (b : Bool). if b then Some (snapshot_of_words counter words)
    else None) (both_true _ _ range within)

pub restored-none : (counter : Counter) (words : List ℕ) →
    is_within (snapshot_of_words counter words).base ≡ false → restored counter words ≡ None
restored-none counter words without =
    ap (λ (b : Bool). if b then Some (snapshot_of_words counter words) else None)
    (by (are_in_range counter words) (is_within (snapshot_of_words counter words).base) without)
  where
    by : (a b : Bool) → b ≡ false → (a && b) ≡ false
    by true b e = e
    by false b e = refl

-- a snapshot's own words restore it
pub restored-words : (counter : Counter) (front last mult : ℕ) (monotonic raw : Amount)
    (real boot tai : ℕ) (asleep : Bool) →
    IsReadBase counter last mult monotonic raw tai →
    IsWithin (base_from counter last mult monotonic raw real boot tai asleep) →
    (let snapshot : Snapshot =
    record { front = front; base = base_from counter last mult monotonic raw real boot tai asleep }
    in
    restored counter (words_of snapshot) ≡ Some snapshot)
restored-words counter front last mult monotonic raw real boot tai asleep held within =
    let snapshot : Snapshot =
    record {
      front = front;
      base =
          base_from counter last mult monotonic raw real boot tai asleep;
    } in
    let word = tai * 2 + (if asleep then 1 else 0) in
    let words = parts front last mult monotonic raw real boot word in
    let half = half_of tai asleep in
    let low : word / 2 ≤ greatest_tai = rw half held.tai_low in
    let range : IsInRange counter words = record {
      last_low = held.last_low;
      mult_some = held.mult_some;
      mult_low = held.mult_low;
      frac_low = held.frac_low;
      sec_low = held.sec_low;
      tai_low = low;
      raw_frac_low = held.raw_frac_low;
      raw_sec_low = held.raw_sec_low;
    } in
    let put : ℕ → Bool →
    Snapshot = λ t b. record {
      front = front;
      base =
          base_from counter last mult monotonic raw real boot t b;
    } in
    let same : snapshot_of_words counter words ≡ snapshot =
    ap (λ t. put t (word % 2 == 1)) half ∙ ap (λ (b : Bool). put tai b) (odd_of tai asleep) in
    ap (restored counter)
    (words_of-parts counter front last mult monotonic raw real boot tai asleep held.frac_low
    held.raw_frac_low)
    ∙ restored-stated counter words (passes_range counter words range)
    (ap (λ (s : Snapshot). is_within s.base) same ∙ passes_within snapshot.base within)
    ∙ ap (λ (s : Snapshot). Some s) same

-- if the test of limits passes, none of its clocks is at its limit
pub is_within-stated : (base : ReadBase) → is_within base ≡ true → IsWithin base
unfolding is_within
is_within-stated base e =
    let at : ClockId → ℤ = λ clock. base_value base clock base.last in
    let boot_real = first_true _ _ e in
    record {
      real_low = below-of (at Realtime) (limit Realtime) (then_true _ _ boot_real);
      boot_low = below-of (at Boottime) (limit Boottime) (first_true _ _ boot_real);
      tai_low = below-of (at TaiClock) (limit TaiClock) (then_true _ _ e);
    }

-- facts about words that encode a snapshot
pub record IsTold (counter : Counter) (words : List ℕ) : Type 0 where
  pub range : are_in_range counter words ≡ true
  pub within : is_within (snapshot_of_words counter words).base ≡ true

pub stated-restored : (counter : Counter) (words : List ℕ) → IsSome (restored counter words) →
    IsTold counter words
stated-restored counter words some_stated =
    by (are_in_range counter words) (is_within (snapshot_of_words counter words).base) refl refl
    some_stated
  where
    by : (a b : Bool) → are_in_range counter words ≡ a →
        is_within (snapshot_of_words counter words).base ≡ b →
        IsSome (if a && b then Some (snapshot_of_words counter words) else None) → IsTold counter words
    by true true p q h = record { range = p; within = q }
    by true false p q h = absurd cc
    by false b p q h = absurd cc
