-- Clocks that are opened with an uptime.
use Rattle.std.proofs.Common.{◌≡◌, ℕ, ◌+◌, ◌*◌, ◌/◌, ◌%◌, ◌^◌, ◌<◌, ◌≤◌, refl, sym, ◌∙◌, ap, subst, arith, pow_mono, Bool, true, false}
use Rattle.std.specs.Prelude.{ℤ, pos, ◌+ℤ◌, ◌-ℤ◌, ◌*ℤ◌, ◌<ℤ◌, ◌≤ℤ◌, unsigned_abs, Some, None, int_lt, nat_lt, not, ◌||◌, if◌then◌else◌}
use Rattle.std.proofs.lemmas.Int.{ints}
use Rattle.std.proofs.lemmas.Grind.{common_steps}
use Rattle.std.proofs.lemmas.Nat.{pow_pos, div-mul-add}
use Rattle.std.proofs.Math.Nat.{mul-le-mul_left, mod-eq_of_lt}
use Rattle.tk_counter.specs.Counter.{Counter, mask, usual_tick}
use Rattle.tk_clock.specs.declared.amount.Amount.{Amount}
use Rattle.tk_clock.specs.declared.clock_id.ClockId.TheVariants.{Monotonic}
use Rattle.tk_clock.specs.declared.refusal.Refusal.TheVariants.{Invalid}
use Rattle.tk_clock.specs.declared.timespec.Timespec.{Timespec}
use Rattle.tk_clock.specs.State.{ReadBase, state_of, base_raw}
use Rattle.tk_clock.specs.Journal.{opened}
use Rattle.tk_clock.specs.Amount.{units_of}
use Rattle.tk_clock.specs.Refusal.{opening_refusal}
use Rattle.tk_clock.specs.Limits.{limit, is_settable, monotonic_end, settable_end}
use Rattle.tk_clock.specs.Running.{IsRunning, slowest}
use Rattle.tk_clock.specs.Time.{nanoseconds}
use Rattle.tk_clock.specs.Uptime.{is_uptime, running_refusal, with_uptime, opened_running, HasRun}
use Rattle.tk_clock.proofs.Offsets.{cycles_since-self, plus_nothing}
use Rattle.tk_clock.proofs.Steering.{slowest-≤}
use Rattle.tk_clock.proofs.Values.{usual_rate, monotonic-last, real-last, boot-last, tai-last}

-- the units of a number of nanoseconds
pub whole_nanos : (nanos shift : ℕ) → nanos * 2 ^ shift / 2 ^ shift ≡ nanos
whole_nanos nanos shift =
    let e : nanos * 2 ^ shift ≡ nanos * 2 ^ shift + 0 = omega arith in
    ap (λ n. n / 2 ^ shift) e ∙ div-mul-add nanos (2 ^ shift) 0 (pow_pos shift)

-- no cycles have passed since the last reading
raw-last : (base : ReadBase) → base_raw base base.last ≡ base.raw_amount / 2 ^ base.counter.shift
raw-last base =
    ap (λ k. (base.raw_amount + k * base.counter.mult) / 2 ^ base.counter.shift)
    (cycles_since-self base.counter base.asleep base.last)
    ∙ ap (λ n. n / 2 ^ base.counter.shift) (plus_nothing base.raw_amount base.counter.mult)

-- the slowest multiplier is at most the counter's own
slow : (base : ReadBase) → slowest base.counter ≤ base.counter.mult
slow base = subst (λ m. slowest base.counter ≤ m) (sym (usual_rate base.counter _ refl))
    (slowest-≤ base.counter (pos 0) usual_tick (omega (arith, ints)))

module _ (base : ReadBase) (nanos offset : ℕ) (boot : base.boot_offset ≡ pos 0)
    (tai : base.tai ≡ pos 0) where
  abbrev units : ℕ
  units = nanos * 2 ^ base.counter.shift

  abbrev run : ReadBase
  run = with_uptime base units (pos offset)

  now : units / 2 ^ base.counter.shift ≡ nanos
  now = whole_nanos nanos base.counter.shift

  -- such clocks run
  pub IsRunning-uptime : (frequency tick : ℤ) → IsRunning base frequency tick →
      nanos < monotonic_end * 10 ^ 9 → nanos + offset < settable_end * 10 ^ 9 →
      IsRunning run frequency tick
  IsRunning-uptime frequency tick held low settable =
      record {
        steered = held.steered;
        frequency_low = held.frequency_low;
        frequency_high = held.frequency_high;
        tick_low = held.tick_low;
        tick_high = held.tick_high;
        rated = mul-le-mul_left units (slow base);
        within = record {
          real_low = rw (real-last run, now) (omega (arith, ints, settable));
          boot_low = rw (boot-last run, now, boot) (omega (arith, ints, low));
          tai_low = rw (tai-last run, now, tai) (omega (arith, ints, settable));
        };
      }

  -- they have these times
  pub HasRun-uptime : (real uptime : Timespec) → pos nanos ≡ nanoseconds uptime →
      pos (nanos + offset) ≡ nanoseconds real → HasRun run base.last real uptime
  HasRun-uptime real uptime past since =
      record {
        monotonic = monotonic-last run ∙ ap pos now ∙ past;
        raw = ap pos (raw-last run ∙ now) ∙ past;
        boottime = rw (boot-last run, now, boot) (omega (arith, ints, past));
        realtime = rw (real-last run, now) (omega (arith, ints, since));
        tai = rw (tai-last run, now, tai) (omega (arith, ints, since));
      }

-- an opening that isn't refused has a REALTIME that may be set
passed : (a b : Bool) → (if a || not b then Some Invalid else None) ≡ None → b ≡ true
passed false true e = refl
passed false false e = grind arith
passed true b e = grind arith

pub opens-settable : (counter : Counter) (reading : ℕ) (real : Timespec) →
    opening_refusal counter reading real ≡ None → is_settable real ≡ true
opens-settable counter reading real none =
    passed (nat_lt (mask counter) reading) (is_settable real) none

-- an uptime that isn't refused is not before 0 s, and its nanoseconds are less than a second
pub uptime-within : (uptime : Timespec) → is_uptime uptime ≡ true →
    (pos 0 ≤ℤ uptime.sec) × (uptime.nsec < 10 ^ 9)
uptime-within uptime e = (grind (arith, common_steps), grind (arith, common_steps))

-- a time, in units of 2^-shift nanoseconds
pub time_units : (sec : ℤ) (whole nsec shift : ℕ) → pos whole ≡ sec → nsec < 10 ^ 9 → shift ≤ 32 →
    whole * (10 ^ 9 * 2 ^ shift) + nsec * 2 ^ shift % 18446744073709551616
    ≡ unsigned_abs (sec *ℤ pos (10 ^ 9) +ℤ pos nsec) * 2 ^ shift
time_units sec whole nsec shift e rest few =
    let most : 2 ^ shift ≤ 2 ^ 32 = pow_mono few in
    let low : nsec * 2 ^ shift < 18446744073709551616 =
    omega (arith, mul-le-mul_left nsec most) in
    let same : pos (whole * 10 ^ 9 + nsec) ≡ sec *ℤ pos (10 ^ 9) +ℤ pos nsec =
    omega (arith, ints, e) in
    let spread : whole * (10 ^ 9 * 2 ^ shift) + nsec * 2 ^ shift
    ≡ (whole * 10 ^ 9 + nsec) * 2 ^ shift = omega arith in
    ap (λ n. whole * (10 ^ 9 * 2 ^ shift) + n) (mod-eq_of_lt low) ∙ spread
    ∙ ap (λ n. unsigned_abs n * 2 ^ shift) same

is_below : (a b : ℤ) → a <ℤ b → int_lt a b ≡ true
is_below a b low = grind (arith, ints)

not_below : (a b : ℤ) → b ≤ℤ a → int_lt a b ≡ false
not_below a b high = grind (arith, ints)

-- no test fails
pub opens-running : (counter : Counter) (reading : ℕ) (real uptime : Timespec) →
    opening_refusal counter reading real ≡ None → is_uptime uptime ≡ true →
    nanoseconds uptime <ℤ limit Monotonic → nanoseconds uptime ≤ℤ nanoseconds real →
    running_refusal counter reading real uptime ≡ None
opens-running counter reading real uptime none well low ahead =
    let ranged = is_below (nanoseconds uptime) (limit Monotonic) low in
    let above = not_below (nanoseconds real) (nanoseconds uptime) ahead in
    rw (none, well, ranged, above) refl

module _ (counter : Counter) (reading : ℕ) (real uptime : Timespec) (amount : Amount)
    (nanos offset : ℕ) (past : pos nanos ≡ nanoseconds uptime)
    (since : pos (nanos + offset) ≡ nanoseconds real)
    (counted : units_of counter amount ≡ unsigned_abs (nanoseconds uptime) * 2 ^ counter.shift)
  where
    abbrev fresh : ReadBase
    fresh = (state_of (opened counter reading real)).base

    units_are : unsigned_abs (nanoseconds uptime) * 2 ^ counter.shift ≡ nanos * 2 ^ counter.shift
    units_are = ap (λ n. unsigned_abs n * 2 ^ counter.shift) (sym past)

    offset_is : pos offset ≡ nanoseconds real -ℤ nanoseconds uptime
    offset_is = omega (arith, ints, past, since)

    module _ (base new : ReadBase) (begun : base ≡ fresh)
        (stated : new ≡ with_uptime base (units_of base.counter amount) (pos offset)) where
      -- the base after the opening
      pub base_is : new ≡ with_uptime fresh (nanos * 2 ^ counter.shift) (pos offset)
      base_is =
          stated ∙ ap (λ (b : ReadBase). with_uptime b (units_of b.counter amount) (pos offset)) begun
          ∙ ap (λ n. with_uptime fresh n (pos offset)) (counted ∙ units_are)

      -- it is the definition's
      pub base_opens : new ≡ (opened_running counter reading real uptime).base
      base_opens =
          base_is ∙ ap (λ n. with_uptime fresh n (pos offset)) (sym units_are)
          ∙ ap (with_uptime fresh (unsigned_abs (nanoseconds uptime) * 2 ^ counter.shift)) offset_is

      pub runs : (frequency tick : ℤ) → IsRunning base frequency tick →
          nanos < monotonic_end * 10 ^ 9 → nanos + offset < settable_end * 10 ^ 9 →
          IsRunning new frequency tick
      runs frequency tick held low ranged =
          subst (λ (b : ReadBase). IsRunning b frequency tick) (sym base_is)
          (IsRunning-uptime fresh nanos offset refl refl frequency tick
          (subst (λ (b : ReadBase). IsRunning b frequency tick) begun held) low ranged)

      pub has_run : HasRun new reading real uptime
      has_run =
          subst (λ (b : ReadBase). HasRun b reading real uptime) (sym base_is)
          (HasRun-uptime fresh nanos offset refl refl real uptime past since)
