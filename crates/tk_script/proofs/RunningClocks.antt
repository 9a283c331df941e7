-- Running clocks by their words: the grammar's test decides whether running clocks can be in a state.
use Rattle.std.proofs.Common.{◌≡◌, ◌≤◌, ◌^◌, ◌*◌, ℕ, List, Bool, true, false, ◌&&◌, if◌then◌else◌, Option, Some, None, Result, Ok, Err, ℤ, pos, neg_ℤ, ◌≤ℤ◌, ◌<ℤ◌, int_le, nat_le, refl, ap, subst, arith}
use Rattle.std.specs.Prelude.{unwrap_or}
use Rattle.std.proofs.lemmas.Grind.{common_steps}
use Rattle.std.proofs.lemmas.Bool.{le-leb, eq-eqb, eqb-true, leb-true}
use Rattle.tk_counter.specs.Counter.{Counter, multiplier, least_tick, greatest_tick}
use Rattle.tk_clock.specs.Running.{IsRunning, IsWithin, slowest}
use Rattle.tk_clock.specs.Snapshot.{Snapshot}
use Rattle.tk_clock.specs.State.{ReadBase, State}
use Rattle.tk_clock.specs.Words.{are_in_range, is_within, restored, snapshot_of_words}
use Rattle.tk_clock.proofs.Words.{is_within-stated}
use Rattle.tk_script.specs.Counters.{counter_of}
use Rattle.tk_script.specs.Field.{number32_at, signed_at}
use Rattle.tk_script.specs.RunningClocks.{clocks_from, clocks_of, is_running, words_of_fields}
use Rattle.tk_script.specs.Start.{most_front}
use Rattle.tk_script.specs.declared.opening.Telling.TheVariants as tellings
use Rattle.tk_script.specs.declared.script_error.ScriptError.{ScriptError}
use Rattle.tk_script.specs.declared.script_error.ScriptError.TheVariants as errors
use Rattle.tk_script.proofs.PlainLemmas.{not-true}

and-true : (a b : Bool) → (a && b) ≡ true → (a ≡ true) × (b ≡ true)
and-true true b e = (refl, e)
and-true false b e = cc e

and-false : (a b : Bool) → b ≡ false → (a && b) ≡ false
and-false true b e = e
and-false false b e = refl

-- the clocks of restored words are below their limits
pub within-restored : (counter : Counter) (words : List ℕ) (snapshot : Snapshot) →
    restored counter words ≡ Some snapshot → IsWithin snapshot.base
within-restored counter words snapshot e =
    by (are_in_range counter words) (is_within (snapshot_of_words counter words).base) refl e
  where
    by : (a b : Bool) → is_within (snapshot_of_words counter words).base ≡ b →
        (if a && b then Some (snapshot_of_words counter words) else None) ≡ Some snapshot →
        IsWithin snapshot.base
    by true true w e =
        let own = snapshot_of_words counter words in
        let same : own ≡ snapshot = ap (λ (o : Option Snapshot). unwrap_or o own) e in
        subst (λ (s : Snapshot). IsWithin s.base) same (is_within-stated own.base w)
    by true false w e = cc e
    by false b w e = cc e

int_le-true : (a b : ℤ) → a ≤ℤ b → int_le a b ≡ true
int_le-true a b h = grind (arith, common_steps)

int_le-stated : (a b : ℤ) → int_le a b ≡ true → a ≤ℤ b
int_le-stated a b e = grind (arith, common_steps)

-- running clocks pass the test
pub is_running-true : (base : ReadBase) (frequency tick : ℤ) → IsRunning base frequency tick →
    is_running base frequency tick ≡ true
unfolding is_running
is_running-true base frequency tick running =
    rw (
      int_le-true least_tick tick running.tick_low,
      int_le-true tick greatest_tick running.tick_high,
      eq-eqb base.mult (multiplier base.counter frequency tick) running.steered,
      le-leb (base.raw_amount * slowest base.counter) (base.amount * base.counter.mult)
          running.rated,
    ) refl

-- a state that passes it is one of running clocks
is_running-stated : (base : ReadBase) (frequency tick : ℤ) →
    neg_ℤ (pos (2 ^ 63)) ≤ℤ frequency → frequency <ℤ pos (2 ^ 63) → IsWithin base →
    is_running base frequency tick ≡ true → IsRunning base frequency tick
unfolding is_running
is_running-stated base frequency tick low high within e =
    let all = and-true _ _ e in
    let steered = and-true _ _ all.0 in
    let ticks = and-true _ _ steered.0 in
    record {
      steered = eqb-true base.mult (multiplier base.counter frequency tick) steered.1;
      frequency_low = low;
      frequency_high = high;
      tick_low = int_le-stated least_tick tick ticks.0;
      tick_high = int_le-stated tick greatest_tick ticks.1;
      rated = leb-true (base.raw_amount * slowest base.counter) (base.amount * base.counter.mult)
          all.1;
      within = within;
    }

pub is_running-false : (base : ReadBase) (frequency tick : ℤ) →
    neg_ℤ (pos (2 ^ 63)) ≤ℤ frequency → frequency <ℤ pos (2 ^ 63) → IsWithin base →
    (IsRunning base frequency tick → ⊥) → is_running base frequency tick ≡ false
is_running-false base frequency tick low high within not_running =
    not-true (is_running base frequency tick)
    (λ e. not_running (is_running-stated base frequency tick low high within e))

-- clocks with the number of commands that they have accepted
abbrev pub clocks_and : State → ℕ → Result (State × ℕ) ScriptError
clocks_and clock front = Ok (clock, front)

-- the clocks of words that restore a snapshot
pub clocks-some : (counter : Counter) (words : List ℕ) (frequency tick : ℤ)
    (snapshot : Snapshot) →
    restored counter words ≡ Some snapshot → snapshot.front ≤ most_front →
    is_running snapshot.base frequency tick ≡ true →
    clocks_from counter words frequency tick
    ≡ clocks_and (record { base = snapshot.base; frequency = frequency; tick = tick }) snapshot.front
clocks-some counter words frequency tick snapshot e few running =
    rw (e, le-leb snapshot.front most_front few, running) refl

pub clocks-none : (counter : Counter) (words : List ℕ) (frequency tick : ℤ)
    (snapshot : Snapshot) →
    restored counter words ≡ Some snapshot → is_running snapshot.base frequency tick ≡ false →
    clocks_from counter words frequency tick ≡ Err (errors.Opening 1)
clocks-none counter words frequency tick snapshot e not_running =
    rw (
      e,
      and-false (nat_le snapshot.front most_front) (is_running snapshot.base frequency tick)
          not_running,
    ) refl

-- the clocks in the fields of a record, by the values of its fields
pub clocks-read : (fields : List (List ℕ)) (bits mult shift : ℕ) (words : List ℕ)
    (frequency tick : ℤ) (counter : Counter) →
    number32_at 1 fields 1 ≡ Ok bits → number32_at 1 fields 2 ≡ Ok mult →
    number32_at 1 fields 3 ≡ Ok shift → words_of_fields fields ≡ Ok words →
    signed_at 1 fields 14 ≡ Ok frequency → signed_at 1 fields 15 ≡ Ok tick →
    counter_of tellings.Scale bits mult shift ≡ Ok counter →
    clocks_of fields ≡ clocks_from counter words frequency tick
unfolding clocks_of
clocks-read fields bits mult shift words frequency tick counter b m s w f t c =
    rw (b, m, s, w, f, t, c) refl
