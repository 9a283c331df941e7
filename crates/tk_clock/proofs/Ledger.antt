-- One more entry changes a journal's state by the effect of its command.
use Rattle.std.proofs.Common.{◌≡◌, ℕ, ◌+◌, ◌*◌, ◌/◌, ◌^◌, refl, sym, ◌∙◌, ap, arith, Bool, true, false}
use Rattle.std.specs.Prelude.{ℤ, pos, ◌+ℤ◌, ◌-ℤ◌, if◌then◌else◌, Option, Some, None, not, ◌&&◌}
use Rattle.std.proofs.lemmas.Int.{ints}
use Rattle.std.specs.Option.{option_map_or}
use Rattle.tk_counter.specs.Counter.{Counter, gap, multiplier}
use Rattle.tk_clock.specs.declared.command.Entry.{Entry}
use Rattle.tk_clock.specs.declared.command.Command.{Command}
use Rattle.tk_clock.specs.declared.command.Command.TheVariants.{Update, SetTime, Step, Freq, Tick, Tai, Leap, Suspend, Resume}
use Rattle.tk_clock.specs.Command.{is_resume, boot_amount, tai_set, frequency_set, tick_set, sets_multiplier}
use Rattle.tk_clock.specs.Journal.{Journal, followed_by, is_asleep, last_reading}
use Rattle.tk_clock.specs.Monotonic.{monotonic, monotonic_units, current_multiplier, current_frequency, current_tick}
use Rattle.tk_clock.specs.State.{State, base_of, state_of, base_value, effect}
use Rattle.tk_clock.specs.Clocks.{clock_value, raw_units, real_offset, boot_offset, tai_offset}
use Rattle.tk_clock.specs.Refusal.{first_of, early_refusal, number_refusal, order_refusal, value_refusal, clock_refusal, state_refusal}
use Rattle.tk_clock.specs.declared.refusal.Refusal.{Refusal}
use Rattle.tk_clock.specs.declared.refusal.Refusal.TheVariants.{Asleep, Awake}
use Rattle.tk_clock.specs.Time.{nanoseconds}
use Rattle.tk_clock.specs.declared.clock_id.ClockId.{ClockId}
use Rattle.tk_clock.specs.declared.clock_id.ClockId.TheVariants.{Realtime, Monotonic, Boottime, Tai as TaiClock, RealtimeCoarse, MonotonicCoarse, MonotonicRaw}
use Rattle.tk_clock.proofs.Stretches.{cycles_to, last_reading-followed_by, is_asleep-followed_by, monotonic_units-followed_by, raw_units-followed_by, current_multiplier-followed_by, current_frequency-followed_by, current_tick-followed_by}
use Rattle.tk_clock.proofs.Offsets.{boot_offset-followed_by, tai_offset-followed_by, real_offset-followed_by, monotonic-last}

abbrev state : Counter → ℕ → ℕ → ℕ → ℕ → ℤ → ℤ → ℤ → Bool → ℤ → ℤ → State
state counter last mult amount raw real boot tai asleep frequency tick = record {
  base = record {
    counter = counter;
    last = last;
    mult = mult;
    amount = amount;
    raw_amount = raw;
    real_offset = real;
    boot_offset = boot;
    tai = tai;
    asleep = asleep;
  };
  frequency = frequency;
  tick = tick;
}

same_parts : (counter : Counter) (last last' mult mult' amount amount' raw raw' : ℕ)
    (real real' boot boot' tai tai' : ℤ)
    (asleep asleep' : Bool) (frequency frequency' tick tick' : ℤ) →
    last ≡ last' → mult ≡ mult' → amount ≡ amount' → raw ≡ raw' → real ≡ real' → boot ≡ boot' →
    tai ≡ tai' →
    asleep ≡ asleep' → frequency ≡ frequency' → tick ≡ tick' →
    state counter last mult amount raw real boot tai asleep frequency tick
    ≡ state counter last' mult' amount' raw' real' boot' tai' asleep' frequency' tick'
same_parts counter last last' mult mult' amount amount' raw raw' real real' boot boot' tai tai'
    asleep asleep' frequency frequency' tick tick'
    o p q r s t u v w x = cc

-- the state of a journal with one more entry, by its parts
stated_state : (journal : Journal) (entry : Entry) (last' mult' amount' raw' : ℕ)
    (real' boot' tai' : ℤ) (asleep' : Bool) (frequency' tick' : ℤ) →
    last_reading (followed_by journal entry) ≡ last' →
    current_multiplier (followed_by journal entry) ≡ mult' →
    monotonic_units (followed_by journal entry) ≡ amount' →
    raw_units (followed_by journal entry) ≡ raw' →
    real_offset (followed_by journal entry) ≡ real' →
    boot_offset (followed_by journal entry) ≡ boot' →
    tai_offset (followed_by journal entry) ≡ tai' →
    is_asleep (followed_by journal entry) ≡ asleep' →
    current_frequency (followed_by journal entry) ≡ frequency' →
    current_tick (followed_by journal entry) ≡ tick' →
    state_of (followed_by journal entry)
    ≡ state journal.opening.counter last' mult' amount' raw' real' boot' tai' asleep' frequency'
    tick'
stated_state journal entry last' mult' amount' raw' real' boot' tai' asleep' frequency' tick' o p q r
    s t u v w x =
    same_parts journal.opening.counter _ _ _ _ _ _ _ _ _ _ _ _ _ _ _ _ _ _ _ _ o p q r s t u v w x

-- the cycles to an entry, by whether the journal is asleep
cycles_awake : (journal : Journal) (reading : ℕ) → false ≡ is_asleep journal →
    cycles_to journal reading ≡ gap journal.opening.counter (last_reading journal) reading
cycles_awake journal reading awake =
    ap (λ b. if b then 0 else gap journal.opening.counter (last_reading journal) reading)
    (sym awake)

cycles_asleep : (journal : Journal) (reading : ℕ) → true ≡ is_asleep journal →
    cycles_to journal reading ≡ 0
cycles_asleep journal reading asleep =
    ap (λ b. if b then 0 else gap journal.opening.counter (last_reading journal) reading)
    (sym asleep)

pub no_more : (x : ℤ) → x +ℤ pos 0 ≡ x
no_more x = omega (arith, ints)

-- the effect of every command except Resume on the amount
grown : (journal : Journal) (entry : Entry) → false ≡ is_asleep journal →
    monotonic_units (followed_by journal entry)
    ≡ monotonic_units journal + gap journal.opening.counter
    (last_reading journal) entry.reading * current_multiplier journal
grown journal entry awake =
    monotonic_units-followed_by journal entry
    ∙ ap (λ k. monotonic_units journal + k * current_multiplier journal)
    (cycles_awake journal entry.reading awake)

-- the effect of every command except Resume on the raw amount
raw_grown : (journal : Journal) (entry : Entry) → false ≡ is_asleep journal →
    raw_units (followed_by journal entry)
    ≡ raw_units journal + gap journal.opening.counter
    (last_reading journal) entry.reading * journal.opening.counter.mult
raw_grown journal entry awake =
    raw_units-followed_by journal entry
    ∙ ap (λ k. raw_units journal + k * journal.opening.counter.mult)
    (cycles_awake journal entry.reading awake)

plus_nothing : (x u : ℕ) → x + 0 * u ≡ x
plus_nothing x u = omega arith

-- the frequency and the tick after a command, and the multiplier with them
abbrev frequency_left : Journal → Command → ℤ
frequency_left journal cmd = option_map_or (λ x. x) (frequency_set cmd) (current_frequency journal)

abbrev tick_left : Journal → Command → ℤ
tick_left journal cmd = option_map_or (λ x. x) (tick_set cmd) (current_tick journal)

abbrev multiplier_left : Journal → Command → ℕ
multiplier_left journal cmd =
    if sets_multiplier cmd then multiplier journal.opening.counter (frequency_left journal cmd)
    (tick_left journal cmd)
    else current_multiplier journal

-- the common effect of all commands except Resume; REALTIME and sleep depend on the command
forward : (journal : Journal) (entry : Entry) (real' : ℤ) (asleep' : Bool) →
    false ≡ is_asleep journal →
    boot_amount entry.cmd ≡ pos 0 → real_offset (followed_by journal entry) ≡ real' →
    is_asleep (followed_by journal entry) ≡ asleep' →
    let counter = journal.opening.counter in
    let cycles = gap counter (last_reading journal) entry.reading in
    state_of (followed_by journal entry)
    ≡ state counter entry.reading (multiplier_left journal entry.cmd)
    (monotonic_units journal + cycles * current_multiplier journal)
    (raw_units journal + cycles * counter.mult)
    real' (boot_offset journal) (option_map_or (λ x. x) (tai_set entry.cmd) (tai_offset journal))
    asleep'
    (frequency_left journal entry.cmd) (tick_left journal entry.cmd)
forward journal entry real' asleep' awake boot real sleep =
    stated_state journal entry _ _ _ _ _ _ _ _ _ _ (last_reading-followed_by journal entry)
    (current_multiplier-followed_by journal entry) (grown journal entry awake)
    (raw_grown journal entry awake) real
    (boot_offset-followed_by journal entry ∙ ap (λ z. boot_offset journal +ℤ z) boot
    ∙ no_more (boot_offset journal))
    (tai_offset-followed_by journal entry) sleep (current_frequency-followed_by journal entry)
    (current_tick-followed_by journal entry)

pub ledger : (journal : Journal) (who reading : ℕ) (cmd : Command) →
    is_resume cmd ≡ is_asleep journal →
    state_of (followed_by journal (record { who = who; reading = reading; cmd = cmd }))
    ≡ effect (state_of journal) reading cmd
ledger journal who reading Update awake =
    let entry : Entry = record { who = who; reading = reading; cmd = Update } in
    forward journal entry _ _ awake refl (real_offset-followed_by journal entry ∙ no_more _)
    (is_asleep-followed_by journal entry ∙ awake)
ledger journal who reading (SetTime time) awake =
    let entry : Entry = record { who = who; reading = reading; cmd = SetTime time } in
    let after = followed_by journal entry in
    let scale = 2 ^ journal.opening.counter.shift in
    forward journal entry _ _ awake refl
    (real_offset-followed_by journal entry
    ∙ ap (λ r. nanoseconds time -ℤ pos (monotonic after r))
    (sym (last_reading-followed_by journal entry))
    ∙ ap (λ n. nanoseconds time -ℤ pos n) (monotonic-last after)
    ∙ ap (λ n. nanoseconds time -ℤ pos (n / scale)) (grown journal entry awake))
    (is_asleep-followed_by journal entry ∙ awake)
ledger journal who reading (Step by) awake =
    let entry : Entry = record { who = who; reading = reading; cmd = Step by } in
    forward journal entry _ _ awake refl (real_offset-followed_by journal entry)
    (is_asleep-followed_by journal entry ∙ awake)
ledger journal who reading (Freq frequency) awake =
    let entry : Entry = record { who = who; reading = reading; cmd = Freq frequency } in
    forward journal entry _ _ awake refl (real_offset-followed_by journal entry ∙ no_more _)
    (is_asleep-followed_by journal entry ∙ awake)
ledger journal who reading (Tick tick) awake =
    let entry : Entry = record { who = who; reading = reading; cmd = Tick tick } in
    forward journal entry _ _ awake refl (real_offset-followed_by journal entry ∙ no_more _)
    (is_asleep-followed_by journal entry ∙ awake)
ledger journal who reading (Tai seconds) awake =
    let entry : Entry = record { who = who; reading = reading; cmd = Tai seconds } in
    forward journal entry _ _ awake refl (real_offset-followed_by journal entry ∙ no_more _)
    (is_asleep-followed_by journal entry ∙ awake)
ledger journal who reading (Leap by tai) awake =
    let entry : Entry = record { who = who; reading = reading; cmd = Leap by tai } in
    forward journal entry _ _ awake refl (real_offset-followed_by journal entry)
    (is_asleep-followed_by journal entry ∙ awake)
ledger journal who reading Suspend awake =
    let entry : Entry = record { who = who; reading = reading; cmd = Suspend } in
    forward journal entry _ _ awake refl (real_offset-followed_by journal entry ∙ no_more _)
    (is_asleep-followed_by journal entry)
ledger journal who reading (Resume away) asleep =
    let entry : Entry = record { who = who; reading = reading; cmd = Resume away } in
    stated_state journal entry _ _ _ _ _ _ _ _ _ _ (last_reading-followed_by journal entry)
    (current_multiplier-followed_by journal entry)
    (monotonic_units-followed_by journal entry
    ∙ ap (λ k. monotonic_units journal + k * current_multiplier journal)
    (cycles_asleep journal reading asleep)
    ∙ plus_nothing (monotonic_units journal) (current_multiplier journal))
    (raw_units-followed_by journal entry
    ∙ ap (λ k. raw_units journal + k * journal.opening.counter.mult)
    (cycles_asleep journal reading asleep)
    ∙ plus_nothing (raw_units journal) journal.opening.counter.mult)
    (real_offset-followed_by journal entry) (boot_offset-followed_by journal entry)
    (tai_offset-followed_by journal entry) (is_asleep-followed_by journal entry)
    (current_frequency-followed_by journal entry) (current_tick-followed_by journal entry)

-- the value of a journal's clock equals its read base's
pub base_value-base_of : (journal : Journal) (clock : ClockId) (reading : ℕ) →
    base_value (base_of journal) clock reading ≡ clock_value journal clock reading
base_value-base_of journal Realtime reading = refl
base_value-base_of journal Monotonic reading = refl
base_value-base_of journal Boottime reading = refl
base_value-base_of journal TaiClock reading = refl
base_value-base_of journal RealtimeCoarse reading = refl
base_value-base_of journal MonotonicCoarse reading = refl
base_value-base_of journal MonotonicRaw reading = refl

-- an accepted command fits the state: a resume while asleep, another one while awake
pub fits_sleep : (asleep resumes : Bool) (later : Option Refusal) →
    first_of (if asleep && not resumes then Some Asleep else if not asleep
    && resumes then Some Awake else None) later ≡ None →
    resumes ≡ asleep
fits_sleep true true later e = refl
fits_sleep true false later e = cc
fits_sleep false true later e = cc
fits_sleep false false later e = refl

-- if an early test fails, no later test decides
by_first : (early x y : Option Refusal) → (early ≡ None → x ≡ y) →
    first_of early x ≡ first_of early y
by_first None x y same = same refl
by_first (Some refusal) x y same = refl

-- the tests of a journal are the tests of its state
pub clock_refusal-state : (journal : Journal) (who reading : ℕ) (cmd : Command) →
    clock_refusal journal (record { who = who; reading = reading; cmd = cmd })
    ≡ state_refusal (state_of journal) reading cmd
clock_refusal-state journal who reading cmd =
    let counter = journal.opening.counter in
    let by_state : State → Option Refusal = λ s.
    value_refusal (λ clock. clock_value journal clock reading)
    (λ clock. base_value s.base clock reading) cmd in
    by_first (early_refusal counter (is_asleep journal) (last_reading journal) reading cmd)
    (by_state (state_of (followed_by journal (record { who = who; reading = reading; cmd = cmd }))))
    (by_state (effect (state_of journal) reading cmd))
    (λ fits. ap by_state (ledger journal who reading cmd
    (fits_sleep (is_asleep journal) (is_resume cmd)
    (first_of (number_refusal counter reading cmd)
    (order_refusal counter (last_reading journal) reading cmd)) fits)))
