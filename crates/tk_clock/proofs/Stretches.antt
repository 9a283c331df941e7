-- MONOTONIC of a journal with one more entry.
use Rattle.std.proofs.Common.{◌≡◌, ℕ, zero, suc, ◌+◌, ◌-◌, ◌*◌, ◌≤◌, List, [], ◌∷◌, ◌++◌, length, refl, sym, ◌∙◌, ap, subst, arith, add-one, add-zero, add-suc, Bool, true, false}
use Rattle.std.specs.Prelude.{if◌then◌else◌}
use Rattle.std.proofs.lemmas.List.{length_push, take-append-le, take_all, append-nil}
use Rattle.std.specs.List.{filter_map}
use Rattle.std.specs.Option.{option_map_or}
use Rattle.tk_counter.specs.Counter.{gap, multiplier}
use Rattle.tk_clock.specs.declared.command.Entry.{Entry}
use Rattle.tk_clock.specs.Command.{is_suspend, frequency_set, tick_set, sets_multiplier}
use Rattle.tk_clock.specs.Journal.{Journal, followed_by, last_reading, is_asleep, latest}
use Rattle.tk_clock.specs.Monotonic.{awake_cycles, multiplier_at, stretch_places, stretches_from, current_frequency, current_tick, current_multiplier, monotonic_units}
use Rattle.tk_clock.specs.Clocks.{raw_units}
use Rattle.tk_clock.proofs.Append.{at_place-within, at_place-last, latest-push, latest_stated, places-push, AtMost, AtMost-places, AtMost-latest}

pub last_reading-followed_by : (journal : Journal) (entry : Entry) →
    last_reading (followed_by journal entry) ≡ entry.reading
last_reading-followed_by journal entry =
    at_place-last journal.opening.reading (λ (e : Entry). e.reading) journal.entries entry _
    (length_push journal.entries entry)

pub is_asleep-followed_by : (journal : Journal) (entry : Entry) →
    is_asleep (followed_by journal entry) ≡ is_suspend entry.cmd
is_asleep-followed_by journal entry =
    at_place-last journal.opening.asleep (λ (e : Entry). is_suspend e.cmd) journal.entries entry _
    (length_push journal.entries entry)

-- cycles up to the journal's end don't change
pub awake_cycles-within : (journal : Journal) (entry : Entry) (k : ℕ) → k ≤ length journal.entries →
    awake_cycles (followed_by journal entry) k ≡ awake_cycles journal k
awake_cycles-within journal entry zero within = refl
awake_cycles-within journal entry (suc k) within =
    let so_far = awake_cycles-within journal entry k (omega arith) in
    let asleep = at_place-within journal.opening.asleep (λ (e : Entry). is_suspend e.cmd)
    journal.entries entry k (omega arith) in
    let from = at_place-within journal.opening.reading (λ (e : Entry). e.reading) journal.entries
    entry k (omega arith) in
    let to = at_place-within journal.opening.reading (λ (e : Entry). e.reading) journal.entries
    entry (suc k) within in
    cc

-- the cycles from the last entry to the new one
abbrev pub cycles_to : Journal → ℕ → ℕ
cycles_to journal reading = if is_asleep journal then 0
    else gap journal.opening.counter (last_reading journal) reading

pub awake_cycles-last : (journal : Journal) (entry : Entry) →
    awake_cycles (followed_by journal entry) (suc (length journal.entries))
    ≡ awake_cycles journal (length journal.entries) + cycles_to journal entry.reading
awake_cycles-last journal entry =
    let n = length journal.entries in
    let so_far = awake_cycles-within journal entry n (omega arith) in
    let asleep = at_place-within journal.opening.asleep (λ (e : Entry). is_suspend e.cmd)
    journal.entries entry n (omega arith) in
    let from = at_place-within journal.opening.reading (λ (e : Entry). e.reading) journal.entries
    entry n (omega arith) in
    let to = at_place-last journal.opening.reading (λ (e : Entry). e.reading) journal.entries entry
    (suc n) (omega arith) in
    cc

awake_cycles-grow : (journal : Journal) (i k : ℕ) →
    awake_cycles journal i ≤ awake_cycles journal (i + k)
awake_cycles-grow journal i zero = rw add-zero (omega arith)
awake_cycles-grow journal i (suc k) = rw add-suc (omega (arith, awake_cycles-grow journal i k))

pub awake_cycles-≤ : (journal : Journal) (i k : ℕ) → i ≤ k →
    awake_cycles journal i ≤ awake_cycles journal k
awake_cycles-≤ journal i k low =
    let e : i + (k - i) ≡ k = omega arith in
    subst (λ n. awake_cycles journal i ≤ awake_cycles journal n) e
    (awake_cycles-grow journal i (k - i))

-- the multiplier of a stretch that began earlier
pub multiplier_at-within : (journal : Journal) (entry : Entry) (k : ℕ) →
    k ≤ length journal.entries →
    multiplier_at (followed_by journal entry) k ≡ multiplier_at journal k
multiplier_at-within journal entry k within =
    ap (λ (es : List Entry).
    multiplier journal.opening.counter
    (latest journal.opening.frequency (filter_map (λ (e : Entry). frequency_set e.cmd) es))
    (latest journal.opening.tick (filter_map (λ (e : Entry). tick_set e.cmd) es)))
    (take-append-le k journal.entries (entry ∷ []) within)

spread : (x d v : ℕ) → (x + d) * v ≡ x * v + d * v
spread x d v = omega arith

-- a product over a longer stretch
longer : (a a' b c d u v : ℕ) → a' ≡ a → c ≡ b + d → a ≤ b → u ≡ v →
    (c - a') * u ≡ (b - a) * v + d * v
longer a a' b c d u v start end low same =
    let e : c - a' ≡ (b - a) + d = omega arith in
    rw (e, same) (spread (b - a) d v)

nothing : (p q u : ℕ) → p ≡ q → (p - q) * u ≡ 0
nothing p q u same = let z : p - q ≡ 0 = omega arith in rw z (omega arith)

add_up : (x x' r r' c : ℕ) → x' ≡ x → r' ≡ r + c → x' + r' ≡ x + r + c
add_up x x' r r' c p q = omega arith

-- the cycles up to the new entry
awake_cycles-new : (journal : Journal) (entry : Entry) (place : ℕ) →
    place ≡ length journal.entries + 1 →
    awake_cycles (followed_by journal entry) place
    ≡ awake_cycles journal (length journal.entries) + cycles_to journal entry.reading
awake_cycles-new journal entry place here =
    ap (awake_cycles (followed_by journal entry)) (here ∙ add-one (length journal.entries))
    ∙ awake_cycles-last journal entry

-- the stretch up to the new entry
last_stretch : (journal : Journal) (entry : Entry) (from place : ℕ) →
    place ≡ length journal.entries + 1 → from ≤ length journal.entries →
    (awake_cycles (followed_by journal entry) place - awake_cycles
    (followed_by journal entry) from) * multiplier_at (followed_by journal entry) from
    ≡ (awake_cycles journal (length journal.entries) - awake_cycles journal from) * multiplier_at
    journal from
    + cycles_to journal entry.reading * multiplier_at journal from
last_stretch journal entry from place here low =
    longer _ _ _ _ _ _ _ (awake_cycles-within journal entry from low)
    (awake_cycles-new journal entry place here)
    (awake_cycles-≤ journal from (length journal.entries) low)
    (multiplier_at-within journal entry from low)

-- an earlier stretch
earlier_stretch : (journal : Journal) (entry : Entry) (from to : ℕ) →
    from ≤ length journal.entries → to ≤ length journal.entries →
    (awake_cycles (followed_by journal entry) to - awake_cycles
    (followed_by journal entry) from) * multiplier_at (followed_by journal entry) from
    ≡ (awake_cycles journal to - awake_cycles journal from) * multiplier_at journal from
earlier_stretch journal entry from to low within =
    let e = awake_cycles-within journal entry from low in
    let f = awake_cycles-within journal entry to within in
    let g = multiplier_at-within journal entry from low in
    cc

-- the last of the stretches grows to the new entry
pub stretches-grow : (journal : Journal) (entry : Entry) (from : ℕ) (later : List ℕ) →
    from ≤ length journal.entries → AtMost (length journal.entries) later →
    stretches_from (followed_by journal entry) from later
    ≡ stretches_from journal from later + cycles_to journal entry.reading * multiplier_at journal
    (latest from later)
stretches-grow journal entry from [] low all =
    last_stretch journal entry from (length (journal.entries ++ entry ∷ []))
    (length_push journal.entries entry) low
stretches-grow journal entry from (to ∷ later) low all =
    add_up _ _ _ _ _ (earlier_stretch journal entry from to low all.0)
    (stretches-grow journal entry to later all.0 all.1)

-- the last of the stretches ends at the new entry if a new stretch begins there
pub stretches-end : (journal : Journal) (entry : Entry) (from : ℕ) (later : List ℕ) (place : ℕ) →
    place ≡ length journal.entries + 1 →
    from ≤ length journal.entries → AtMost (length journal.entries) later →
    stretches_from (followed_by journal entry) from (later ++ place ∷ [])
    ≡ stretches_from journal from later + cycles_to journal entry.reading * multiplier_at journal
    (latest from later)
stretches-end journal entry from [] place here low all =
    let longer' = awake_cycles (followed_by journal entry) in
    let empty : (longer' (length (journal.entries ++ entry ∷ [])) - longer' place) * multiplier_at
    (followed_by journal entry) place ≡ 0 =
    nothing _ _ _ (ap longer' (length_push journal.entries entry ∙ sym here)) in
    omega (arith, empty, last_stretch journal entry from place here low)
stretches-end journal entry from (to ∷ later) place here low all =
    add_up _ _ _ _ _ (earlier_stretch journal entry from to low all.0)
    (stretches-end journal entry to later place here all.0 all.1)

AtMost-stretch_places : (journal : Journal) →
    AtMost (length journal.entries) (stretch_places journal)
AtMost-stretch_places journal =
    AtMost-places (λ (e : Entry). sets_multiplier e.cmd) 0 (length journal.entries) journal.entries
    (omega arith)

stretch_places-followed_by : (journal : Journal) (entry : Entry) →
    stretch_places (followed_by journal entry)
    ≡ stretch_places journal ++ (if sets_multiplier entry.cmd then (length journal.entries + 1) ∷ []
    else [])
stretch_places-followed_by journal entry =
    places-push (λ (e : Entry). sets_multiplier e.cmd) 0 journal.entries entry
    (length journal.entries + 1) (omega arith)

assoc : (a b c : ℕ) → a + (b + c) ≡ a + b + c
assoc a b c = omega arith

-- MONOTONIC grows by the awake cycles since the last entry, at the multiplier of the last stretch
pub monotonic_units-followed_by : (journal : Journal) (entry : Entry) →
    monotonic_units (followed_by journal entry)
    ≡ monotonic_units journal + cycles_to journal entry.reading * current_multiplier journal
monotonic_units-followed_by journal entry =
    let n = length journal.entries in
    let all = AtMost-stretch_places journal in
    let old = stretch_places journal in
    let grown = stretches_from journal 0 old + cycles_to journal entry.reading * current_multiplier
    journal in
    ap (λ x. journal.opening.amount + x)
    (ap (stretches_from (followed_by journal entry) 0) (stretch_places-followed_by journal entry)
    ∙ elim (sets_multiplier entry.cmd) as
    (λ b. stretches_from (followed_by journal entry) 0 (old ++ (if b then (n + 1) ∷ [] else []))
    ≡ grown) [
      | true ↦ stretches-end journal entry 0 old (n + 1) refl (omega arith) all
      | false ↦ ap (stretches_from (followed_by journal entry) 0) (append-nil old)
          ∙ stretches-grow journal entry 0 old (omega arith) all
    ])
    ∙ assoc journal.opening.amount (stretches_from journal 0 old)
    (cycles_to journal entry.reading * current_multiplier journal)

scaled : (a n c m : ℕ) → a + (n + c) * m ≡ a + n * m + c * m
scaled a n c m = omega arith

-- MONOTONIC_RAW grows by the awake cycles since the last entry, at the counter's own rate
pub raw_units-followed_by : (journal : Journal) (entry : Entry) →
    raw_units (followed_by journal entry)
    ≡ raw_units journal + cycles_to journal entry.reading * journal.opening.counter.mult
raw_units-followed_by journal entry =
    let mult = journal.opening.counter.mult in
    ap (λ n. journal.opening.raw_amount + n * mult)
    (awake_cycles-new journal entry (length (journal.entries ++ entry ∷ []))
    (length_push journal.entries entry))
    ∙ scaled journal.opening.raw_amount (awake_cycles journal (length journal.entries))
    (cycles_to journal entry.reading) mult

pub current_frequency-followed_by : (journal : Journal) (entry : Entry) →
    current_frequency (followed_by journal entry)
    ≡ option_map_or (λ x. x) (frequency_set entry.cmd) (current_frequency journal)
current_frequency-followed_by journal entry =
    latest_stated (λ (e : Entry). frequency_set e.cmd) journal.opening.frequency journal.entries entry

pub current_tick-followed_by : (journal : Journal) (entry : Entry) →
    current_tick (followed_by journal entry)
    ≡ option_map_or (λ x. x) (tick_set entry.cmd) (current_tick journal)
current_tick-followed_by journal entry =
    latest_stated (λ (e : Entry). tick_set e.cmd) journal.opening.tick journal.entries entry

multiplier_stated : (journal : Journal) (entry : Entry) (stated : Bool) →
    multiplier_at (followed_by journal entry)
    (latest 0 (stretch_places journal ++ (if stated then (length journal.entries + 1) ∷ [] else [])))
    ≡ (if stated then multiplier journal.opening.counter
    (option_map_or (λ x. x) (frequency_set entry.cmd) (current_frequency journal))
    (option_map_or (λ x. x) (tick_set entry.cmd) (current_tick journal))
    else current_multiplier journal)
multiplier_stated journal entry false =
    ap (λ q. multiplier_at (followed_by journal entry) (latest 0 q))
    (append-nil (stretch_places journal))
    ∙ multiplier_at-within journal entry (latest 0 (stretch_places journal))
    (AtMost-latest (length journal.entries) 0 (stretch_places journal) (omega arith)
    (AtMost-stretch_places journal))
multiplier_stated journal entry true =
    let at_end = λ (es : List Entry).
    multiplier journal.opening.counter
    (latest journal.opening.frequency (filter_map (λ (e : Entry). frequency_set e.cmd) es))
    (latest journal.opening.tick (filter_map (λ (e : Entry). tick_set e.cmd) es)) in
    ap (multiplier_at (followed_by journal entry))
    (latest-push 0 (stretch_places journal) (length journal.entries + 1))
    ∙ ap at_end (take_all (length journal.entries + 1) (journal.entries ++ entry
    ∷ []) (omega (arith, length_push journal.entries entry)))
    ∙ ap (λ f. multiplier journal.opening.counter f (current_tick (followed_by journal entry)))
    (current_frequency-followed_by journal entry)
    ∙ ap (multiplier journal.opening.counter
    (option_map_or (λ x. x) (frequency_set entry.cmd) (current_frequency journal)))
    (current_tick-followed_by journal entry)

-- a setting of the frequency or the tick begins a stretch; any other command continues the last one
pub current_multiplier-followed_by : (journal : Journal) (entry : Entry) →
    current_multiplier (followed_by journal entry)
    ≡ (if sets_multiplier entry.cmd then multiplier journal.opening.counter
    (option_map_or (λ x. x) (frequency_set entry.cmd) (current_frequency journal))
    (option_map_or (λ x. x) (tick_set entry.cmd) (current_tick journal))
    else current_multiplier journal)
current_multiplier-followed_by journal entry =
    ap (λ q. multiplier_at (followed_by journal entry) (latest 0 q))
    (stretch_places-followed_by journal entry)
    ∙ multiplier_stated journal entry (sets_multiplier entry.cmd)
