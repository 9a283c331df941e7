-- MONOTONIC never falls.
use Rattle.std.proofs.Common.{◌≡◌, ℕ, zero, suc, ◌+◌, ◌-◌, ◌*◌, ◌/◌, ◌^◌, ◌<◌, ◌≤◌, List, [], ◌∷◌, length, get_or, map, take, refl, sym, ◌∙◌, ap, subst, arith, add-zero, Bool, true, false, ◌⊎◌, inl, inr}
use Rattle.std.specs.Prelude.{if◌then◌else◌, nat_lt, ◌||◌, ◌&&◌, not, Option, Some, None}
use Rattle.std.proofs.lemmas.List.{take_more, length-take-le, take_all}
use Rattle.std.proofs.lemmas.Bool.{lt-ltb}
use Rattle.std.proofs.Math.Nat.{mul-le-mul_right}
use Rattle.std.proofs.Math.Pow.{shr_mono}
use Rattle.tk_counter.specs.Counter.{Counter, gap, half, mask}
use Rattle.tk_clock.specs.declared.command.Entry.{Entry}
use Rattle.tk_clock.specs.declared.command.Command.TheVariants.{Update}
use Rattle.tk_clock.specs.Journal.{Journal, prefix, followed_by, at_place, is_asleep, is_asleep_at, last_reading, reading_at}
use Rattle.tk_clock.specs.Monotonic.{monotonic, monotonic_units, monotonic_units_at, cycles_since, cycles_after, current_multiplier}
use Rattle.tk_clock.specs.Life.{IsInLife, NeverFalls}
use Rattle.tk_clock.specs.Command.{is_suspend, is_resume}
use Rattle.tk_clock.specs.Clocks.{clock_value}
use Rattle.tk_clock.specs.Limits.{is_well_formed}
use Rattle.tk_clock.specs.Refusal.{first_of, value_refusal, first_refusal}
use Rattle.tk_clock.specs.declared.refusal.Refusal.{Refusal}
use Rattle.tk_clock.specs.declared.refusal.Refusal.TheVariants.{Asleep, Awake, Invalid, Behind}
use Rattle.tk_clock.proofs.Stretches.{cycles_to, monotonic_units-followed_by, last_reading-followed_by}
use Rattle.tk_clock.proofs.Offsets.{monotonic-last}
use Rattle.tk_clock.proofs.Refusals.{passes_clock}

-- a longer journal has no fewer units
pub monotonic_units-≤ : (journal : Journal) (entry : Entry) →
    monotonic_units journal ≤ monotonic_units (followed_by journal entry)
monotonic_units-≤ journal entry = omega (arith, monotonic_units-followed_by journal entry)

-- the first entries of a journal, and the next one
pub prefix-next : (journal : Journal) (n : ℕ) → n < length journal.entries →
    (entry : Entry) × (prefix (n + 1) journal ≡ followed_by (prefix n journal) entry)
prefix-next journal n within =
    let none : Entry = record { who = 0; reading = 0; cmd = Update } in (
      get_or journal.entries n none,
      ap (λ (es : List Entry). record journal { entries = es })
          (take_more journal.entries n none within),
    )

chain : (a b c : ℕ) → a ≤ b → b ≤ c → a ≤ c
chain a b c p q = omega arith

pub prefix-≤ : (journal : Journal) (i k : ℕ) → i + k ≤ length journal.entries →
    monotonic_units (prefix i journal) ≤ monotonic_units (prefix (i + k) journal)
prefix-≤ journal i zero within = rw add-zero (omega arith)
prefix-≤ journal i (suc k) within =
    let next = prefix-next journal (i + k) (omega arith) in
    let before = prefix-≤ journal i k (omega arith) in
    let e : i + suc k ≡ i + k + 1 = omega arith in
    subst (λ (j : Journal). monotonic_units (prefix i journal) ≤ monotonic_units j)
    (sym (ap (λ n. prefix n journal) e ∙ next.1))
    (chain _ _ _ before (monotonic_units-≤ (prefix (i + k) journal) next.0))

at_most : (b : Bool) (x y : ℕ) → x ≤ y → (if b then 0 else x) ≤ y
at_most true x y low = omega arith
at_most false x y low = low

-- before the next entry's reading, a prefix counts at most the cycles up to that entry
pub since_low : (counter : Counter) (asleep : Bool) (last reading next : ℕ) →
    (asleep ≡ true) ⊎ (half counter < gap counter last reading)
    ⊎ (gap counter last reading ≤ gap counter last next) →
    cycles_since counter asleep last reading ≤ (if asleep then 0 else gap counter last next)
since_low counter true last reading next life = omega arith
since_low counter false last reading next (inl e) = absurd cc
since_low counter false last reading next (inr (inl behind)) =
    let none : cycles_since counter false last reading ≡ 0 =
    ap (λ (b : Bool). if b then 0 else gap counter last reading)
    (lt-ltb (half counter) (gap counter last reading) behind) in
    omega (arith, none)
since_low counter false last reading next (inr (inr low)) =
    at_most (nat_lt (half counter) (gap counter last reading)) _ _ low

pub in_life : (journal : Journal) (entry : Entry) (reading : ℕ) →
    (is_asleep journal ≡ true)
    ⊎ (half journal.opening.counter < gap journal.opening.counter (last_reading journal) reading)
    ⊎ (gap journal.opening.counter (last_reading journal) reading
    ≤ gap journal.opening.counter (last_reading journal) entry.reading) →
    monotonic_units_at journal reading ≤ monotonic_units (followed_by journal entry)
in_life journal entry reading life =
    let low = since_low journal.opening.counter (is_asleep journal) (last_reading journal) reading
    entry.reading life in
    let units = mul-le-mul_right (current_multiplier journal) low in
    omega (arith, units, monotonic_units-followed_by journal entry)

-- at each reading a journal has at least the units of its last entry
pub units_at-≤ : (journal : Journal) (reading : ℕ) →
    monotonic_units journal ≤ monotonic_units_at journal reading
units_at-≤ journal reading = omega arith

-- up to its end a prefix gives the same values as the journal
taken : {X : Type 0} (x d : X) (f : Entry → X) (entries : List Entry) (n : ℕ) → n ≤ length entries →
    get_or (x ∷ map f (take n entries)) n d ≡ get_or (x ∷ map f entries) n d
taken x d f entries zero within = refl
taken x d f [] (suc n) within = absurd (omega arith)
taken x d f (entry ∷ entries) (suc n) within = taken (f entry) d f entries n (omega arith)

at_end : {X : Type 0} (opening : X) (f : Entry → X) (entries : List Entry) (n : ℕ) →
    n ≤ length entries →
    at_place opening f (take n entries) (length (take n entries)) ≡ at_place opening f entries n
at_end opening f entries n within =
    ap (at_place opening f (take n entries)) (length-take-le n entries within)
    ∙ taken opening opening f entries n within

is_asleep-prefix : (journal : Journal) (n : ℕ) → n ≤ length journal.entries →
    is_asleep (prefix n journal) ≡ is_asleep_at journal n
is_asleep-prefix journal n within =
    at_end journal.opening.asleep (λ (e : Entry). is_suspend e.cmd) journal.entries n within

last_reading-prefix : (journal : Journal) (n : ℕ) → n ≤ length journal.entries →
    last_reading (prefix n journal) ≡ reading_at journal n
last_reading-prefix journal n within =
    at_end journal.opening.reading (λ (e : Entry). e.reading) journal.entries n within

-- the life of a prefix, in terms of the prefix and the next entry
life_of : (journal : Journal) (n reading next : ℕ) → n < length journal.entries →
    reading_at journal (n + 1) ≡ next → IsInLife journal n reading →
    (is_asleep (prefix n journal) ≡ true)
    ⊎ (half journal.opening.counter
    < gap journal.opening.counter (last_reading (prefix n journal)) reading)
    ⊎ (gap journal.opening.counter (last_reading (prefix n journal)) reading
    ≤ gap journal.opening.counter (last_reading (prefix n journal)) next)
life_of journal n reading next within e (inl whole) = absurd (omega arith)
life_of journal n reading next within e (inr (inl asleep)) =
    inl (is_asleep-prefix journal n (omega arith) ∙ asleep)
life_of journal n reading next within e (inr (inr (inl behind))) =
    let last = last_reading-prefix journal n (omega arith) in inr (inl (rw last behind))
life_of journal n reading next within e (inr (inr (inr low))) =
    let last = last_reading-prefix journal n (omega arith) in inr (inr (rw (last, sym e) low))

-- MONOTONIC of a prefix, read in its life, is at most MONOTONIC of the journal at any reading
pub never_falls : (journal : Journal) → NeverFalls journal
never_falls journal n reading reading' within life =
    let next = prefix-next journal n within in
    let entry : Entry = next.0 in
    let stated : reading_at journal (n + 1) ≡ entry.reading =
    sym (last_reading-prefix journal (n + 1) (omega arith)) ∙ ap last_reading next.1
    ∙ last_reading-followed_by (prefix n journal) entry in
    let whole : prefix (length journal.entries) journal ≡ journal =
    ap (λ (es : List Entry). record journal { entries = es })
    (take_all (length journal.entries) journal.entries (omega arith)) in
    let rest = prefix-≤ journal (n + 1) (length journal.entries - (n + 1)) (omega arith) in
    let e : n + 1 + (length journal.entries - (n + 1)) ≡ length journal.entries = omega arith in
    let to_end : monotonic_units (prefix (n + 1) journal) ≤ monotonic_units journal =
    subst (λ (j : Journal). monotonic_units (prefix (n + 1) journal) ≤ monotonic_units j)
    (ap (λ k. prefix k journal) e ∙ whole) rest in
    let first : monotonic_units_at (prefix n journal) reading
    ≤ monotonic_units (prefix (n + 1) journal) =
    subst (λ (j : Journal). monotonic_units_at (prefix n journal) reading ≤ monotonic_units j)
    (sym next.1)
    (in_life (prefix n journal) entry reading
    (life_of journal n reading entry.reading within stated life)) in
    shr_mono journal.opening.counter.shift
    (chain _ _ _ first (chain _ _ _ to_end (units_at-≤ journal reading')))

-- an accepted command counts the cycles that a read at its reading counts
counted_alike : (asleep resumes invalid behind : Bool) (gap : ℕ) (later : Option Refusal) →
    first_of (first_of (if asleep && not resumes then Some Asleep else if not asleep
    && resumes then Some Awake else None)
    (first_of (if invalid then Some Invalid else None) (if not resumes && behind then Some Behind
    else None))) later ≡ None →
    (if asleep || behind then 0 else gap) ≡ (if asleep then 0 else gap)
counted_alike true resumes invalid behind gap later e = refl
counted_alike false true invalid behind gap later e = cc
counted_alike false false true behind gap later e = cc
counted_alike false false false true gap later e = cc
counted_alike false false false false gap later e = refl

-- MONOTONIC before and after an accepted command agree at its reading
pub agrees : (journal : Journal) (entry : Entry) → first_refusal journal entry ≡ None →
    monotonic journal entry.reading ≡ monotonic (followed_by journal entry) entry.reading
agrees journal entry accepted =
    let counter = journal.opening.counter in
    let after = followed_by journal entry in
    let scale = 2 ^ counter.shift in
    let stated = passes_clock journal entry accepted in
    let same : cycles_after journal entry.reading ≡ cycles_to journal entry.reading =
    counted_alike (is_asleep journal) (is_resume entry.cmd)
    (nat_lt (mask counter) entry.reading || not (is_well_formed entry.cmd))
    (nat_lt (half counter) (gap counter (last_reading journal) entry.reading))
    (gap counter (last_reading journal) entry.reading)
    (value_refusal (λ clock. clock_value journal clock entry.reading)
    (λ clock. clock_value after clock entry.reading) entry.cmd)
    stated in
    ap (λ k. (monotonic_units journal + k * current_multiplier journal) / scale) same
    ∙ ap (λ n. n / scale) (sym (monotonic_units-followed_by journal entry))
    ∙ sym (monotonic-last after)
    ∙ ap (monotonic after) (last_reading-followed_by journal entry)
