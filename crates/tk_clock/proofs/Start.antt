-- The state of a journal without entries is the state in which it begins.
use Rattle.std.proofs.Common.{◌≡◌, ℕ, zero, suc, ◌+◌, ◌-◌, ◌*◌, ◌≤◌, List, [], length, refl, sym, ◌∙◌, ap, subst, arith}
use Rattle.std.specs.Prelude.{ℤ, pos, ◌+ℤ◌, if◌then◌else◌}
use Rattle.std.proofs.lemmas.Int.{ints}
use Rattle.std.proofs.lemmas.List.{take_all}
use Rattle.std.specs.Option.{option_map_or}
use Rattle.tk_counter.specs.Counter.{Counter, multiplier}
use Rattle.tk_clock.specs.declared.command.Entry.{Entry}
use Rattle.tk_clock.specs.declared.command.Command.{Command}
use Rattle.tk_clock.specs.declared.command.Command.TheVariants.{Update, SetTime, Step, Freq, Tick, Tai, Leap, Suspend, Resume}
use Rattle.tk_clock.specs.Command.{frequency_set, tick_set, sets_multiplier}
use Rattle.tk_clock.specs.Journal.{Journal, prefix, followed_by}
use Rattle.tk_clock.specs.Monotonic.{current_multiplier, current_frequency, current_tick}
use Rattle.tk_clock.specs.State.{State, state_of}
use Rattle.tk_clock.proofs.Stretches.{current_multiplier-followed_by, current_frequency-followed_by, current_tick-followed_by}
use Rattle.tk_clock.proofs.Monotone.{prefix-next}
use Rattle.tk_clock.specs.Folding.{journal_from}

-- the multiplier follows from the frequency and tick in force
abbrev IsSteered : Journal → Type 0
IsSteered journal =
    current_multiplier journal ≡ multiplier journal.opening.counter (current_frequency journal)
    (current_tick journal)

-- this stays true after every command
steered : (counter : Counter) (cmd : Command) (mult : ℕ) (frequency tick : ℤ) →
    mult ≡ multiplier counter frequency tick →
    (if sets_multiplier cmd then multiplier counter
    (option_map_or (λ x. x) (frequency_set cmd) frequency)
    (option_map_or (λ x. x) (tick_set cmd) tick)
    else mult)
    ≡ multiplier counter (option_map_or (λ x. x) (frequency_set cmd) frequency)
    (option_map_or (λ x. x) (tick_set cmd) tick)
steered counter Update mult frequency tick e = e
steered counter (SetTime time) mult frequency tick e = e
steered counter (Step by) mult frequency tick e = e
steered counter (Freq other) mult frequency tick e = refl
steered counter (Tick other) mult frequency tick e = refl
steered counter (Tai seconds) mult frequency tick e = e
steered counter (Leap by tai) mult frequency tick e = e
steered counter Suspend mult frequency tick e = e
steered counter (Resume away) mult frequency tick e = e

IsSteered-followed_by : (journal : Journal) (entry : Entry) → IsSteered journal →
    IsSteered (followed_by journal entry)
IsSteered-followed_by journal entry e =
    let counter = journal.opening.counter in
    current_multiplier-followed_by journal entry
    ∙ steered counter entry.cmd (current_multiplier journal) (current_frequency journal)
    (current_tick journal) e
    ∙ ap (λ f. multiplier counter f
    (option_map_or (λ x. x) (tick_set entry.cmd) (current_tick journal)))
    (sym (current_frequency-followed_by journal entry))
    ∙ ap (multiplier counter (current_frequency (followed_by journal entry)))
    (sym (current_tick-followed_by journal entry))

IsSteered-prefix : (journal : Journal) (n : ℕ) → n ≤ length journal.entries →
    IsSteered (prefix n journal)
IsSteered-prefix journal zero within = refl
IsSteered-prefix journal (suc n) within =
    let next = prefix-next journal n (omega arith) in
    let e : suc n ≡ n + 1 = omega arith in
    subst IsSteered (sym (ap (λ k. prefix k journal) e ∙ next.1))
    (IsSteered-followed_by (prefix n journal) next.0 (IsSteered-prefix journal n (omega arith)))

pub IsSteered-journal : (journal : Journal) → IsSteered journal
IsSteered-journal journal =
    subst IsSteered
    (ap (λ (es : List Entry). record journal { entries = es })
    (take_all (length journal.entries) journal.entries (omega arith)))
    (IsSteered-prefix journal (length journal.entries) (omega arith))

no_stretch : (amount u : ℕ) → amount + (0 - 0) * u ≡ amount
no_stretch amount u = omega arith

no_cycles : (amount u : ℕ) → amount + 0 * u ≡ amount
no_cycles amount u = omega arith

no_more : (x : ℤ) → x +ℤ pos 0 ≡ x
no_more x = omega (arith, ints)

same_parts : (state : State) (mult amount raw : ℕ) (real boot : ℤ) → state.base.mult ≡ mult →
    amount ≡ state.base.amount →
    raw ≡ state.base.raw_amount → real ≡ state.base.real_offset → boot ≡ state.base.boot_offset →
    state ≡ record {
      base = record {
        counter = state.base.counter;
        last = state.base.last;
        mult = mult;
        amount = amount;
        raw_amount = raw;
        real_offset = real;
        boot_offset = boot;
        tai = state.base.tai;
        asleep = state.base.asleep;
      };
      frequency = state.frequency;
      tick = state.tick;
    }
same_parts state mult amount raw real boot p q r s t = rw (← p, q, r, s, t) refl

-- the state of a journal without entries is the state in which it begins, if the multiplier follows
-- from its frequency and tick
pub state_of-begun : (count : ℕ) (state : State) →
    state.base.mult ≡ multiplier state.base.counter state.frequency state.tick →
    state_of (journal_from count state []) ≡ state
state_of-begun count state steered =
    let start = journal_from count state [] in
    sym (same_parts state (current_multiplier start) _ _ _ _ steered
    (no_stretch state.base.amount (current_multiplier start))
    (no_cycles state.base.raw_amount state.base.counter.mult)
    (no_more state.base.real_offset) (no_more state.base.boot_offset))

-- so it is the state of the journal that left it
pub state_of-started : (count : ℕ) (journal : Journal) →
    state_of (journal_from count (state_of journal) []) ≡ state_of journal
state_of-started count journal =
    state_of-begun count (state_of journal) (IsSteered-journal journal)
