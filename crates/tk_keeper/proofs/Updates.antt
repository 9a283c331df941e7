-- An update before another entry can be skipped: the other entry leads to the same state without
-- it.
use Rattle.std.proofs.Common.{◌≡◌, ℕ, ◌+◌, ◌-◌, ◌*◌, ◌/◌, ◌%◌, ◌^◌, ◌<◌, ◌≤◌, get_or, length, refl, sym, ◌∙◌, ap, ap₂, subst, arith, inl, inr, Bool, true, false, Some, None}
use Rattle.std.specs.Prelude.{pos, ◌+ℤ◌, ◌-ℤ◌, ◌*ℤ◌, Option, nat_lt, int_lt, not, ◌&&◌, ◌||◌, if◌then◌else◌, slice_get}
use Rattle.std.proofs.lemmas.Bool.{le-ltb, cases_lt}
use Rattle.std.proofs.lemmas.Grind.{common_steps}
use Rattle.std.proofs.lemmas.Nat.{pow_pos}
use Rattle.std.proofs.lemmas.Option.{get_or_from_slice_get}
use Rattle.std.proofs.Math.Nat.{add-mul-mod_self_left, div-add-mod, mod-lt, mod-add-mod, mod-eq_of_lt}
use Rattle.tk_counter.specs.Counter.{Counter, mask, half, gap, multiplier}
use Rattle.tk_clock.specs.declared.command.Entry.{Entry}
use Rattle.tk_clock.specs.declared.command.Command.{Command}
use Rattle.tk_clock.specs.declared.command.Command.TheVariants.{Update, SetTime, Step, Freq, Tick, Tai, Leap, Suspend, Resume}
use Rattle.tk_clock.specs.declared.refusal.Refusal.{Refusal}
use Rattle.tk_clock.specs.declared.refusal.Refusal.TheVariants.{Asleep, Awake, Invalid, Behind, Range}
use Rattle.tk_clock.specs.Command.{is_resume}
use Rattle.tk_clock.specs.Journal.{Journal, prefix}
use Rattle.tk_clock.specs.Legal.{IsAccepted}
use Rattle.tk_clock.specs.Limits.{is_well_formed, is_past_limit, is_bad_setting}
use Rattle.tk_clock.specs.Monotonic.{cycles_since}
use Rattle.tk_clock.specs.Refusal.{first_of, state_refusal}
use Rattle.tk_clock.specs.State.{ReadBase, State, base_monotonic, base_value, forwarded, state_of, effect}
use Rattle.tk_clock.specs.Time.{nanoseconds}
use Rattle.tk_keeper.specs.Runs.{IsRun, AreRuns}
use Rattle.tk_keeper.proofs.Steps.{passes, next_state, listed_item}

-- two gaps whose sum is less than the counter's range add up to the gap from the first reading to
-- the last
gaps_add : (d a b c : ℕ) → 0 < d →
    (b + (d - a % d)) % d + (c + (d - b % d)) % d < d →
    (b + (d - a % d)) % d + (c + (d - b % d)) % d ≡ (c + (d - a % d)) % d
gaps_add d a b c some near =
    let x = b + (d - a % d) in
    let y = c + (d - b % d) in
    let whole : d * (b / d) + b % d ≡ b = div-add-mod b d in
    let rest : b % d < d = mod-lt b some in
    let turned : x + y % d ≡ y % d + x = omega arith in
    let e : y + x ≡ (c + (d - a % d)) + d * (b / d + 1) = omega arith in
    sym (mod-eq_of_lt near) ∙ mod-add-mod x d (y % d) ∙ ap (λ n. n % d) turned
    ∙ mod-add-mod y d x ∙ ap (λ n. n % d) e
    ∙ add-mul-mod_self_left (c + (d - a % d)) d (b / d + 1)

-- the sum of two gaps that lead forward is less than the counter's range
less_than_round : (counter : Counter) (g g' : ℕ) → g ≤ half counter → g' ≤ half counter →
    g + g' < 2 ^ counter.bits
less_than_round counter g g' low low' =
    let some = pow_pos counter.bits in
    omega (arith, low, low', some)

forward_gaps : (counter : Counter) (a b c : ℕ) → gap counter a b ≤ half counter →
    gap counter b c ≤ half counter → gap counter a b + gap counter b c ≡ gap counter a c
forward_gaps counter a b c low low' =
    gaps_add (2 ^ counter.bits) a b c (pow_pos counter.bits)
    (less_than_round counter (gap counter a b) (gap counter b c) low low')

-- an amount that grows twice at one multiplier
grown_twice : (amount g g' all mult : ℕ) → g + g' ≡ all →
    (amount + g * mult) + g' * mult ≡ amount + all * mult
grown_twice amount g g' all mult e =
    let sum : (amount + g * mult) + g' * mult ≡ amount + (g + g') * mult = omega arith in
    sum ∙ ap (λ k. amount + k * mult) e

-- a base that is forwarded twice is the base that is forwarded once
forwarded_twice : (base : ReadBase) (r r' : ℕ) →
    gap base.counter base.last r + gap base.counter r r' ≡ gap base.counter base.last r' →
    forwarded (forwarded base r) r' ≡ forwarded base r'
forwarded_twice base r r' e =
    let there : ℕ → ℕ → ReadBase = λ a w.
    record base { amount = a; raw_amount = w; last = r' } in
    ap₂ there
    (grown_twice base.amount (gap base.counter base.last r) (gap base.counter r r') _ base.mult e)
    (grown_twice base.raw_amount (gap base.counter base.last r) (gap base.counter r r') _
    base.counter.mult e)

-- so a command after an update has the same effect as without that update, unless it is a resume
effect_alone : (state : State) (r r' : ℕ) (cmd : Command) → is_resume cmd ≡ false →
    forwarded (forwarded state.base r) r' ≡ forwarded state.base r' →
    effect (effect state r Update) r' cmd ≡ effect state r' cmd
effect_alone state r r' Update awake e =
    ap (λ (now : ReadBase). let s : State = record state { base = now } in s) e
effect_alone state r r' (SetTime time) awake e =
    ap (λ (now : ReadBase). let s : State = record state {
      base =
          record now { real_offset = nanoseconds time -ℤ pos (now.amount / 2 ^ now.counter.shift) };
    } in s) e
effect_alone state r r' (Step by) awake e =
    ap (λ (now : ReadBase). let s : State = record state {
      base = record now { real_offset = now.real_offset +ℤ nanoseconds by };
    } in s) e
effect_alone state r r' (Freq frequency) awake e =
    ap (λ (now : ReadBase). let s : State = record state {
      base = record now { mult = multiplier now.counter frequency state.tick };
      frequency = frequency;
    } in s) e
effect_alone state r r' (Tick tick) awake e =
    ap (λ (now : ReadBase). let s : State = record state {
      base = record now { mult = multiplier now.counter state.frequency tick };
      tick = tick;
    } in s) e
effect_alone state r r' (Tai seconds) awake e =
    ap (λ (now : ReadBase). let s : State = record state {
      base = record now { tai = seconds };
    } in s) e
effect_alone state r r' (Leap by tai) awake e =
    ap (λ (now : ReadBase). let s : State = record state {
      base = record now { real_offset = now.real_offset +ℤ by *ℤ pos (10 ^ 9); tai = tai };
    } in s) e
effect_alone state r r' Suspend awake e =
    ap (λ (now : ReadBase). let s : State = record state {
      base = record now { asleep = true };
    } in s) e
effect_alone state r r' (Resume away) awake e = absurd cc

-- the tests of a command, by their results
abbrev tests : Bool → Bool → Bool → Bool → Bool → Bool → Bool → Option Refusal
tests asleep resumes above well behind past bad =
    first_of
    (first_of (if asleep && not resumes then Some Asleep else if not asleep && resumes
    then Some Awake else None)
    (first_of (if above || not well then Some Invalid else None)
    (if not resumes && behind then Some Behind else None)))
    (if past then Some Range else if bad then Some Invalid else None)

-- the facts that follow if the tests of an update pass
passed_update : (asleep above well behind past bad : Bool) →
    tests asleep false above well behind past bad ≡ None → (asleep ≡ false) × (behind ≡ false)
passed_update true above well behind past bad e = absurd cc
passed_update false true well behind past bad e = absurd cc
passed_update false false false behind past bad e = absurd cc
passed_update false false true true past bad e = absurd cc
passed_update false false true false past bad e = (refl, refl)

-- the facts that follow if the tests of any command pass while the clocks are awake
passed_awake : (resumes above well behind past bad : Bool) →
    tests false resumes above well behind past bad ≡ None →
    (resumes ≡ false) × (behind ≡ false)
    × (tests false resumes above well false past bad ≡ None)
passed_awake true above well behind past bad e = absurd cc
passed_awake false true well behind past bad e = absurd cc
passed_awake false false false behind past bad e = absurd cc
passed_awake false false true true past bad e = absurd cc
passed_awake false false true false past bad e = (refl, refl, e)

-- the tests also pass if the test of order and the clocks' values are the same
passing : (resumes above well behind past bad past' bad' : Bool) → behind ≡ false →
    past' ≡ past → bad' ≡ bad → tests false resumes above well false past bad ≡ None →
    tests false resumes above well behind past' bad' ≡ None
passing resumes above well behind past bad past' bad' a b c e = rw (a, b, c) e

-- while awake, a reading that is not behind counts the whole gap
counted : (counter : Counter) (last reading : ℕ) →
    nat_lt (half counter) (gap counter last reading) ≡ false →
    cycles_since counter false last reading ≡ gap counter last reading
counted counter last reading ahead =
    ap (λ b. if b then 0 else gap counter last reading) ahead

-- a setting is judged by MONOTONIC at its reading
same_setting : (base base' : ReadBase) (reading : ℕ) (cmd : Command) →
    base_monotonic base reading ≡ base_monotonic base' reading →
    base.real_offset ≡ base'.real_offset →
    is_bad_setting (λ clock. base_value base clock reading) cmd
    ≡ is_bad_setting (λ clock. base_value base' clock reading) cmd
unfolding is_bad_setting
same_setting base base' reading (SetTime time) e f =
    ap (λ n. int_lt (nanoseconds time) (pos n)) e
same_setting base base' reading (Step by) e f = rw (e, f) refl
same_setting base base' reading Update e f = refl
same_setting base base' reading (Freq frequency) e f = refl
same_setting base base' reading (Tick tick) e f = refl
same_setting base base' reading (Tai seconds) e f = refl
same_setting base base' reading (Leap by tai) e f = rw (e, f) refl
same_setting base base' reading Suspend e f = refl
same_setting base base' reading (Resume away) e f = refl

-- a command that is accepted after an update, and isn't behind without it, is accepted without it
-- and leaves the same state
alone : (state : State) (r r' : ℕ) (cmd : Command) → state_refusal state r Update ≡ None →
    state_refusal (effect state r Update) r' cmd ≡ None →
    gap state.base.counter state.base.last r' ≤ half state.base.counter →
    (state_refusal state r' cmd ≡ None)
    × (effect state r' cmd ≡ effect (effect state r Update) r' cmd)
alone state r r' cmd one two near =
    let base = state.base in
    let counter = base.counter in
    let after = effect state r Update in
    let g = gap counter base.last r in
    let g' = gap counter r r' in
    let all = gap counter base.last r' in
    let ended : State → Bool = λ (s : State).
    is_past_limit (λ clock. base_value s.base clock r') cmd in
    let bad : ReadBase → Bool = λ (b : ReadBase).
    is_bad_setting (λ clock. base_value b clock r') cmd in
    let above = nat_lt (mask counter) r' in
    let first = passed_update base.asleep (nat_lt (mask counter) r) (is_well_formed Update)
    (nat_lt (half counter) g)
    (is_past_limit (λ clock. base_value after.base clock r) Update)
    (is_bad_setting (λ clock. base_value base clock r) Update) one in
    let awake = first.0 in
    let there = subst (λ a. tests a (is_resume cmd) above (is_well_formed cmd)
    (nat_lt (half counter) g') (ended (effect after r' cmd)) (bad after.base) ≡ None) awake two in
    let second = passed_awake (is_resume cmd) above (is_well_formed cmd)
    (nat_lt (half counter) g') (ended (effect after r' cmd)) (bad after.base) there in
    let ahead = first.1 in
    let ahead' = second.1 in
    let low : g ≤ half counter = grind (arith, common_steps, ahead) in
    let low' : g' ≤ half counter = grind (arith, common_steps, ahead') in
    let e = forward_gaps counter base.last r r' low low' in
    let same = effect_alone state r r' cmd second.0 (forwarded_twice base r r' e) in
    let near' : nat_lt (half counter) all ≡ false = le-ltb _ _ near in
    let nanos : ℕ → ℕ → ℕ = λ amount k. (amount + k * base.mult) / 2 ^ counter.shift in
    let before : base_monotonic base r' ≡ nanos base.amount all =
    ap (λ a. nanos base.amount (cycles_since counter a base.last r')) awake
    ∙ ap (nanos base.amount) (counted counter base.last r' near') in
    let later : base_monotonic after.base r' ≡ nanos after.base.amount g' =
    ap (λ a. nanos after.base.amount (cycles_since counter a r r')) awake
    ∙ ap (nanos after.base.amount) (counted counter r r' ahead') in
    let now : base_monotonic base r' ≡ base_monotonic after.base r' =
    before
    ∙ ap (λ n. n / 2 ^ counter.shift) (sym (grown_twice base.amount g g' all base.mult e))
    ∙ sym later in
    let passes_alone = passing (is_resume cmd) above (is_well_formed cmd)
    (nat_lt (half counter) all) (ended (effect after r' cmd)) (bad after.base)
    (ended (effect state r' cmd)) (bad base) near' (ap ended (sym same))
    (same_setting base after.base r' cmd now refl) second.2 in (
      subst (λ a. tests a (is_resume cmd) above (is_well_formed cmd)
          (nat_lt (half counter) all) (ended (effect state r' cmd)) (bad base) ≡ None) (sym awake)
          passes_alone,
      sym same,
    )

-- a single entry is a run
IsRun-one : (journal : Journal) (from : ℕ) → IsAccepted journal → IsRun journal from (from + 1)
IsRun-one journal from all entry here =
    let place : from + 1 - 1 ≡ from = omega arith in
    let there = subst (λ k. slice_get journal.entries k ≡ Some entry) place here in
    (passes journal from entry all there, next_state journal from entry all there)

-- a run continues after an update, with an entry that isn't behind the run's beginning
IsRun-more : (journal : Journal) (from next : ℕ) (entry later : Entry) → IsAccepted journal →
    IsRun journal from next → next - 1 < length journal.entries →
    entry ≡ get_or journal.entries (next - 1) entry → entry.cmd ≡ Update →
    later ≡ get_or journal.entries next later →
    gap journal.opening.counter (state_of (prefix from journal)).base.last later.reading
    ≤ half journal.opening.counter →
    IsRun journal from (next + 1)
IsRun-more journal from next entry later all held within e update e' near any here =
    let state = state_of (prefix from journal) in
    let place : next + 1 - 1 ≡ next = omega arith in
    let there = subst (λ k. slice_get journal.entries k ≡ Some any) place here in
    let same = e' ∙ get_or_from_slice_get journal.entries next any later there in
    let near' = subst (λ (x : Entry). gap journal.opening.counter state.base.last x.reading
    ≤ half journal.opening.counter) same near in
    let led = held entry (listed_item journal.entries (next - 1) entry within e) in
    let passed = ap (λ cmd. state_refusal state entry.reading cmd) (sym update) ∙ led.0 in
    let left : effect state entry.reading Update ≡ state_of (prefix next journal) =
    ap (λ cmd. effect state entry.reading cmd) (sym update) ∙ led.1 in
    let accepted = ap (λ s. state_refusal s any.reading any.cmd) left
    ∙ passes journal next any all there in
    let both = alone state entry.reading any.reading any.cmd passed accepted near' in (
      both.0,
      both.1 ∙ ap (λ s. effect s any.reading any.cmd) left
          ∙ next_state journal next any all there,
    )

pub AreRuns-one : (journal : Journal) (from : ℕ) → IsAccepted journal →
    AreRuns journal from (from + 1)
AreRuns-one journal from all place later last =
    let only : from + 1 ≡ place = omega arith in
    subst (IsRun journal from) only (IsRun-one journal from all)

pub AreRuns-more : (journal : Journal) (from next : ℕ) (entry later : Entry) → IsAccepted journal →
    AreRuns journal from next → from < next → next - 1 < length journal.entries →
    entry ≡ get_or journal.entries (next - 1) entry → entry.cmd ≡ Update →
    later ≡ get_or journal.entries next later →
    gap journal.opening.counter (state_of (prefix from journal)).base.last later.reading
    ≤ half journal.opening.counter →
    AreRuns journal from (next + 1)
AreRuns-more journal from next entry later all held some within e update e' near place above last =
    elim (cases_lt place (next + 1)) [
      | inl low ↦ held place above (omega arith)
      | inr high ↦
          let end : next + 1 ≡ place = omega arith in
          let far : next ≤ next = omega arith in
          subst (IsRun journal from) end
          (IsRun-more journal from next entry later all (held next some far) within e update e'
          near)
    ]
