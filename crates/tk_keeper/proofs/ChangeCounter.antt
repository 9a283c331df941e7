-- The journal after a change of counter.
use Rattle.std.proofs.Common.{◌≡◌, ℕ, ◌+◌, ◌^◌, ◌<◌, ◌≤◌, List, [], refl, sym, ◌∙◌, ap, subst, arith, Bool, inr}
use Rattle.std.specs.Prelude.{Some, None, if◌then◌else◌}
use Rattle.std.proofs.lemmas.Bool.{lt-leb, le-leb}
use Rattle.std.proofs.lemmas.Nat.{pow_pos}
use Rattle.tk_counter.specs.Counter.{Counter, multiplier, gap}
use Rattle.tk_counter.proofs.Gaps.{gap-self}
use Rattle.tk_clock.specs.declared.command.Entry.{Entry}
use Rattle.tk_clock.specs.declared.refusal.Refusal.TheVariants.{Full}
use Rattle.tk_clock.specs.ChangeCounter.{changed, change_refusal, IsUpTo}
use Rattle.tk_clock.specs.Folding.{journal_from}
use Rattle.tk_clock.specs.Journal.{Journal, accepted_count, last_reading}
use Rattle.tk_clock.specs.Legal.{Beginning, IsStart, folded_opening}
use Rattle.tk_clock.specs.Limits.{counted_most}
use Rattle.tk_clock.specs.Monotonic.{monotonic}
use Rattle.tk_clock.specs.State.{State, state_of, base_of, base_value, base_monotonic}
use Rattle.tk_clock.proofs.ChangeCounter.{KeepsTimes-changed, NeverFallsOver-changed}
use Rattle.tk_clock.proofs.ChangeLegal.{IsLegal-begun}
use Rattle.tk_clock.proofs.Ledger.{base_value-base_of}
use Rattle.tk_clock.proofs.Monotone.{never_falls}
use Rattle.tk_clock.proofs.Start.{state_of-begun}
use Rattle.tk_keeper.specs.ChangeCounter.{changed_by, counter_refusal, AgreesOver, RisesOver}
use Rattle.tk_keeper.specs.Keeper.{Keeper, IsKept, HasKept}

-- it has the state to which the clocks were changed
pub state_of-changed_by : (journal : Journal) (reading : ℕ) (counter : Counter) (first : ℕ) →
    state_of (changed_by journal reading counter first)
    ≡ changed (state_of journal) reading counter first
state_of-changed_by journal reading counter first =
    state_of-begun (accepted_count journal + 1) (changed (state_of journal) reading counter first)
    refl

-- the running clocks are those of the keeper's journal
pub running-shown : (began : Beginning) (folded spare : ℕ) (start clock : State) (entries : List Entry)
    (keeper : Keeper) →
    record { journal = journal_from folded start entries; began = began; spare = spare } ≡ keeper →
    IsKept began (journal_from folded start entries) clock → clock ≡ state_of keeper.journal
running-shown began folded spare start clock entries keeper shows held =
    held.running ∙ ap (λ (k : Keeper). state_of k.journal) shows

-- a change that the running clocks accept is accepted in the journal's state
pub accepted-shown : (journal : Journal) (clock after : State) (reading : ℕ) (counter : Counter)
    (first : ℕ) → clock ≡ state_of journal →
    (change_refusal clock reading counter first ≡ None)
    × (after ≡ changed clock reading counter first) →
    (change_refusal (state_of journal) reading counter first ≡ None)
    × (after ≡ changed (state_of journal) reading counter first)
accepted-shown journal clock after reading counter first running stated =
    subst
    (λ (s : State). (change_refusal s reading counter first ≡ None)
    × (after ≡ changed s reading counter first))
    running stated

-- a change that the running clocks accept gives the journal that is stated
pub changed-shown : (began : Beginning) (folded spare : ℕ) (start clock : State) (entries : List Entry)
    (keeper : Keeper) →
    record { journal = journal_from folded start entries; began = began; spare = spare } ≡ keeper →
    IsKept began (journal_from folded start entries) clock →
    (after : State) (reading : ℕ) (counter : Counter) (first : ℕ) (journal : Journal) →
    (change_refusal clock reading counter first ≡ None)
    × (after ≡ changed clock reading counter first) →
    journal ≡ journal_from (accepted_count keeper.journal + 1) after [] →
    (change_refusal (state_of keeper.journal) reading counter first ≡ None)
    × (journal ≡ changed_by keeper.journal reading counter first)
changed-shown began folded spare start clock entries keeper shows held after reading counter first journal
    stated begun =
    let shown = accepted-shown keeper.journal clock after reading counter first
    (running-shown began folded spare start clock entries keeper shows held) stated in (
      shown.0,
      begun ∙ ap (λ (s : State). journal_from (accepted_count keeper.journal + 1) s []) shown.1,
    )

-- a journal that may count one more command refuses a change as its clocks do
pub counter_refusal-room : (journal : Journal) (reading : ℕ) (counter : Counter) (first : ℕ) →
    accepted_count journal < counted_most →
    counter_refusal journal reading counter first
    ≡ change_refusal (state_of journal) reading counter first
counter_refusal-room journal reading counter first room =
    ap (λ (b : Bool). if b then Some Full else change_refusal (state_of journal) reading counter first)
    (lt-leb counted_most (accepted_count journal) room)

pub counter_refusal-full : (journal : Journal) (reading : ℕ) (counter : Counter) (first : ℕ) →
    counted_most ≤ accepted_count journal →
    counter_refusal journal reading counter first ≡ Some Full
counter_refusal-full journal reading counter first full =
    ap (λ (b : Bool). if b then Some Full else change_refusal (state_of journal) reading counter first)
    (le-leb counted_most (accepted_count journal) full)

pub AgreesOver-changed : (journal : Journal) (reading : ℕ) (counter : Counter) (first : ℕ) →
    change_refusal (state_of journal) reading counter first ≡ None →
    AgreesOver journal reading (changed_by journal reading counter first) first
AgreesOver-changed journal reading counter first accepted =
    let after = changed_by journal reading counter first in
    let times = KeepsTimes-changed (state_of journal) reading counter first accepted in
    λ clock fine.
    sym (base_value-base_of journal clock reading)
    ∙ sym (times.read clock fine)
    ∙ ap (λ (s : State). base_value s.base clock first)
    (sym (state_of-changed_by journal reading counter first))
    ∙ base_value-base_of after clock first

up_to : (journal : Journal) (change : ℕ) (counter : Counter) (first reading reading' : ℕ) →
    IsUpTo (base_of journal) change reading →
    monotonic journal reading ≤ monotonic (changed_by journal change counter first) reading'
up_to journal change counter first reading reading' near =
    subst (λ (s : State). monotonic journal reading ≤ base_monotonic s.base reading')
    (sym (state_of-changed_by journal change counter first))
    (NeverFallsOver-changed (state_of journal) change counter first reading reading' near)

chain : (a b c : ℕ) → a ≤ b → b ≤ c → a ≤ c
chain a b c p q = omega arith

-- the last command's reading is up to the change
last-up_to : (journal : Journal) (change : ℕ) →
    IsUpTo (base_of journal) change (last_reading journal)
last-up_to journal change =
    let counter = journal.opening.counter in
    let last = last_reading journal in
    let none : gap counter last last ≡ 0 = gap-self (2 ^ counter.bits) last (pow_pos counter.bits) in
    inr (inr (omega (arith, none)))

pub RisesOver-changed : (journal : Journal) (change : ℕ) (counter : Counter) (first : ℕ) →
    RisesOver journal change (changed_by journal change counter first)
RisesOver-changed journal change counter first = record {
  whole = λ reading reading' near. up_to journal change counter first reading reading' near;
  prefixes = λ n reading reading' within life.
      chain _ _ _ (never_falls journal n reading (last_reading journal) within life)
      (up_to journal change counter first (last_reading journal) reading'
      (last-up_to journal change));
}

-- the kept states of such a journal, and its own limits
pub IsKept-begun : (began : Beginning) (count : ℕ) (state : State) →
    IsStart began (folded_opening count state) →
    state.base.mult ≡ multiplier state.base.counter state.frequency state.tick →
    count ≤ counted_most → IsKept began (journal_from count state []) state
IsKept-begun began count state starts steered few =
    record {
      legal = IsLegal-begun began count state starts steered;
      running = sym (state_of-begun count state steered);
      room = omega arith;
      counted = omega (arith, few);
    }

pub HasKept-begun : (count : ℕ) (state : State) →
    state.base.mult ≡ multiplier state.base.counter state.frequency state.tick →
    HasKept (journal_from count state []) state []
HasKept-begun count state steered =
    record {
      first = sym (state_of-begun count state steered);
      all = omega arith;
      stated = λ i place there found here. absurd (cc found);
    }
