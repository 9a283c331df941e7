-- Journals with the same state agree, now and after every command.
use Rattle.std.proofs.Common.{◌≡◌, ◌∙◌, ℕ, refl, sym, ap, arith}
use Rattle.std.specs.Prelude.{None}
use Rattle.std.proofs.lemmas.List.{length_push}
use Rattle.tk_clock.specs.declared.clock_id.ClockId.{ClockId}
use Rattle.tk_clock.specs.declared.command.Entry.{Entry}
use Rattle.tk_clock.specs.Clocks.{clock_value}
use Rattle.tk_clock.specs.Folding.{IsAlike}
use Rattle.tk_clock.specs.Journal.{Journal, followed_by, accepted_count}
use Rattle.tk_clock.specs.Monotonic.{monotonic}
use Rattle.tk_clock.specs.Refusal.{clock_refusal, state_refusal}
use Rattle.tk_clock.specs.Snapshot.{Snapshot, snapshot_of}
use Rattle.tk_clock.specs.State.{ReadBase, State, state_of, base_value, base_monotonic}
use Rattle.tk_clock.proofs.Ledger.{base_value-base_of, clock_refusal-state}
use Rattle.tk_clock.proofs.Legal.{state_of-followed_by}

-- all clocks have the same values at all readings
pub clock_value-alike : (journal other : Journal) → state_of journal ≡ state_of other →
    (clock : ClockId) (reading : ℕ) →
    clock_value journal clock reading ≡ clock_value other clock reading
clock_value-alike journal other same clock reading =
    sym (base_value-base_of journal clock reading)
    ∙ ap (λ (s : State). base_value s.base clock reading) same
    ∙ base_value-base_of other clock reading

pub monotonic-alike : (journal other : Journal) → state_of journal ≡ state_of other →
    (reading : ℕ) → monotonic journal reading ≡ monotonic other reading
monotonic-alike journal other same reading = ap (λ (s : State). base_monotonic s.base reading) same

-- both refuse a command for the same reason
pub clock_refusal-alike : (journal other : Journal) → state_of journal ≡ state_of other →
    (entry : Entry) → clock_refusal journal entry ≡ clock_refusal other entry
clock_refusal-alike journal other same entry =
    clock_refusal-state journal entry.who entry.reading entry.cmd
    ∙ ap (λ s. state_refusal s entry.reading entry.cmd) same
    ∙ sym (clock_refusal-state other entry.who entry.reading entry.cmd)

-- an accepted command leaves the same state in both
pub state_of-next : (journal other : Journal) → state_of journal ≡ state_of other →
    (entry : Entry) → clock_refusal journal entry ≡ None →
    state_of (followed_by journal entry) ≡ state_of (followed_by other entry)
state_of-next journal other same entry accepted =
    let passes : state_refusal (state_of journal) entry.reading entry.cmd ≡ None =
    sym (clock_refusal-state journal entry.who entry.reading entry.cmd) ∙ accepted in
    sym (state_of-followed_by journal (state_of journal) entry.who entry.reading entry.cmd refl
    passes)
    ∙ state_of-followed_by other (state_of journal) entry.who entry.reading entry.cmd same passes

-- a journal agrees with itself
pub IsAlike-self : (journal : Journal) → IsAlike journal journal
IsAlike-self journal = record { state = refl; count = refl }

-- if a agrees with b and b agrees with c, a agrees with c
pub IsAlike-trans : (a b c : Journal) → IsAlike a b → IsAlike b c → IsAlike a c
IsAlike-trans a b c first second =
    record { state = first.state ∙ second.state; count = first.count ∙ second.count }

-- they still agree after one more accepted entry
pub IsAlike-followed_by : (journal other : Journal) → IsAlike journal other →
    (entry : Entry) → clock_refusal journal entry ≡ None →
    IsAlike (followed_by journal entry) (followed_by other entry)
IsAlike-followed_by journal other alike entry accepted = record {
  state = state_of-next journal other alike.state entry accepted;
  count = omega (
    arith,
    alike.count,
    length_push journal.entries entry,
    length_push other.entries entry,
  );
}

-- journals that agree have the same snapshot
pub snapshot_of-alike : (journal other : Journal) → IsAlike journal other →
    snapshot_of journal ≡ snapshot_of other
snapshot_of-alike journal other alike =
    let stated : ℕ → ReadBase → Snapshot = λ k b. record { front = k; base = b } in
    ap (λ k. stated k (state_of journal).base) alike.count
    ∙ ap (λ (s : State). stated (accepted_count other) s.base) alike.state
