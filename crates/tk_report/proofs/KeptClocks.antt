-- Clocks that list no command give the replies of every journal with which they agree.
use Rattle.std.proofs.Common.{◌≡◌, ◌∙◌, ℕ, ◌+◌, ◌-◌, ◌<◌, ◌≤◌, length, refl, sym, ap, subst, arith, Bool, false}
use Rattle.std.specs.Prelude.{Option, Some, None, Result, Ok, Err, nat_le, ◌||◌, if◌then◌else◌}
use Rattle.std.proofs.lemmas.Bool.{le-leb, lt-leb}
use Rattle.std.proofs.lemmas.List.{length_push}
use Rattle.tk_counter.specs.Counter.{Counter}
use Rattle.tk_clock.specs.declared.command.Entry.{Entry}
use Rattle.tk_clock.specs.declared.refusal.Refusal.{Refusal}
use Rattle.tk_clock.specs.declared.refusal.Refusal.TheVariants.{Full}
use Rattle.tk_clock.specs.ChangeCounter.{changed, change_refusal}
use Rattle.tk_clock.specs.Journal.{Journal, accepted_count, followed_by}
use Rattle.tk_clock.specs.Limits.{counted_most, listed_most}
use Rattle.tk_clock.specs.Refusal.{clock_refusal, is_full, state_refusal}
use Rattle.tk_clock.specs.Run.{reply_if}
use Rattle.tk_clock.specs.Snapshot.{Snapshot, snapshot_of}
use Rattle.tk_clock.specs.State.{ReadBase, State, state_of}
use Rattle.tk_clock.proofs.Ledger.{clock_refusal-state}
use Rattle.tk_clock.proofs.Refusals.{first_refusal-room}
use Rattle.tk_clock.proofs.Start.{state_of-begun}
use Rattle.tk_clock.proofs.Stretches.{last_reading-followed_by}
use Rattle.tk_keeper.specs.ChangeCounter.{counter_refusal}
use Rattle.tk_keeper.proofs.ChangeCounter.{counter_refusal-full, counter_refusal-room}
use Rattle.tk_script.specs.Start.{journal_at}
use Rattle.tk_report.specs.declared.plain_start.PlainStart.{PlainStart}
use Rattle.tk_report.specs.Beginnings.{start_of}
use Rattle.tk_report.specs.CountedClocks.{Counted, IsKept, IsReplied, most_of}
use Rattle.tk_report.specs.Folding.{rule_of}
use Rattle.tk_report.specs.Report.{change_if, change_reply, reply_by}
use Rattle.tk_report.proofs.Beginnings.{count-at}

-- clocks with the count and the state of the journal with which a script begins
pub IsKept-begun : (keep : Option ℕ) (plain : PlainStart) (clock : State) (count most : ℕ) →
    clock ≡ state_of (journal_at (start_of plain)) →
    count ≡ accepted_count (journal_at (start_of plain)) → most ≡ most_of keep →
    IsKept keep (record { clock = clock; count = count; since = count; most = most })
    (journal_at (start_of plain))
IsKept-begun keep plain clock count most state number limit = record {
  clock = state;
  count = number;
  since = number ∙ count-at plain;
  most = limit;
}

-- their snapshot is the journal's
pub snapshot-kept : (keep : Option ℕ) (clocks : Counted) (journal : Journal) →
    IsKept keep clocks journal →
    record { front = clocks.count; base = clocks.clock.base } ≡ snapshot_of journal
snapshot-kept keep clocks journal kept =
    let put : ℕ → ReadBase → Snapshot = λ n b. record { front = n; base = b } in
    ap (λ n. put n clocks.clock.base) kept.count
    ∙ ap (λ (s : State). put (accepted_count journal) s.base) kept.clock

-- both refuse the same commands
not_full : (journal : Journal) → length journal.entries < listed_most →
    accepted_count journal < counted_most → is_full journal ≡ false
not_full journal listed counted =
    let number = accepted_count journal in
    ap (λ (b : Bool). b || nat_le counted_most number)
    (lt-leb listed_most (length journal.entries) listed)
    ∙ lt-leb counted_most number counted

refusal-clocks : (keep : Option ℕ) (clocks : Counted) (journal : Journal) (entry : Entry) →
    IsKept keep clocks journal →
    clock_refusal journal entry ≡ state_refusal clocks.clock entry.reading entry.cmd
refusal-clocks keep clocks journal entry kept =
    clock_refusal-state journal entry.who entry.reading entry.cmd
    ∙ ap (λ (s : State). state_refusal s entry.reading entry.cmd) (sym kept.clock)

pub rule-room : (keep : Option ℕ) (clocks : Counted) (journal : Journal) (entry : Entry) →
    IsKept keep clocks journal → clocks.count < counted_most →
    clocks.count - clocks.since < clocks.most →
    rule_of keep journal entry ≡ state_refusal clocks.clock entry.reading entry.cmd
rule-room None clocks journal entry kept few room =
    let listed : length journal.entries < listed_most =
    omega (arith, kept.count, kept.since, kept.most, room) in
    let counted : accepted_count journal < counted_most = omega (arith, kept.count, few) in
    first_refusal-room journal entry (not_full journal listed counted)
    ∙ refusal-clocks None clocks journal entry kept
rule-room (Some keep) clocks journal entry kept few room =
    refusal-clocks (Some keep) clocks journal entry kept

pub rule-full : (keep : Option ℕ) (clocks : Counted) (journal : Journal) (entry : Entry) →
    IsKept keep clocks journal → clocks.count < counted_most →
    clocks.most ≤ clocks.count - clocks.since → rule_of keep journal entry ≡ Some Full
rule-full None clocks journal entry kept few full =
    let listed : listed_most ≤ length journal.entries =
    omega (arith, kept.count, kept.since, kept.most, full) in
    ap (λ (b : Bool). if b || nat_le counted_most (accepted_count journal) then Some Full
    else clock_refusal journal entry)
    (le-leb listed_most (length journal.entries) listed)
rule-full (Some keep) clocks journal entry kept few full =
    absurd (omega (arith, kept.most, few, full))

-- a refused command leaves the clocks unchanged
pub IsReplied-refused : (keep : Option ℕ) (clocks : Counted) (journal : Journal) (entry : Entry)
    (refusal : Refusal) → IsKept keep clocks journal →
    rule_of keep journal entry ≡ Some refusal →
    IsReplied keep entry.reading (Err refusal) clocks (reply_by (rule_of keep) journal entry)
IsReplied-refused keep clocks journal entry refusal kept refused =
    subst (λ (r : Option Refusal).
    IsReplied keep entry.reading (Err refusal) clocks (reply_if journal entry r))
    (sym refused) (record { answer = refl; kept = kept; last = tt })

-- an accepted one brings them forward
pub IsReplied-accepted : (keep : Option ℕ) (clocks : Counted) (after : State) (journal : Journal)
    (entry : Entry) → IsKept keep clocks journal → rule_of keep journal entry ≡ None →
    after ≡ state_of (followed_by journal entry) →
    IsReplied keep entry.reading (Ok (clocks.count + 1))
    (record clocks { clock = after; count = clocks.count + 1 })
    (reply_by (rule_of keep) journal entry)
IsReplied-accepted keep clocks after journal entry kept passed state =
    let next : Counted = record clocks { clock = after; count = clocks.count + 1 } in
    let answer : Result ℕ Refusal = Ok (clocks.count + 1) in
    subst (λ (r : Option Refusal).
    IsReplied keep entry.reading answer next (reply_if journal entry r))
    (sym passed) (record {
      answer = ap (λ n. let told : Result ℕ Refusal = Ok (n + 1) in told) (sym kept.count);
      kept = record {
        clock = state;
        count = omega (arith, kept.count, length_push journal.entries entry);
        since = kept.since;
        most = kept.most;
      };
      last = last_reading-followed_by journal entry;
    })

-- both refuse the same changes of counter
pub change-room : (keep : Option ℕ) (clocks : Counted) (journal : Journal) (reading : ℕ)
    (counter : Counter) (first : ℕ) → IsKept keep clocks journal → clocks.count < counted_most →
    counter_refusal journal reading counter first
    ≡ change_refusal clocks.clock reading counter first
change-room keep clocks journal reading counter first kept few =
    let counted : accepted_count journal < counted_most = omega (arith, kept.count, few) in
    counter_refusal-room journal reading counter first counted
    ∙ ap (λ (s : State). change_refusal s reading counter first) (sym kept.clock)

pub change-full : (keep : Option ℕ) (clocks : Counted) (journal : Journal) (reading : ℕ)
    (counter : Counter) (first : ℕ) → IsKept keep clocks journal → counted_most ≤ clocks.count →
    counter_refusal journal reading counter first ≡ Some Full
change-full keep clocks journal reading counter first kept full =
    counter_refusal-full journal reading counter first (omega (arith, kept.count, full))

pub IsReplied-unchanged : (keep : Option ℕ) (clocks : Counted) (journal : Journal) (reading : ℕ)
    (counter : Counter) (first : ℕ) (refusal : Refusal) → IsKept keep clocks journal →
    counter_refusal journal reading counter first ≡ Some refusal →
    IsReplied keep first (Err refusal) clocks (change_reply journal reading counter first)
IsReplied-unchanged keep clocks journal reading counter first refusal kept refused =
    subst (λ (r : Option Refusal).
    IsReplied keep first (Err refusal) clocks (change_if journal reading counter first r))
    (sym refused) (record { answer = refl; kept = kept; last = tt })

pub IsReplied-changed : (keep : Option ℕ) (clocks : Counted) (after : State) (journal : Journal)
    (reading : ℕ) (counter : Counter) (first : ℕ) → IsKept keep clocks journal →
    counter_refusal journal reading counter first ≡ None →
    after ≡ changed clocks.clock reading counter first →
    IsReplied keep first (Ok (clocks.count + 1))
    (record clocks { clock = after; count = clocks.count + 1; since = clocks.count + 1 })
    (change_reply journal reading counter first)
IsReplied-changed keep clocks after journal reading counter first kept passed state =
    let number = clocks.count + 1 in
    let next : Counted = record clocks { clock = after; count = number; since = number } in
    let answer : Result ℕ Refusal = Ok number in
    subst (λ (r : Option Refusal).
    IsReplied keep first answer next (change_if journal reading counter first r))
    (sym passed) (record {
      answer = ap (λ n. let told : Result ℕ Refusal = Ok (n + 1) in told) (sym kept.count);
      kept = record {
        clock = state
            ∙ ap (λ (s : State). changed s reading counter first) kept.clock
            ∙ sym (state_of-begun (accepted_count journal + 1)
            (changed (state_of journal) reading counter first) refl);
        count = omega (arith, kept.count);
        since = ap (λ n. n + 1) kept.count;
        most = kept.most;
      };
      last = refl;
    })
