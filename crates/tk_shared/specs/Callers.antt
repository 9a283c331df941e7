-- The knowledge of a caller, and the knowledge that a command adds.
use Rattle.std.specs.Prelude.{◌≡◌, ◌⊎◌, ℕ, zero, suc, ◌+◌, ◌-◌, ◌<◌, ◌≤◌, ◌==◌, max, List, [], ◌∷◌, ◌++◌, length, count_by, Some, None}
use mathlib.Core.List.{IsPrefix}
use Rattle.tk_counter.specs.Counter.{mask}
use Rattle.tk_clock.specs.declared.command.Command.{Command}
use Rattle.tk_clock.specs.declared.command.Entry.{Entry}
use Rattle.tk_clock.specs.declared.refusal.Refusal.{Refusal}
use Rattle.tk_clock.specs.declared.refusal.Refusal.TheVariants.{Full, Memory}
use Rattle.tk_clock.specs.Journal.{Journal, followed_by}
use Rattle.tk_clock.specs.Legal.{IsWhole}
use Rattle.tk_clock.specs.Life.{NeverFalls}
use Rattle.tk_clock.specs.Limits.{listed_most, counted_most}
use Rattle.tk_clock.specs.Monotonic.{monotonic}
use Rattle.tk_clock.specs.Refusal.{clock_refusal}
use Rattle.tk_clock.specs.Snapshot.{Snapshot, snapshot_of}
use Rattle.tk_keeper.specs.Keeper.{ReadsAs}
use Rattle.tk_page.specs.History.{Begins, Sight}
use Rattle.tk_now.specs.Life.{AreReadings}
use Rattle.tk_now.specs.Moments.{AreInLife, AreInOrder, AreInTurn}
use Rattle.tk_now.specs.Views.{Noticed, opened_notice_writer, opened_notice_reader}
use Rattle.tk_latch.specs.Latch.{LatchId, Learnt, mark_of, opened_reader}
use Rattle.tk_shared.specs.Folds.{NoticeIds}
use Rattle.tk_shared.specs.History.{AreSnapshots}

-- a caller: its number, the number of its accepted commands, the number of its reads of the page,
-- the history as far as it has seen it, the publications of the latch that it knows, the readings
-- that it knows of from the notice, and the number of folded entries that it knows of
pub record Known : Type 0 where
  pub id : ℕ
  pub accepted : ℕ
  pub reads : ℕ
  pub seen : Journal
  pub learnt : Learnt
  pub noticed : Noticed
  pub folded : ℕ

-- a caller, by its number, its count of accepted commands, and its knowledge from the page, the
-- latch, the notice and the list of folds
abbrev pub known_of : ℕ → ℕ → Sight → Learnt → Noticed → ℕ → Known
known_of id accepted sight learnt noticed folded = record {
  id = id;
  accepted = accepted;
  reads = sight.reads;
  seen = sight.journal;
  learnt = learnt;
  noticed = noticed;
  folded = folded;
}

-- the number of these entries that a caller made
abbrev pub made_by : ℕ → List Entry → ℕ
made_by id entries = count_by (λ entry. entry.who == id) entries

-- a command of a caller at a reading, as an entry
abbrev pub entry_of : Known → ℕ → Command → Entry
entry_of caller reading cmd = record { who = caller.id; reading = reading; cmd = cmd }

-- a command changes neither the number of a caller, nor the opening of the history that it has
-- seen, nor the number of its reads
abbrev pub IsSameCaller : Known → Known → Type 0
IsSameCaller old new =
    (new.id ≡ old.id) × (new.seen.opening ≡ old.seen.opening) × (new.reads ≡ old.reads)

-- all that one caller knows, the other knows too
pub record IsKnownBy (one other : Known) : Type 0 where
  pub seen : Begins one.seen other.seen
  pub learnt : IsPrefix one.learnt.publications other.learnt.publications
  pub commands : IsPrefix one.noticed.commands other.noticed.commands
  pub log : IsPrefix one.noticed.log other.noticed.log
  pub folded : one.folded ≤ other.folded

-- a caller learnt under the lock how many entries are folded: no fewer than it knew of, and some of
-- those that it has seen now
pub record HasLearntFolds (old new : Known) : Type 0 where
  pub more : old.folded ≤ new.folded
  pub within : new.folded ≤ length new.seen.entries

-- a call that read the page once, and returned the snapshot of the history that the caller has now
-- seen, which extends the former one. The snapshot's clocks are the history's. Nothing else of the
-- caller changed
pub record HasRead (old new : Known) (snapshot : Snapshot) : Type 0 where
  pub reads : new.reads ≡ old.reads + 1
  pub extends : Begins old.seen new.seen
  pub answer : snapshot ≡ snapshot_of new.seen
  pub clocks : ReadsAs new.seen snapshot.base
  pub id : new.id ≡ old.id
  pub accepted : new.accepted ≡ old.accepted
  pub learnt : new.learnt ≡ old.learnt
  pub noticed : new.noticed ≡ old.noticed
  pub folded : new.folded ≡ old.folded

-- a caller that was informed of everything under the lock: it has seen a whole history, and knows
-- all of its snapshots and the readings of all of its commands, in order. All callers' readings so
-- far are in their lives among those commands, each over before the next one
pub record IsInformed (caller : Known) : Type 0 where
  pub whole : IsWhole caller.seen
  pub mark : mark_of caller.learnt.publications ≡ length caller.seen.entries
  pub snapshots : AreSnapshots caller.seen caller.learnt.publications
  pub readings : AreReadings caller.seen caller.noticed.commands
  pub order : AreInOrder caller.noticed.commands
  pub life : AreInLife caller.noticed.commands caller.noticed.log
  pub turn : AreInTurn caller.noticed.log

-- a caller whose command was accepted with this number: the history that it has seen is the history
-- before the command with this one entry more. It was informed of everything
pub record IsAccepted (old new : Known) (cmd : Command) (answer : ℕ) : Type 0 where
  pub before : Journal
  pub reading : ℕ
  pub extends : Begins old.seen before
  pub last : new.seen ≡ followed_by before (entry_of old reading cmd)
  pub counted : new.accepted ≡ old.accepted + 1
  -- MONOTONIC at the reading is the same before and after, and no shorter history, read in its
  -- life, gives more than this one at any reading
  pub agrees : monotonic before reading ≡ monotonic new.seen reading
  pub rises : NeverFalls new.seen
  -- the number is the number of entries, and greater than the number that it knew of from page or
  -- latch
  pub number : answer ≡ length new.seen.entries
  pub newer : length old.seen.entries < answer
  pub beyond : mark_of old.learnt.publications < answer
  pub mark : mark_of new.learnt.publications ≡ answer
  pub informed : IsInformed new
  pub known : IsKnownBy old new
  pub folds : HasLearntFolds old new

-- a journal of this history is full when this number of entries is folded: it lists the most
-- entries that it may, without the folded ones, or counts the most that it may
abbrev pub IsFullAfter : ℕ → Journal → Type 0
IsFullAfter folded history = (listed_most + folded ≤ length history.entries)
    ⊎ (counted_most ≤ length history.entries)

-- why an entry is refused after a whole history of which this number of entries is folded: Full only
-- if its journal is full, Memory only if there is no other reason
abbrev pub IsRefusalAfter : ℕ → Journal → Entry → Refusal → Type 0
IsRefusalAfter folded history entry Full = IsFullAfter folded history
IsRefusalAfter folded history entry Memory = clock_refusal history entry ≡ None
IsRefusalAfter folded history entry refusal = clock_refusal history entry ≡ Some refusal

-- a caller whose command was refused, after the history that it has seen now, and of which it knows
-- now how many entries are folded
pub record IsRefused (old new : Known) (cmd : Command) (refusal : Refusal) : Type 0 where
  pub reading : ℕ
  pub masked : reading ≤ mask new.seen.opening.counter
  pub extends : Begins old.seen new.seen
  pub whole : IsWhole new.seen
  pub folds : HasLearntFolds old new
  pub reason : IsRefusalAfter new.folded new.seen (entry_of old reading cmd) refusal
  pub counted : new.accepted ≡ old.accepted
  pub learnt : new.learnt ≡ old.learnt
  pub noticed : new.noticed ≡ old.noticed

-- a caller that folded a history until it listed at most `keep` entries: before, `before` entries
-- were folded, and no fewer than it knew of. The answer is their number now, and the caller knows it
pub record IsFolded (old new : Known) (keep number : ℕ) : Type 0 where
  pub before : ℕ
  pub known : old.folded ≤ before
  pub answer : number ≡ max before (length new.seen.entries - keep)
  pub now : new.folded ≡ number
  pub folds : HasLearntFolds old new

-- a caller of a keeper that was just opened
abbrev pub newcomer : LatchId → NoticeIds → Journal → ℕ → Known
newcomer latch notice opened id = record {
  id = id;
  accepted = 0;
  reads = 0;
  seen = opened;
  learnt = opened_reader latch (snapshot_of opened);
  noticed = opened_notice_reader (opened_notice_writer notice.commands opened.opening.reading);
  folded = 0;
}

-- `count` of them, with the numbers 0, 1, and so on
abbrev pub newcomers : LatchId → NoticeIds → Journal → ℕ → List Known
newcomers latch notice opened zero = []
newcomers latch notice opened (suc count) =
    newcomers latch notice opened count ++ newcomer latch notice opened count ∷ []
