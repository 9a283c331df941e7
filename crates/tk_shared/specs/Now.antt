-- The time now: a reading of a shared counter, converted by the snapshot of the history at its place.
use Rattle.std.specs.Prelude.{◌≡◌, ℕ, ◌%◌, ◌^◌, ◌<◌, pos, ◌≤ℤ◌, length, MatchResult, Result, Some, None}
use mathlib.Core.List.{IsPrefix}
use Rattle.tk_clock.specs.declared.clock_id.ClockId.{ClockId}
use Rattle.tk_clock.specs.declared.refusal.ReadError.{ReadError}
use Rattle.tk_clock.specs.declared.timespec.Timespec.{Timespec}
use Rattle.tk_clock.specs.Refusal.{read_refusal}
use Rattle.tk_clock.specs.Snapshot.{Snapshot}
use Rattle.tk_clock.specs.Journal.{Journal}
use Rattle.tk_clock.specs.State.{ReadBase, base_of, base_value}
use Rattle.tk_clock.specs.Time.{nanoseconds}
use Rattle.tk_latch.specs.Latch.{Learnt, IsRead, IsMoved}
use Rattle.tk_now.specs.Moments.{AreInLife, AreInOrder, IsBusy, IsTimed}
use Rattle.tk_now.specs.Views.{Noticed}
use Rattle.tk_shared.specs.Callers.{Known}
use Rattle.tk_shared.specs.declared.now_fault.NowFault.{NowFault}
use Rattle.tk_shared.specs.declared.now_fault.NowFault.TheVariants.{Refused, Moved, Busy, Late, Ahead}

-- a clock's time at a reading
abbrev pub IsTimeAt : ReadBase → ClockId → ℕ → Timespec → Type 0
IsTimeAt base clock reading time = (read_refusal base clock reading ≡ None)
    × (nanoseconds time ≡ base_value base clock reading) × (time.nsec < 10 ^ 9)
    × (pos 0 ≤ℤ time.sec)

module _ {S : Type 0} (answers : S → ℕ → ℕ → Type 0) (counter : S) (learnt learnt' : Learnt)
    (noticed noticed' : Noticed) where
  -- this call read a whole publication from the latch. Then, between two loads of the notice that
  -- found no command in progress, it took a reading, whose place is the publication's number. The
  -- reading is used modulo 2^bits. All readings that the notice's reader knows of are in their lives
  -- among the commands that it knows of
  pub record IsTaken (snapshot : Snapshot) (reading : ℕ) : Type 0 where
    pub read : IsRead learnt learnt' snapshot
    pub answer : ℕ
    pub timed : IsTimed answers counter noticed noticed' snapshot.front answer
    pub masked : reading ≡ answer % 2 ^ snapshot.base.counter.bits
    pub order : AreInOrder noticed'.commands
    pub life : AreInLife noticed'.commands noticed'.log

  -- a clock's time at such a reading
  abbrev pub IsNowBy : ClockId → Timespec → Type 0
  IsNowBy clock time =
      (snapshot : Snapshot) × (reading : ℕ) × IsTaken snapshot reading
      × IsTimeAt snapshot.base clock reading time

  -- why there is no time: the clock's first refusal at such a reading, or the numbers that the
  -- loads of this call found
  abbrev pub IsNoTimeBy : ClockId → NowFault → Type 0
  IsNoTimeBy clock (Refused refusal) =
      (snapshot : Snapshot) × (reading : ℕ) × IsTaken snapshot reading
      × (read_refusal snapshot.base clock reading ≡ Some refusal)
  IsNoTimeBy clock (Moved moved) =
      IsMoved learnt learnt' moved.first moved.last × (noticed' ≡ noticed)
  IsNoTimeBy clock (Busy busy) =
      (snapshot : Snapshot) × IsRead learnt learnt' snapshot
      × IsBusy noticed noticed' busy.first busy.last
  IsNoTimeBy clock (Late late) =
      (snapshot : Snapshot) × (answer : ℕ) × IsRead learnt learnt' snapshot
      × IsTimed answers counter noticed noticed' late.place answer
      × (snapshot.front ≡ late.front) × (late.front < late.place)
  IsNoTimeBy clock (Ahead late) =
      (snapshot : Snapshot) × (answer : ℕ) × IsRead learnt learnt' snapshot
      × IsTimed answers counter noticed noticed' late.place answer
      × (snapshot.front ≡ late.front) × (late.place < late.front)

-- the same of a caller
abbrev pub IsNow : {S : Type 0} → (S → ℕ → ℕ → Type 0) → S → ClockId → Known → Known → Timespec →
    Type 0
IsNow answers counter clock old new time =
    IsNowBy answers counter old.learnt new.learnt old.noticed new.noticed clock time

abbrev pub IsNoTime : {S : Type 0} → (S → ℕ → ℕ → Type 0) → S → ClockId → Known → Known →
    NowFault → Type 0
IsNoTime answers counter clock old new fault =
    IsNoTimeBy answers counter old.learnt new.learnt old.noticed new.noticed clock fault

-- a clock's result at a reading: its time, or the first refusal
abbrev pub IsResultAt : ReadBase → ClockId → ℕ → Result Timespec ReadError → Type 0
IsResultAt base clock reading result =
    MatchResult result (IsTimeAt base clock reading)
    (λ refusal. read_refusal base clock reading ≡ Some refusal)

-- a clock's result now, by the page: between two loads of the notice that found no command in
-- progress this call took a reading, whose place is the last entry that the caller has seen. The
-- result is the clock's in the history so far, at the reading modulo 2^bits
pub record IsSeenBy {S : Type 0} (answers : S → ℕ → ℕ → Type 0) (counter : S) (clock : ClockId)
    (history : Journal) (old new : Noticed) (result : Result Timespec ReadError) : Type 0 where
  -- the knowledge of the notice's reader before the two loads
  pub before : Noticed
  pub commands : IsPrefix old.commands before.commands
  pub log : IsPrefix old.log before.log
  pub answer : ℕ
  pub timed : IsTimed answers counter before new (length history.entries) answer
  pub read : IsResultAt (base_of history) clock (answer % 2 ^ history.opening.counter.bits) result
  pub order : AreInOrder new.commands
  pub life : AreInLife new.commands new.log

-- the notice's reader keeps its knowledge
abbrev pub NoticesMore : Noticed → Noticed → Type 0
NoticesMore old new = IsPrefix old.commands new.commands × IsPrefix old.log new.log

-- the caller keeps its knowledge of the latch and of the notice
abbrev pub KnowsMore : Known → Known → Type 0
KnowsMore old new = IsPrefix old.learnt.publications new.learnt.publications
    × IsPrefix old.noticed.commands new.noticed.commands
    × IsPrefix old.noticed.log new.noticed.log
