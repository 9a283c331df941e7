-- The guarantees of closing, after all callers are back.
use Rattle.std.specs.Prelude.{◌≡◌, ◌≢◌, ◌⊎◌, ℕ, ◌≤◌, List, [], ◌∷◌, All, Some, slice_get, sum_by}
use Rattle.tk_clock.specs.Journal.{Journal, accepted_count}
use Rattle.tk_clock.specs.Legal.{IsWhole}
use Rattle.tk_page.specs.History.{Begins}
use Rattle.tk_now.specs.declared.rule.Taken.{Taken}
use Rattle.tk_now.specs.declared.rule.Answer.{Answer}
use Rattle.tk_now.specs.Life.{AreReadings}
use Rattle.tk_now.specs.Moments.{AreInLife, AreInOrder, AreInTurn}
use mathlib.Core.List.{IsPrefix}
use Rattle.tk_shared.specs.Callers.{Known, made_by}
use Rattle.tk_shared.specs.History.{IsKeptOf, AreSnapshots}

-- the number of accepted commands of all these callers
abbrev pub accepted_by : List Known → ℕ
accepted_by callers = sum_by (λ caller. caller.accepted) callers

-- none of these callers has this number
abbrev pub IsApart : ℕ → List Known → Type 0
IsApart id [] = Unit {0}
IsApart id (caller ∷ callers) = (caller.id ≢ id) × IsApart id callers

-- the callers have different numbers
abbrev pub AreDifferent : List Known → Type 0
AreDifferent [] = Unit {0}
AreDifferent (caller ∷ callers) = IsApart caller.id callers × AreDifferent callers

-- a caller's part in a whole history: the history that it has seen begins it, all publications that
-- it has learnt of are snapshots of its first entries, and the caller made at least as many of the
-- seen entries as it counts accepted commands
pub record IsPartOf (history : Journal) (caller : Known) : Type 0 where
  pub begins : Begins caller.seen history
  pub learnt : AreSnapshots history caller.learnt.publications
  pub own : caller.accepted ≤ made_by caller.id caller.seen.entries

-- a caller's knowledge from the notice: the readings of the first of these commands, and readings
-- that are in their lives among all of them
pub record HasNoticed (commands : List Taken) (caller : Known) : Type 0 where
  pub begins : IsPrefix caller.noticed.commands commands
  pub life : AreInLife commands caller.noticed.log

-- the readings that a caller knows of are the first of these
abbrev pub HasListed : List Answer → Known → Type 0
HasListed log caller = IsPrefix caller.noticed.log log

-- a caller knows of no more folded entries than these
abbrev pub HasFolded : ℕ → Known → Type 0
HasFolded folded caller = caller.folded ≤ folded

-- these are all the readings that one of these callers knows of, or there are none
abbrev pub IsKnownLog : List Answer → List Known → Type 0
IsKnownLog log callers = (log ≡ [])
    ⊎ ((place : ℕ) × (caller : Known) × (slice_get callers place ≡ Some caller)
    × (caller.noticed.log ≡ log))

-- there is one list of the readings of all these callers, each in its life among all commands and
-- over before the next one. What each caller knows begins it, and one caller knows all of it
pub record HaveListed (commands : List Taken) (callers : List Known) : Type 0 where
  pub log : List Answer
  pub alive : AreInLife commands log
  pub turn : AreInTurn log
  pub each : All (HasListed log) callers
  pub known : IsKnownLog log callers

-- just as many entries are a caller's as were accepted
abbrev pub IsCounted : Journal → Known → Type 0
IsCounted history caller = made_by caller.id history.entries ≡ caller.accepted

-- the journal that a closed keeper holds, and its callers
pub record IsClosed (journal : Journal) (callers : List Known) : Type 0 where
  pub history : Journal
  pub whole : IsWhole history
  pub kept : IsKeptOf history journal
  pub commands : List Taken
  pub log : List Answer
  pub readings : AreReadings history commands
  pub order : AreInOrder commands
  pub alive : AreInLife commands log
  pub turn : AreInTurn log
  pub parts : All (IsPartOf history) callers
  pub noticed : All (HasNoticed commands) callers
  pub listed : All (HasListed log) callers
  pub known : IsKnownLog log callers
  pub folded : All (HasFolded journal.opening.count) callers
  pub own : All (IsCounted history) callers
  pub counted : accepted_count journal ≡ accepted_by callers
