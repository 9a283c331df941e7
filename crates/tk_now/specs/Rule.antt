-- The rule of a notice: its word, and the knowledge of its seats.
use Rattle.std.specs.Prelude.{◌≡◌, ℕ, ◌+◌, ◌*◌, ◌≤◌, List, [], ◌∷◌, length, slice_index}
use mathlib.Core.List.{IsPrefix}
use mathlib.Core.Option.{some}
use lib.ListN.{get_elem?}
use Rattle.atomic_table.specs.Table.{State}
use Rattle.tk_now.specs.declared.rule.Taken.{Taken}
use Rattle.tk_now.specs.declared.rule.Answer.{Answer}
use Rattle.tk_now.specs.declared.rule.View.{View}
use Rattle.tk_now.specs.declared.rule.Role.{Role}
use Rattle.tk_now.specs.declared.rule.Role.TheVariants.{Spent, Resting, Timing, Idle, Announced, Noting}
use Rattle.tk_now.specs.Moments.{AreBefore, AreAnswered, AreInOrder, AreInLife, AreInTurn, AreLater}
use Rattle.tk_now.specs.Views.{view_of, taken}

-- the writer of a notice that was just opened
abbrev pub started : ℕ → View
started reading = view_of (taken 0 0 reading ∷ []) [] Idle

-- the moment by which all listed readings were taken: now, or the announcement of the command in
-- progress
abbrev pub limit : Role → ℕ → ℕ
limit (Announced from) moment = from
limit _ moment = moment

-- the word is twice the number of the latest accepted command, plus 1 while one is in progress
abbrev pub Stands : ℕ → ℕ → List Taken → Role → Type 0
Stands word moment commands Idle = word + 2 ≡ 2 * length commands
Stands word moment commands (Announced from) =
    (word + 1 ≡ 2 * length commands) × (from ≤ moment)
Stands word moment commands _ = ⊥

-- the number of the latest of these commands is half this word, rounded down
abbrev pub Counts : List Taken → ℕ → Type 0
Counts commands word = (2 * length commands ≤ word + 2) × (word + 1 ≤ 2 * length commands)

-- the knowledge of a seat, by its role
module _ (moment : ℕ) (commands : List Taken) (log : List Answer) (role : Role)
    (writer seat : ℕ) where
  abbrev pub Knows : List Taken → List Answer → Role → Type 0
  Knows mine told (Resting found) = IsPrefix mine commands × IsPrefix told log
  Knows mine told (Timing found first from) =
      IsPrefix mine commands × IsPrefix told log × Counts mine first × (from ≤ moment)
      × AreLater from (length told) log
  Knows mine told Spent = Unit {0}
  Knows mine told (Noting noted answers) = (seat ≡ writer) × (mine ≡ commands) × (role ≡ Idle)
      × IsPrefix noted commands × IsPrefix answers log × IsPrefix told log
  Knows mine told own =
      (seat ≡ writer) × (mine ≡ commands) × (role ≡ own) × IsPrefix told log

-- the rule: there is a number of steps, a list of the accepted commands and a list of the readings
-- that all readers took
pub record Kept (state : State (Unit {0}) View) : Type 0 where
  pub moment : ℕ
  pub commands : List Taken
  pub log : List Answer
  pub role : Role
  pub writer : ℕ
  pub wide : length state.words ≡ 1
  pub stands : Stands (slice_index state.words 0) moment commands role
  pub before : AreBefore (limit role moment) commands
  pub answered : AreAnswered (length commands) (limit role moment) log
  pub ordered : AreInOrder commands
  pub alive : AreInLife commands log
  pub turn : AreInTurn log
  pub each : (seat : ℕ) (view : View) → get_elem? state.views seat ≡ some view →
      Knows moment commands log role writer seat view.commands view.log view.role
