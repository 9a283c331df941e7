-- The rows of a script are carried out one after the other.
use Rattle.std.proofs.Common.{◌≡◌, ◌∙◌, List, [], ◌∷◌, refl, ap}
use Rattle.std.specs.Prelude.{Result, Ok, Err}
use Rattle.tk_script.specs.declared.row.Row.{Row}
use Rattle.tk_script.specs.declared.script_error.ScriptError.{ScriptError}
use Rattle.tk_script.specs.Coming.{row_and}
use Rattle.tk_report.specs.Rows.{HasDone, IsAfterRows}

-- the rows of a reading, or its fault
abbrev pub Rows : Type 0
Rows = Result (List Row) ScriptError

-- a value from which the remaining rows lead to the value after all rows; a fault of the remaining
-- rows is the fault of all rows
pub record IsRun {S : Type 0} (Does : S → Row → S → Type 0) (first : S) (all : Rows) (now : S)
    (to_come : Rows) : Type 0 where
  pub gives : (rows : List Row) (after : S) → to_come ≡ Ok rows → IsAfterRows Does now rows after →
      HasDone Does first all after
  pub fails : (fault : ScriptError) → to_come ≡ Err fault → all ≡ Err fault

-- at the beginning, all rows remain
pub IsRun-start : {S : Type 0} (Does : S → Row → S → Type 0) (first : S) (all : Rows) →
    IsRun Does first all first all
IsRun-start Does first all = record {
  gives = λ rows after e run. (rows, e, run);
  fails = λ fault e. e;
}

-- one more row
pub IsRun-next : {S : Type 0} (Does : S → Row → S → Type 0) (first : S) (all : Rows)
    (before middle : S) (row : Row) (to_come later : Rows) →
    IsRun Does first all before to_come → to_come ≡ row_and row later → Does before row middle →
    IsRun Does first all middle later
IsRun-next Does first all before middle row to_come later run step done = record {
  gives = λ rows after e rest.
      run.gives (row ∷ rows) after (step ∙ ap (row_and row) e) (middle, done, rest);
  fails = λ fault e. run.fails fault (step ∙ ap (row_and row) e);
}

-- no row remains
pub IsRun-end : {S : Type 0} (Does : S → Row → S → Type 0) (first : S) (all : Rows) (now : S)
    (to_come : Rows) → IsRun Does first all now to_come → to_come ≡ Ok [] →
    HasDone Does first all now
IsRun-end Does first all now to_come run none = run.gives [] now none refl

-- the part of a value that stays in each row stays in all rows
module _ {S T : Type 0} (part : S → T) (Does : S → Row → S → Type 0)
    (each : (a : S) (row : Row) (b : S) → Does a row b → part b ≡ part a) where
  stays-after : (rows : List Row) (before after : S) → IsAfterRows Does before rows after →
      part after ≡ part before
  stays-after [] before after same = ap part same
  stays-after (row ∷ rows) before after (middle, step, rest) =
      stays-after rows middle after rest ∙ each before row middle step

  pub stays-done : (all : Rows) (before after : S) → HasDone Does before all after →
      part after ≡ part before
  stays-done all before after (rows, known, run) = stays-after rows before after run
