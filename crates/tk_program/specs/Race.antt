-- How a race of scripts ends.
use Rattle.std.specs.Prelude.{◌≡◌, ◌≢◌, ℕ, ◌<◌, List, [], ◌∷◌, take, length, map, Bool, true, false, Option, None, Ok, ◌⊎◌, slice_index_or}
use Rattle.std.specs.Borrow.{Bor}
use Rattle.std.specs.List.{All, AllZip, list_any}
use Rattle.tk_clock.specs.Journal.{Journal, accepted_count}
use Rattle.tk_clock.specs.Refusal.{opening_refusal}
use Rattle.tk_clock.specs.State.{State}
use Rattle.tk_ntp.specs.SteeredClock.{SteeredClock}
use Rattle.tk_script.specs.declared.row.Row.{Row}
use Rattle.tk_script.specs.declared.row.Row.TheVariants as rows
use Rattle.tk_script.specs.declared.opening.Opening.{Opening}
use Rattle.tk_script.specs.declared.opening.Start.TheVariants.{Opened, Steered, Running, Continued}
use Rattle.tk_script.specs.declared.script_error.ScriptError.{ScriptError}
use Rattle.tk_script.specs.Grammar.{Fails, Parse, parse_of}
use Rattle.tk_report.specs.declared.fault.Fault.{Fault}
use Rattle.tk_report.specs.declared.fault.Fault.TheVariants as faults
use Rattle.tk_race.specs.declared.action.Action.{Action}
use Rattle.tk_race.specs.declared.action.Action.TheVariants as actions
use Rattle.tk_race.specs.declared.action.RaceReply.{RaceReply}
use Rattle.tk_race.specs.declared.race_error.RaceError.{RaceError}
use Rattle.tk_race.specs.declared.race_error.RaceError.TheVariants as races
use Rattle.tk_race.specs.Race.{IsRaced}
use Rattle.tk_race.specs.RaceError.{IsRaceError, race_error}
use Rattle.tk_program.specs.declared.ending.Ending.{Ending}
use Rattle.tk_program.specs.declared.ending.Ending.TheVariants as endings
use Rattle.tk_program.specs.declared.racer.Racer.{Racer}
use Rattle.tk_program.specs.Ending.{ending_of_file}
use Rattle.tk_program.specs.Files.{IsReadFrom, StopsFile}
use Rattle.tk_program.specs.Many.{EndsWriting}
use Rattle.tk_program.specs.Openings.{AreSameOpenings}
use Rattle.tk_program.specs.RaceText.{race_lines}

-- whether a row changes the counter
abbrev pub is_change : Row → Bool
is_change (rows.Change reading counter first) = true
is_change _ = false

-- whether a script changes its counter
abbrev pub changes_counter : Racer → Bool
changes_counter script = list_any is_change script.rows.items

-- whether a row contains a request
abbrev pub is_request : Row → Bool
is_request (rows.Ask reading request) = true
is_request _ = false

-- whether a script contains a request
abbrev pub asks : Racer → Bool
asks script = list_any is_request script.rows.items

-- the action of an actor for a row: it gives the command, or it reads; the row's reading and
-- the value that it expects are not used. No script that races changes its counter or contains a
-- request, so the last two lines never apply
abbrev pub action_of : Row → Action
action_of (rows.Act reading cmd) = actions.Order cmd
action_of (rows.Look reading clock expected) = actions.Look
action_of (rows.Change reading counter first) = actions.Look
action_of (rows.Ask reading request) = actions.Look

-- the actions of an actor
abbrev pub part_of : Racer → List Action
part_of script = map action_of script.rows.items

-- clocks can be opened with the script's opening
abbrev pub IsOpenable : Racer → Type 0
IsOpenable script =
    opening_refusal script.opening.desc script.opening.reading script.opening.real ≡ None

-- a script opens its clocks in the same way as the first one
abbrev pub OpensAs : Racer → Racer → Type 0
OpensAs first other = AreSameOpenings first.opening other.opening

-- the content of a script that opens its clocks, of one that begins from running clocks, of one that
-- opens steered clocks, and of one that continues running clocks with their discipline
abbrev pub parse : Racer → Parse
parse script = record { start = Opened script.opening; rows = script.rows.items }

abbrev pub running_parse : State → ℕ → List Row → Parse
running_parse clock front rows = record { start = Running clock front; rows = rows }

abbrev pub steered_parse : Opening → ℕ → List Row → Parse
steered_parse opening hz rows = record { start = Steered opening hz; rows = rows }

abbrev pub continued_parse : SteeredClock → ℕ → List Row → Parse
continued_parse clock front rows = record { start = Continued clock front; rows = rows }

-- of a folder and its files: the result of opening each name, the bytes of a file that are known,
-- and the results of its reads
module _ {D F : Type 0} (open_gives : D → List ℕ → Option F → Type 0)
    (remaining : F → Option (List ℕ)) (read_gives : F → Option ℕ → F → Type 0) (folder : D) where
  -- a file of this name was read, and its bytes are a script with this content
  abbrev pub IsParsedFrom : List ℕ → Parse → Type 0
  IsParsedFrom name content =
      (text : List ℕ) × IsReadFrom open_gives remaining read_gives folder name text
      × (parse_of text ≡ Ok content)

  -- it is a script that can race: clocks can be opened by it, it keeps its counter, and it contains
  -- no request
  abbrev pub IsScriptFrom : List ℕ → Racer → Type 0
  IsScriptFrom name script =
      IsParsedFrom name (parse script) × IsOpenable script × (changes_counter script ≡ false)
      × (asks script ≡ false)

  abbrev pub AreScriptsFrom : List (Bor (List ℕ)) → List Racer → Type 0
  AreScriptsFrom names scripts = AllZip (λ name script. IsScriptFrom name.now script) names scripts

  -- why the file at this place gives no script that can race: it couldn't be read, its bytes have
  -- this fault, an allocation failed, or its script begins from running clocks, changes its
  -- counter, opens or continues steered clocks or contains a request
  abbrev pub StopsScript : ℕ → List ℕ → Ending → Type 0
  StopsScript place name ending =
      ((fault : Fault) × (ending ≡ endings.Fault fault)
      × StopsFile open_gives remaining read_gives folder name fault)
      ⊎ ((error : ScriptError) × (text : List ℕ) × (ending ≡ ending_of_file place error)
      × IsReadFrom open_gives remaining read_gives folder name text × Fails error (parse_of text))
      ⊎ ((clock : State) × (front : ℕ) × (rows : List Row) × (ending ≡ endings.Running place)
      × IsParsedFrom name (running_parse clock front rows))
      ⊎ ((script : Racer) × (ending ≡ endings.Counter place) × IsParsedFrom name (parse script)
      × (changes_counter script ≡ true))
      ⊎ ((opening : Opening) × (hz : ℕ) × (rows : List Row) × (ending ≡ endings.Steered place)
      × IsParsedFrom name (steered_parse opening hz rows))
      ⊎ ((clock : SteeredClock) × (front : ℕ) × (rows : List Row) × (ending ≡ endings.Steered place)
      × IsParsedFrom name (continued_parse clock front rows))
      ⊎ ((script : Racer) × (ending ≡ endings.Steered place) × IsParsedFrom name (parse script)
      × (changes_counter script ≡ false) × (asks script ≡ true))

  -- why files don't all give scripts: one of them doesn't, and those before it do; or an allocation
  -- failed
  abbrev pub StopsScripts : List (Bor (List ℕ)) → Ending → Type 0
  StopsScripts names ending =
      (ending ≡ endings.Fault faults.Memory)
      ⊎ ((place : ℕ) × (scripts : List Racer) × (place < length names)
      × AreScriptsFrom (take place names) scripts
      × StopsScript place (slice_index_or (map (λ name. name.now) names) place []) ending)

-- the bytes of a writer, if they are known, and the results of its calls, both before and after
module _ {W : Type 0} (contents : W → Option (List ℕ))
    (write_gives : W → List ℕ → Option ℕ → W → Type 0) (flush_gives : W → Bool → W → Type 0)
    (writer writer' : W) where
  -- the lines of a race were written; or an allocation failed, and nothing is written
  abbrev pub EndsWritten : Journal → List (List RaceReply) → Ending → Type 0
  EndsWritten journal replies ending =
      ((ending ≡ endings.Fault faults.Memory) × (writer' ≡ writer))
      ⊎ EndsWriting contents write_gives flush_gives writer writer'
      (race_lines (accepted_count journal) replies) endings.Done ending

  -- `count` parts were raced on clocks with this script's opening, with a counter of this step; or
  -- there are too many, an allocation failed or a thread was not started, and nothing is written.
  -- The opening is always valid
  abbrev pub EndsParts : ℕ → Racer → ℕ → List (List Action) → Ending → Type 0
  EndsParts step first count parts ending =
      ((error : RaceError) × (ending ≡ endings.Race error)
      × IsRaceError count first.opening.desc first.opening.reading first.opening.real error
      × (error ≢ races.Invalid) × (writer' ≡ writer))
      ⊎ ((journal : Journal) × (replies : List (List RaceReply))
      × (race_error count first.opening.desc first.opening.reading first.opening.real ≡ None)
      × IsRaced first.opening.desc first.opening.reading step first.opening.real parts journal
      replies
      × EndsWritten journal replies ending)

  -- scripts were raced, an actor for each; or they don't all open their clocks as the first one,
  -- and nothing is written
  abbrev pub EndsScripts : ℕ → List Racer → Ending → Type 0
  EndsScripts step [] ending = (ending ≡ endings.Race races.Count) × (writer' ≡ writer)
  EndsScripts step (first ∷ others) ending =
      ((All (OpensAs first) others → ⊥) × (ending ≡ endings.Openings)
      × (writer' ≡ writer))
      ⊎ (All (OpensAs first) others
      × EndsParts step first (length (first ∷ others)) (map part_of (first ∷ others)) ending)

  -- the files of these names were read one after the other, and their scripts were raced; or one of
  -- them gives no script, and nothing is written
  abbrev pub EndsRace : {D F : Type 0} → (D → List ℕ → Option F → Type 0) →
      (F → Option (List ℕ)) → (F → Option ℕ → F → Type 0) →
      D → ℕ → List (Bor (List ℕ)) → Ending → Type 0
  EndsRace open_gives remaining read_gives folder step names ending =
      (StopsScripts open_gives remaining read_gives folder names ending × (writer' ≡ writer))
      ⊎ ((scripts : List Racer)
      × AreScriptsFrom open_gives remaining read_gives folder names scripts
      × EndsScripts step scripts ending)
