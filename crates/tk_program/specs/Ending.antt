-- How the program ends.
use Rattle.std.specs.Prelude.{◌≡◌, ◌<◌, ◌⊎◌, ℕ, List, [], length, ◌++◌, Option, Some, None, IfSome, Result, Ok, Err, ◌==◌, if◌then◌else◌, codes, decimal}
use Rattle.std.specs.Io.KnownBytes.{Appends}
use Rattle.tk_script.specs.declared.script_error.ScriptError.{ScriptError}
use Rattle.tk_script.specs.declared.script_error.ScriptError.TheVariants as scripts
use Rattle.tk_script.specs.ScriptError.{script_text}
use Rattle.tk_race.specs.RaceError.{error_text}
use Rattle.tk_report.specs.declared.fault.Fault.{Fault}
use Rattle.tk_report.specs.declared.fault.Fault.TheVariants as faults
use Rattle.tk_report.specs.Fault.{fault_text}
use Rattle.tk_replay.specs.ManyError.{many_text}
use Rattle.tk_command_line.specs.declared.words_error.WordsError.{WordsError}
use Rattle.tk_command_line.specs.declared.words_error.WordsError.TheVariants as errors
use Rattle.tk_program.specs.declared.ending.Ending.{Ending}
use Rattle.tk_program.specs.declared.ending.Ending.TheVariants as endings

-- its exit status: 0 if all was done, 1 for a fault, 2 for refused arguments, 3 if a read did not give
-- the value that it expects
abbrev pub status_of : Ending → ℕ
status_of endings.Done = 0
status_of endings.Words = 2
status_of endings.Faulty = 1
status_of endings.Differs = 3
status_of (endings.Fault fault) = 1
status_of (endings.Many error) = 1
status_of (endings.File index error) = 1
status_of (endings.Running index) = 1
status_of (endings.Counter index) = 1
status_of (endings.Steered index) = 1
status_of endings.Openings = 1
status_of (endings.Race error) = 1

-- the line of an ending, for a writer whose bytes are known: none if all was done or if the output
-- has the faults or the differences, and otherwise one
abbrev pub IsErrorLine : {W : Type 0} → (W → Option (List ℕ)) → W → W → Ending → Type 0
IsErrorLine contents old new endings.Done = new ≡ old
IsErrorLine contents old new endings.Faulty = new ≡ old
IsErrorLine contents old new endings.Differs = new ≡ old
IsErrorLine contents old new (endings.Many error) =
    Appends (contents old) (contents new) (codes "tkcore: " ++ many_text error ++ codes "\n")
IsErrorLine contents old new endings.Words =
    Appends (contents old) (contents new) (codes "tkcore: " ++ codes "words refused" ++ codes "\n")
IsErrorLine contents old new (endings.Fault fault) =
    IfSome (fault_text fault)
    (λ text. Appends (contents old) (contents new) (codes "tkcore: " ++ text ++ codes "\n"))
IsErrorLine contents old new (endings.File index error) =
    Appends (contents old) (contents new)
    (codes "tkcore: file " ++ (decimal index ++ (codes ": " ++ (script_text error ++ codes "\n"))))
IsErrorLine contents old new (endings.Running index) =
    Appends (contents old) (contents new)
    (codes "tkcore: file " ++ (decimal index ++ codes ": a race cannot begin from running clocks\n"))
IsErrorLine contents old new (endings.Counter index) =
    Appends (contents old) (contents new)
    (codes "tkcore: file " ++ (decimal index ++ codes ": the counter of a race cannot change\n"))
IsErrorLine contents old new (endings.Steered index) =
    Appends (contents old) (contents new)
    (codes "tkcore: file " ++ (decimal index ++ codes ": the clocks of a race cannot be steered\n"))
IsErrorLine contents old new endings.Openings =
    Appends (contents old) (contents new) (codes "tkcore: " ++ codes "openings differ" ++ codes "\n")
IsErrorLine contents old new (endings.Race error) =
    Appends (contents old) (contents new) (codes "tkcore: " ++ error_text error ++ codes "\n")

-- a call took the whole line, or nothing
abbrev pub IsWholeOrNone : List ℕ → Option ℕ → Type 0
IsWholeOrNone line None = Unit {0}
IsWholeOrNone line (Some count) = count ≡ length line

-- the first call passed the whole line, and if it took the line or nothing, there was no other call
abbrev pub IsWrittenOnce : {W : Type 0} → (W → List ℕ → Option ℕ → W → Type 0) → W → W → List ℕ →
    Type 0
IsWrittenOnce {W = W} write_gives old new line = (first : Option ℕ) × (after : W)
    × write_gives old line first after × (IsWholeOrNone line first → new ≡ after)

-- the line of error of an ending was written so, or nothing was written
abbrev pub IsTold : {W : Type 0} → (W → List ℕ → Option ℕ → W → Type 0) → W → W → Ending → Type 0
IsTold write_gives old new ending = (new ≡ old)
    ⊎ ((line : List ℕ) × IsErrorLine Some [] line ending × (0 < length line)
    × IsWrittenOnce write_gives old new line)

-- the ending of an outcome
abbrev pub ending_of : Result Unit Fault → Ending
ending_of (Ok done) = endings.Done
ending_of (Err fault) = endings.Fault fault

-- the ending if all is written: done, or there are differences
abbrev pub ending_of_count : ℕ → Ending
ending_of_count differences = if differences == 0 then endings.Done else endings.Differs

-- the ending of a replay: the number of its differences, or its fault
abbrev pub ending_of_replay : Result ℕ Fault → Ending
ending_of_replay (Ok differences) = ending_of_count differences
ending_of_replay (Err fault) = endings.Fault fault

-- the ending for the fault of a race's file at this place; an allocation failure has no place
abbrev pub ending_of_file : ℕ → ScriptError → Ending
ending_of_file index scripts.Memory = endings.Fault faults.Memory
ending_of_file index scripts.TooLarge = endings.File index scripts.TooLarge
ending_of_file index scripts.Empty = endings.File index scripts.Empty
ending_of_file index (scripts.Opening row) = endings.File index (scripts.Opening row)
ending_of_file index (scripts.Word row) = endings.File index (scripts.Word row)
ending_of_file index (scripts.Fields row) = endings.File index (scripts.Fields row)
ending_of_file index (scripts.Number row) = endings.File index (scripts.Number row)
ending_of_file index (scripts.Counter row fault) = endings.File index (scripts.Counter row fault)

-- the ending of refused arguments
abbrev pub ending_at : WordsError → Ending
ending_at errors.Refused = endings.Words
ending_at errors.Memory = endings.Fault faults.Memory
