-- The meaning of the command line: a function of its arguments, by the definitions of `clap`.
use Rattle.std.specs.Prelude.{◌≡◌, List, [], ◌∷◌, Option, Some, None, true, Result, Ok, Err, bytes_eq, codes, if◌then◌else◌}
use Rattle.clap.specs.Words.{App, Row, Rule, Text, all_of, fault_of, first_of, new_app, new_rule, subcommand_of, with_rule, with_subcommand}
use Rattle.clap.specs.Kinds.{Kinds}
use Rattle.clap.specs.declared.builder.action.ArgAction.TheVariants.{Append, Set}
use Rattle.tk_command_line.specs.declared.words_error.WordsError.{WordsError}
use Rattle.tk_command_line.specs.declared.words_error.WordsError.TheVariants as errors
use Rattle.tk_command_line.specs.declared.request.Request.{Request}
use Rattle.tk_command_line.specs.Request.{Task, Replay, many_by, race_by, replay_by, task_of, trace_by}

-- `--keep TEXT`
abbrev pub keep_rule : Rule
keep_rule = record (new_rule (codes "keep")) { long = Some (codes "keep"); action = Some Set }

-- a required argument of this name
abbrev pub word_rule : Text → Rule
word_rule name = record (new_rule name) { required = true; action = Some Set }

-- one or more arguments
abbrev pub files_rule : Rule
files_rule = record (new_rule (codes "FILE")) { required = true; action = Some Append }

-- `replay`, which may have `--keep`
abbrev pub replay_words : App
replay_words = with_rule (new_app (codes "replay")) keep_rule

-- `trace CLOCK SCRIPT STAMPS`
abbrev pub trace_words : App
trace_words =
    with_rule (with_rule (with_rule (new_app (codes "trace"))
    (word_rule (codes "CLOCK"))) (word_rule (codes "SCRIPT"))) (word_rule (codes "STAMPS"))

-- a subcommand with a number of this name and one file or more
abbrev pub files_words : Text → Text → App
files_words name number = with_rule (with_rule (new_app name) (word_rule number)) files_rule

-- the program without its subcommands: it has no flag and no subcommand for help
abbrev pub bare_words : App
bare_words = record {
  top = record (new_app (codes "tkcore")).top {
    disable_help_flag = true;
    disable_help_subcommand = true;
  };
  subs = [];
}

-- the program with the subcommands for one script
abbrev pub one_script_words : App
one_script_words = with_subcommand (with_subcommand bare_words replay_words.top) trace_words.top

-- the program's grammar
abbrev pub program_words : App
program_words =
    with_subcommand (with_subcommand one_script_words
    (files_words (codes "many") (codes "WORKERS")).top)
    (files_words (codes "race") (codes "STEP")).top

-- the request of a subcommand of this name, by the arguments that were found after it
abbrev pub task_by : Text → List Row → Option Task
task_by name rows =
    if bytes_eq name (codes "replay") then replay_by (first_of (codes "keep") rows)
    else (if bytes_eq name (codes "trace")
    then trace_by (first_of (codes "CLOCK") rows) (first_of (codes "SCRIPT") rows)
    (first_of (codes "STAMPS") rows)
    else (if bytes_eq name (codes "many")
    then many_by (first_of (codes "WORKERS") rows) (all_of (codes "FILE") rows)
    else (if bytes_eq name (codes "race")
    then race_by (first_of (codes "STEP") rows) (all_of (codes "FILE") rows)
    else None)))

-- the request of a subcommand that was found; without a subcommand it is a replay
abbrev pub task_found : Option (Text × List Row) → Option Task
task_found None = Some (Replay None)
task_found (Some found) = task_by found.0 found.1

-- the request if the arguments have no fault
abbrev pub task_if : Kinds → Option (Text × List Row) → Option Task
task_if [] found = task_found found
task_if (kind ∷ kinds) found = None

-- the request of these arguments, the first of which is the program's name; `None` if they are
-- refused
unfoldable pub asked_by : List Text → Option Task
asked_by words = task_if (fault_of program_words words) (subcommand_of program_words words)

-- the result is the request of the arguments, or `Refused` if there is none; `Memory` may replace
-- either
abbrev pub Asks : Option Task → Result Request WordsError → Type 0
Asks task (Ok request) = task ≡ Some (task_of request)
Asks task (Err errors.Refused) = task ≡ None
Asks task (Err errors.Memory) = Unit {0}

-- the request of the arguments, or that they are refused
abbrev pub IsAsked : List Text → Result Request WordsError → Type 0
IsAsked words result = Asks (asked_by words) result
