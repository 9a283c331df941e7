-- The requests to the program.
use Rattle.std.specs.Prelude.{ℕ, ◌≤◌, List, Option, Some, None, map, nat_le, option_map, ◌&&◌, if◌then◌else◌}
use Rattle.tk_clock.specs.declared.clock_id.ClockId.{ClockId}
use Rattle.tk_clock.specs.Limits.{most_kept}
use Rattle.tk_script.specs.Number.{number_of}
use Rattle.tk_script.specs.Word.{clock_of}
use Rattle.tk_pieces.specs.Workers.{most_workers}
use Rattle.tk_command_line.specs.declared.request.Request.{Request}
use Rattle.tk_command_line.specs.declared.request.Request.TheVariants as requests

-- a subcommand with its arguments, as texts and numbers
pub data Task : Type 0 where
  Replay : Option ℕ → Task
  Trace : ClockId → List ℕ → List ℕ → Task
  Many : ℕ → List (List ℕ) → Task
  Race : ℕ → List (List ℕ) → Task

-- a request, regardless of the place of its texts in memory
abbrev pub task_of : Request → Task
task_of (requests.Replay keep) = Replay keep
task_of (requests.Trace clock script stamps) = Trace clock script.now stamps.now
task_of (requests.Many workers files) = Many workers (map (λ file. file.now) files.items)
task_of (requests.Race step files) = Race step (map (λ file. file.now) files.items)

-- a number, if it is one of these
abbrev pub between : ℕ → ℕ → Option ℕ → Option ℕ
between least most None = None
between least most (Some n) = if nat_le least n && nat_le n most then Some n else None

-- the number of entries to keep, by the text of `--keep`: a number as in scripts, from 1 to the
-- greatest
abbrev pub keep_of : List ℕ → Option ℕ
keep_of text = between 1 most_kept (number_of text)

-- the number of threads, by the text of WORKERS: a number as in scripts, from 1 to the most
abbrev pub workers_of : List ℕ → Option ℕ
workers_of text = between 1 most_workers (number_of text)

-- the replay, by the text of `--keep`, if there is one
abbrev pub replay_by : Option (List ℕ) → Option Task
replay_by None = Some (Replay None)
replay_by (Some text) = option_map (λ keep. Replay (Some keep)) (keep_of text)

-- the trace, by the texts of CLOCK, SCRIPT and STAMPS
abbrev pub trace_by : Option (List ℕ) → Option (List ℕ) → Option (List ℕ) → Option Task
trace_by (Some clock) (Some script) (Some stamps) =
    option_map (λ c. Trace c script stamps) (clock_of clock)
trace_by _ _ _ = None

-- the reports of many scripts, by the texts of WORKERS and FILE..
abbrev pub many_by : Option (List ℕ) → Option (List (List ℕ)) → Option Task
many_by (Some workers) (Some files) = option_map (λ n. Many n files) (workers_of workers)
many_by _ _ = None

-- the race, by the texts of STEP and FILE..
abbrev pub race_by : Option (List ℕ) → Option (List (List ℕ)) → Option Task
race_by (Some step) (Some files) = option_map (λ n. Race n files) (number_of step)
race_by _ _ = None

-- a folded journal keeps at least one entry, and at most half of the entries that it can list
abbrev pub IsKeep : Option ℕ → Type 0
IsKeep None = Unit {0}
IsKeep (Some keep) = (1 ≤ keep) × (keep ≤ most_kept)

-- the numbers of a request are within their bounds
abbrev pub IsAllowed : Request → Type 0
IsAllowed (requests.Replay keep) = IsKeep keep
IsAllowed (requests.Trace clock script stamps) = Unit {0}
IsAllowed (requests.Many workers files) = (1 ≤ workers) × (workers ≤ most_workers)
IsAllowed (requests.Race step files) = Unit {0}
