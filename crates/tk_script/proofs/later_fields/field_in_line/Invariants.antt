use Rattle.std.proofs.Common.{◌≡◌, ◌≤◌, ◌+◌, ℕ, length}
use Rattle.csv.specs.Records.{field_at}
use Rattle.tk_script.specs.Plain.{cut_at_commas}
use Rattle.tk_script.proofs.later_fields.field_in_line.Given as goal

-- the fields of the rest are those of the line, without as many as were passed
abbrev pub invariant-commas : goal.invariant-commas
invariant-commas l = (few : length l.rest ≤ length l.line)
    × ((k : ℕ) → field_at (cut_at_commas l.rest) k ≡ field_at (cut_at_commas l.line) (k + l.place))
