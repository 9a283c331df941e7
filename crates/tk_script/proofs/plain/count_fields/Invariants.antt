use Rattle.std.proofs.Common.{◌≡◌, ◌+◌, ◌≤◌, drop, length}
use Rattle.tk_script.specs.Plain.{cut_at_commas}
use Rattle.tk_script.proofs.plain.count_fields.Given as goal

-- the fields so far and those of the rest are the fields of the line
abbrev pub invariant-loop-i : goal.invariant-loop-i
invariant-loop-i l = (l.count + length (cut_at_commas (drop l.i l.line))
    ≡ length (cut_at_commas l.line) + 1)
    × (l.count ≤ l.i + 1)
