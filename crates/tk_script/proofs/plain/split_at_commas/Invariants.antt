use Rattle.std.proofs.Common.{◌≡◌, ◌++◌, ◌+◌, ◌≤◌, ℕ, List, length}
use Rattle.tk_script.specs.Plain.{HasFields, cut_at_commas}
use Rattle.tk_script.proofs.plain.split_at_commas.Given as goal

-- the fields so far and the fields of the rest are the fields of the line
abbrev pub invariant-commas : goal.invariant-commas
invariant-commas l = (few : l.fields.count + length l.rest ≤ length l.line)
    × (fields : List (List ℕ)) × HasFields fields l.fields
    × (fields ++ cut_at_commas l.rest ≡ cut_at_commas l.line)

abbrev pub decreases-commas : goal.decreases-commas
decreases-commas l = length l.rest
