use Rattle.std.proofs.Common.{◌≡◌, ◌++◌, flat_map, take}
use Rattle.tk_script.specs.AdjLine.{number_field}
use Rattle.tk_script.proofs.adj_line.add_numbers.Given as goal

-- the line so far ends with the fields of the numbers so far
abbrev pub invariant-loop-number : goal.invariant-loop-number
invariant-loop-number g l =
    l.line.items ≡ l.initial.line.items ++ flat_map number_field (take l.number-index l.numbers)
