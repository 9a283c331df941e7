-- One line of a report while it is built from its end to its beginning, in 96 bytes at most.
use Rattle.std.specs.Prelude.{ℕ, ◌+◌, ◌≤◌, List, length}

-- `more` further bytes fit before the line
abbrev pub HasRoom : ℕ → List ℕ → Type 0
HasRoom more line = more + length line ≤ 96
