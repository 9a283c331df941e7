use Rattle.std.proofs.Common.{◌≡◌, ◌+◌, ◌-◌, ◌≤◌, length, map, take}
use Rattle.std.specs.Prelude.{vec_capacity, vec_len}
use Rattle.tk_program.specs.Race.{part_of}
use Rattle.tk_program.proofs.racing.actors_of.Given as goal

-- a part for each script up to here
abbrev pub invariant-scripts : goal.invariant-scripts
invariant-scripts l = record {
  room : vec_len l.actors + (length l.scripts - l.script-index) ≤ vec_capacity l.actors;
  count : length l.actors.items ≡ l.script-index;
  parts : map (λ a. a.items) l.actors.items ≡ map part_of (take l.script-index l.scripts);
}
