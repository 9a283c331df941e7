use Rattle.std.proofs.Common.{◌+◌, ◌-◌, ◌≤◌, length, take}
use Rattle.std.specs.Prelude.{vec_capacity, vec_len}
use Rattle.tk_program.specs.Race.{AreScriptsFrom}
use Rattle.tk_program.proofs.scripts.read_scripts.Given as goal

-- the scripts of the files up to here, and the others fit
abbrev pub invariant-files : goal.invariant-files
invariant-files g l = record {
  room : vec_len l.scripts + (length l.names - l.place) ≤ vec_capacity l.scripts;
  read : AreScriptsFrom g.D.Folder.open_gives g.D.File.Read.remaining g.D.File.Source.read_gives
      l.folder (take l.place l.names) l.scripts.items;
}
