use Rattle.std.proofs.Common.{◌+◌, ◌-◌, ◌≤◌, length, take}
use Rattle.std.specs.Prelude.{vec_capacity, vec_len}
use Rattle.tk_program.specs.Files.{AreReadFrom}
use Rattle.tk_program.proofs.files.read_files.Given as goal

-- the files up to here were read, and the others' texts fit
abbrev pub invariant-files : goal.invariant-files
invariant-files g l = record {
  room : vec_len l.texts + (length l.names - l.name-index) ≤ vec_capacity l.texts;
  read : AreReadFrom g.D.Folder.open_gives g.D.File.Read.remaining g.D.File.Source.read_gives
      l.folder (take l.name-index l.names) l.texts.items;
}
