use Rattle.std.proofs.Common.{◌≤◌, ◌-◌, take, length}
use Rattle.std.specs.Io.KnownBytes.{Appends}
use Rattle.tk_report.proofs.sink.write_whole.Given as goal

-- the bytes counted so far are the written ones
abbrev pub invariant-writes : goal.invariant-writes
invariant-writes g l = record {
  within : l.written ≤ length l.text;
  out : Appends (g.S.Write.contents l.fn.sink) (g.S.Write.contents l.sink) (take l.written l.text);
}

abbrev pub decreases-writes : goal.decreases-writes
decreases-writes g l = length l.text - l.written
