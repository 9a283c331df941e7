use Rattle.std.proofs.Common.{◌≤◌, ◌-◌, take, vec_len}
use Rattle.std.specs.Io.KnownBytes.{Consumes}
use Rattle.tk_report.specs.Reading.{most_read}
use Rattle.tk_report.proofs.source.read_to_end.Given as goal

-- the first `filled` bytes of the buffer are the bytes that were read
abbrev pub invariant-reads : goal.invariant-reads
invariant-reads g l = record {
  within : l.filled ≤ vec_len l.bytes;
  most : vec_len l.bytes ≤ most_read;
  read : Consumes (g.S.Read.remaining l.fn.source) (g.S.Read.remaining l.source)
      (take l.filled l.bytes.items);
}

abbrev pub decreases-reads : goal.decreases-reads
decreases-reads g l = most_read - l.filled
