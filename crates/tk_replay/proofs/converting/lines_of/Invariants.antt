use Rattle.std.proofs.Common.{◌≡◌, take, flat_map}
use Rattle.tk_replay.specs.Trace.{value_line}
use Rattle.tk_replay.proofs.converting.lines_of.Given as goal

-- the text so far consists of the lines of the values so far
abbrev pub invariant-loop-value : goal.invariant-loop-value
invariant-loop-value g l = l.text.items ≡ flat_map value_line (take l.value-index l.values)
