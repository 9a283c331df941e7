use Rattle.std.proofs.Common.{◌≡◌, take}
use Rattle.tk_script.proofs.frequent.skip.Given as goal

-- the first `i` bytes are the same
abbrev pub invariant-loop-i : goal.invariant-loop-i
invariant-loop-i l = take l.i l.text ≡ take l.i l.beginning
