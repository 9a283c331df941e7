-- The texts of a shared keeper's errors.
use Rattle.std.specs.Prelude.{ℕ, ◌++◌, List, codes, decimal}
use Rattle.tk_latch.specs.Errors.{moved_text}
use Rattle.tk_now.specs.Busy.{busy_text}
use Rattle.tk_shared.specs.declared.fault.OpenError.{OpenError}
use Rattle.tk_shared.specs.declared.fault.OpenError.TheVariants.{Count, Invalid, Memory}
use Rattle.tk_shared.specs.declared.now_fault.Late.{Late}
use Rattle.tk_shared.specs.declared.now_fault.NowFault.{NowFault}
use Rattle.tk_shared.specs.declared.now_fault.NowFault.TheVariants as faults

-- why a keeper isn't opened
abbrev pub open_text : OpenError → List ℕ
open_text Count = codes "count out of range"
open_text Invalid = codes "invalid opening"
open_text Memory = codes "out of memory"

-- why a keeper isn't closed
abbrev pub missing_text : List ℕ
missing_text = codes "callers are missing"

-- the same for programmers, without the keeper and the callers
abbrev pub missing_debug : List ℕ
missing_debug = codes "Missing { .. }"

-- the two numbers of commands that differ
abbrev pub late_text : Late → List ℕ
late_text late =
    codes "commands accepted: " ++ decimal late.place ++ codes ", published: " ++ decimal late.front

-- why there is no time now
abbrev pub now_text : NowFault → List ℕ
now_text (faults.Refused error) = codes "the clock cannot be read at this reading"
now_text (faults.Moved moved) = moved_text moved.first moved.last
now_text (faults.Busy busy) = busy_text busy.first busy.last
now_text (faults.Late late) = late_text late
now_text (faults.Ahead late) = late_text late
