-- The keywords and names of scripts and reports.
use Rattle.std.specs.Prelude.{ℕ, List, Option, Some, None, Bool, nat_eq, if◌then◌else◌, codes}
use Rattle.std.specs.Cmp.Lexicographic.{pointwise}
use Rattle.tk_clock.specs.declared.clock_id.ClockId.{ClockId}
use Rattle.tk_clock.specs.declared.clock_id.ClockId.TheVariants.{Realtime, Monotonic, Boottime, Tai, RealtimeCoarse, MonotonicCoarse, MonotonicRaw}
use Rattle.tk_clock.specs.declared.refusal.Refusal.{Refusal}
use Rattle.tk_clock.specs.declared.refusal.Refusal.TheVariants.{Full, Asleep, Awake, Invalid, Behind, Range, Memory}
use Rattle.tk_ntp.specs.declared.reply.TimeState.{TimeState}
use Rattle.tk_ntp.specs.declared.reply.TimeState.TheVariants.{Ok, Ins, Del, Oop, Wait, Error}

-- whether these bytes are the keyword
abbrev pub is_word : List ℕ → List ℕ → Bool
is_word bytes word = pointwise nat_eq bytes word

-- the name of a clock
abbrev pub clock_name : ClockId → List ℕ
clock_name Realtime = codes "realtime"
clock_name Monotonic = codes "monotonic"
clock_name Boottime = codes "boottime"
clock_name Tai = codes "tai"
clock_name RealtimeCoarse = codes "realtime_coarse"
clock_name MonotonicCoarse = codes "monotonic_coarse"
clock_name MonotonicRaw = codes "monotonic_raw"

-- the clock with this name in a script
abbrev pub clock_of : List ℕ → Option ClockId
clock_of word =
    if is_word word (codes "monotonic") then Some Monotonic
    else if is_word word (codes "realtime") then Some Realtime
    else if is_word word (codes "tai") then Some Tai
    else if is_word word (codes "boottime") then Some Boottime
    else if is_word word (codes "monotonic_coarse") then Some MonotonicCoarse
    else if is_word word (codes "realtime_coarse") then Some RealtimeCoarse
    else if is_word word (codes "monotonic_raw") then Some MonotonicRaw
    else None

-- the name of a refusal
abbrev pub refusal_name : Refusal → List ℕ
refusal_name Full = codes "full"
refusal_name Asleep = codes "asleep"
refusal_name Awake = codes "awake"
refusal_name Invalid = codes "invalid"
refusal_name Behind = codes "behind"
refusal_name Range = codes "range"
refusal_name Memory = codes "memory"

-- the name of the state in a reply
abbrev pub state_name : TimeState → List ℕ
state_name Ok = codes "ok"
state_name Ins = codes "ins"
state_name Del = codes "del"
state_name Oop = codes "oop"
state_name Wait = codes "wait"
state_name Error = codes "error"
