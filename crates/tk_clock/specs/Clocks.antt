-- The other clocks: their offsets from MONOTONIC, and MONOTONIC_RAW
-- (Documentation/core-api/timekeeping.rst).
use Rattle.std.specs.Prelude.{ℕ, ◌+◌, ◌*◌, ◌/◌, ◌^◌, ℤ, pos, ◌+ℤ◌, ◌-ℤ◌, ◌*ℤ◌, List, [], ◌∷◌, map, drop, length, is_some}
use Rattle.std.specs.List.{filter_map}
use Rattle.std.specs.Option.{option_map_or}
use Rattle.tk_clock.specs.declared.command.Entry.{Entry}
use Rattle.tk_clock.specs.declared.clock_id.ClockId.{ClockId}
use Rattle.tk_clock.specs.declared.clock_id.ClockId.TheVariants.{Realtime, Monotonic, Boottime, Tai, RealtimeCoarse, MonotonicCoarse, MonotonicRaw}
use Rattle.tk_clock.specs.Command.{tai_set, time_set, real_amount, boot_amount}
use Rattle.tk_clock.specs.Journal.{Journal, prefix, at_place, last_reading, latest, places}
use Rattle.tk_clock.specs.Monotonic.{monotonic, awake_cycles, cycles_after}

-- the sum of a list
abbrev pub sum_of : List ℤ → ℤ
sum_of [] = pos 0
sum_of (x ∷ xs) = x +ℤ sum_of xs

-- the place of the last entry that sets the time, or 0 if no entry does
abbrev pub set_place : Journal → ℕ
set_place journal = latest 0 (places (λ (e : Entry). is_some (time_set e.cmd)) 0 journal.entries)

-- the offset that the entry at a place sets, in nanoseconds: the time that it sets, minus MONOTONIC
-- at its reading; at place 0, the offset of the opening
abbrev pub offset_set : Journal → ℕ → ℤ
offset_set journal place =
    at_place journal.opening.real_offset
    (λ (e : Entry). option_map_or (λ time. time -ℤ pos (monotonic (prefix place journal) e.reading))
    (time_set e.cmd) (pos 0))
    journal.entries place

-- REALTIME minus MONOTONIC, in nanoseconds: the offset that was set last, plus all later steps and
-- suspensions
abbrev pub real_offset : Journal → ℤ
real_offset journal =
    offset_set journal (set_place journal)
    +ℤ sum_of (map (λ (e : Entry). real_amount e.cmd) (drop (set_place journal) journal.entries))

-- BOOTTIME minus MONOTONIC, in nanoseconds: the offset of the opening, plus all suspensions
abbrev pub boot_offset : Journal → ℤ
boot_offset journal =
    journal.opening.boot_offset +ℤ sum_of (map (λ (e : Entry). boot_amount e.cmd) journal.entries)

-- TAI minus REALTIME, in seconds: the last offset that was set, or the opening's
abbrev pub tai_offset : Journal → ℤ
tai_offset journal =
    latest journal.opening.tai (filter_map (λ (e : Entry). tai_set e.cmd) journal.entries)

-- MONOTONIC_RAW at the last entry, in units of 2^-shift nanoseconds: all awake cycles at the
-- counter's own rate
abbrev pub raw_units : Journal → ℕ
raw_units journal =
    journal.opening.raw_amount
    + awake_cycles journal (length journal.entries) * journal.opening.counter.mult

-- MONOTONIC_RAW at a reading, in nanoseconds
abbrev pub monotonic_raw : Journal → ℕ → ℕ
monotonic_raw journal reading =
    (raw_units journal + cycles_after journal reading * journal.opening.counter.mult)
    / 2 ^ journal.opening.counter.shift

-- the value of a clock at a reading, in nanoseconds (clock_gettime(2))
abbrev pub clock_value : Journal → ClockId → ℕ → ℤ
clock_value journal Monotonic reading = pos (monotonic journal reading)
clock_value journal Realtime reading = pos (monotonic journal reading) +ℤ real_offset journal
clock_value journal Boottime reading = pos (monotonic journal reading) +ℤ boot_offset journal
clock_value journal Tai reading =
    pos (monotonic journal reading) +ℤ real_offset journal +ℤ tai_offset journal *ℤ pos (10 ^ 9)
clock_value journal RealtimeCoarse reading =
    pos (monotonic journal (last_reading journal)) +ℤ real_offset journal
clock_value journal MonotonicCoarse reading = pos (monotonic journal (last_reading journal))
clock_value journal MonotonicRaw reading = pos (monotonic_raw journal reading)
