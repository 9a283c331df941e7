-- MONOTONIC: the awake cycles of each stretch of a journal, times its multiplier, summed
-- (Documentation/core-api/timekeeping.rst: it stops during suspend).
use Rattle.std.specs.Prelude.{ℕ, zero, suc, ◌+◌, ◌-◌, ◌*◌, ◌/◌, ◌^◌, ℤ, List, [], ◌∷◌, take, length, Bool, ◌||◌, nat_lt, if◌then◌else◌}
use Rattle.std.specs.List.{filter_map}
use Rattle.tk_counter.specs.Counter.{Counter, gap, half, multiplier}
use Rattle.tk_clock.specs.declared.command.Entry.{Entry}
use Rattle.tk_clock.specs.Command.{frequency_set, tick_set, sets_multiplier}
use Rattle.tk_clock.specs.Journal.{Journal, reading_at, is_asleep_at, last_reading, is_asleep, latest, places}

-- the cycles counted up to a place: the gaps between neighbouring entries, except those after a
-- suspend
abbrev pub awake_cycles : Journal → ℕ → ℕ
awake_cycles journal zero = 0
awake_cycles journal (suc place) =
    awake_cycles journal place
    + (if is_asleep_at journal place then 0
    else gap journal.opening.counter (reading_at journal place) (reading_at journal (suc place)))

-- the frequency in force after a place, in 2^-16 ppm: the last one set up to that place
abbrev pub frequency_at : Journal → ℕ → ℤ
frequency_at journal place =
    latest journal.opening.frequency
    (filter_map (λ (e : Entry). frequency_set e.cmd) (take place journal.entries))

-- the tick in force after a place, in microseconds
abbrev pub tick_at : Journal → ℕ → ℤ
tick_at journal place =
    latest journal.opening.tick
    (filter_map (λ (e : Entry). tick_set e.cmd) (take place journal.entries))

-- the multiplier after a place: the units of 2^-shift nanoseconds that a cycle adds
abbrev pub multiplier_at : Journal → ℕ → ℕ
multiplier_at journal place =
    multiplier journal.opening.counter (frequency_at journal place) (tick_at journal place)

-- the places where a stretch begins, except the first stretch
abbrev pub stretch_places : Journal → List ℕ
stretch_places journal = places (λ (e : Entry). sets_multiplier e.cmd) 0 journal.entries

-- the units of 2^-shift nanoseconds of the stretch from a place to the next place of the list, and
-- of all later stretches; the last stretch ends with the journal
abbrev pub stretches_from : Journal → ℕ → List ℕ → ℕ
stretches_from journal from [] =
    (awake_cycles journal (length journal.entries) - awake_cycles journal from)
    * multiplier_at journal from
stretches_from journal from (to ∷ later) =
    (awake_cycles journal to - awake_cycles journal from) * multiplier_at journal from
    + stretches_from journal to later

-- the frequency of the last stretch, in 2^-16 ppm
abbrev pub current_frequency : Journal → ℤ
current_frequency journal =
    latest journal.opening.frequency
    (filter_map (λ (e : Entry). frequency_set e.cmd) journal.entries)

-- the tick of the last stretch, in microseconds
abbrev pub current_tick : Journal → ℤ
current_tick journal =
    latest journal.opening.tick (filter_map (λ (e : Entry). tick_set e.cmd) journal.entries)

-- the multiplier of the last stretch
abbrev pub current_multiplier : Journal → ℕ
current_multiplier journal = multiplier_at journal (latest 0 (stretch_places journal))

-- MONOTONIC at the last entry, in units of 2^-shift nanoseconds
abbrev pub monotonic_units : Journal → ℕ
monotonic_units journal = journal.opening.amount + stretches_from journal 0 (stretch_places journal)

-- the cycles from the last reading to another one: 0 while asleep, and 0 if the other reading is
-- behind
abbrev pub cycles_since : Counter → Bool → ℕ → ℕ → ℕ
cycles_since counter asleep last reading =
    if asleep || nat_lt (half counter) (gap counter last reading) then 0
    else gap counter last reading

-- the cycles from a journal's last entry to a reading
abbrev pub cycles_after : Journal → ℕ → ℕ
cycles_after journal reading =
    cycles_since journal.opening.counter (is_asleep journal) (last_reading journal) reading

-- MONOTONIC at a reading, in units of 2^-shift nanoseconds
abbrev pub monotonic_units_at : Journal → ℕ → ℕ
monotonic_units_at journal reading =
    monotonic_units journal + cycles_after journal reading * current_multiplier journal

-- MONOTONIC at a reading, in nanoseconds
abbrev pub monotonic : Journal → ℕ → ℕ
monotonic journal reading = monotonic_units_at journal reading / 2 ^ journal.opening.counter.shift
