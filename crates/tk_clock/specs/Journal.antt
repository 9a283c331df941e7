-- A journal: how the clocks were opened, and each command that was accepted since.
use Rattle.std.specs.Prelude.{ℕ, ◌+◌, ℤ, pos, List, [], ◌∷◌, ◌++◌, map, take, length, get_or, Bool, false, if◌then◌else◌}
use Rattle.tk_counter.specs.Counter.{Counter, usual_tick}
use Rattle.tk_clock.specs.declared.command.Entry.{Entry}
use Rattle.tk_clock.specs.declared.timespec.Timespec.{Timespec}
use Rattle.tk_clock.specs.Time.{nanoseconds}
use Rattle.tk_clock.specs.Command.{is_suspend}

-- the clocks at the start of a journal
pub record Opening : Type 0 where
  -- the counter, and its reading at the opening
  pub counter : Counter
  pub reading : ℕ
  -- the number of commands that were accepted before the opening; the journal doesn't list them
  pub count : ℕ
  -- MONOTONIC and MONOTONIC_RAW at the reading, in units of 2^-shift nanoseconds
  pub amount : ℕ
  pub raw_amount : ℕ
  -- the frequency in force, in 2^-16 ppm, and the tick, in microseconds
  pub frequency : ℤ
  pub tick : ℤ
  -- REALTIME and BOOTTIME, both minus MONOTONIC, in nanoseconds
  pub real_offset : ℤ
  pub boot_offset : ℤ
  -- TAI minus REALTIME, in seconds
  pub tai : ℤ
  pub asleep : Bool

-- an opening, and the entries that were accepted since, in order
pub record Journal : Type 0 where
  pub opening : Opening
  pub entries : List Entry

-- the journal of newly opened clocks, without entries: MONOTONIC is 0, REALTIME is as given, and
-- the clocks are awake and run at their usual rate
abbrev pub opened : Counter → ℕ → Timespec → Journal
opened counter reading real =
    record {
      opening = record {
        counter = counter;
        reading = reading;
        count = 0;
        amount = 0;
        raw_amount = 0;
        frequency = pos 0;
        tick = usual_tick;
        real_offset = nanoseconds real;
        boot_offset = pos 0;
        tai = pos 0;
        asleep = false;
      };
      entries = [];
    }

-- the number of accepted commands, including the folded ones
abbrev pub accepted_count : Journal → ℕ
accepted_count journal = journal.opening.count + length journal.entries

-- the journal with only its first n entries
abbrev pub prefix : ℕ → Journal → Journal
prefix n journal = record journal { entries = take n journal.entries }

-- the journal with one more entry
abbrev pub followed_by : Journal → Entry → Journal
followed_by journal entry = record journal { entries = journal.entries ++ entry ∷ [] }

-- the value of f for the entry at a place; places count from 1, and place 0 gives the opening's
-- value
abbrev pub at_place : {X : Type 0} → X → (Entry → X) → List Entry → ℕ → X
at_place opening f entries place = get_or (opening ∷ map f entries) place opening

-- the reading of the entry at a place
abbrev pub reading_at : Journal → ℕ → ℕ
reading_at journal place =
    at_place journal.opening.reading (λ (e : Entry). e.reading) journal.entries place

-- whether the clocks are asleep after a place: the entry there is a suspend, or at place 0 the
-- opening is asleep. A resume is the next entry that can be accepted
abbrev pub is_asleep_at : Journal → ℕ → Bool
is_asleep_at journal place =
    at_place journal.opening.asleep (λ (e : Entry). is_suspend e.cmd) journal.entries place

-- the reading of the last entry, or of the opening if there is no entry
abbrev pub last_reading : Journal → ℕ
last_reading journal = reading_at journal (length journal.entries)

-- whether the clocks are asleep after the last entry
abbrev pub is_asleep : Journal → Bool
is_asleep journal = is_asleep_at journal (length journal.entries)

-- the last value of a list, or the value before the list if it is empty
abbrev pub latest : {X : Type 0} → X → List X → X
latest before [] = before
latest before (value ∷ values) = latest value values

-- the places of the entries for which a test holds; the first entry is at place `before` + 1
abbrev pub places : (Entry → Bool) → ℕ → List Entry → List ℕ
places test before [] = []
places test before (entry ∷ entries) =
    if test entry then (before + 1) ∷ places test (before + 1) entries
    else places test (before + 1) entries
