-- A snapshot as ten 64-bit words, for a page that is read without the keeper's lock.
use Rattle.std.specs.Prelude.{ℕ, ◌+◌, ◌*◌, ◌/◌, ◌%◌, ◌==◌, pos, unsigned_abs, List, [], ◌∷◌, slice_index, Bool, ◌&&◌, nat_lt, nat_le, int_lt, Option, Some, None, if◌then◌else◌}
use Rattle.tk_counter.specs.Counter.{Counter, mask, fastest, second}
use Rattle.tk_clock.specs.declared.clock_id.ClockId.TheVariants.{Realtime, Boottime, Tai as TaiClock}
use Rattle.tk_clock.specs.State.{ReadBase, base_value}
use Rattle.tk_clock.specs.Limits.{limit, monotonic_end, raw_end, greatest_tai}
use Rattle.tk_clock.specs.Snapshot.{Snapshot}

-- the words of a snapshot: word 0 is the front, 1 the last reading, 2 the multiplier; 3 and 4 are
-- MONOTONIC at that reading, as units of 2^-shift nanoseconds below a second and as seconds; 5 and
-- 6 are REALTIME and BOOTTIME, both minus MONOTONIC, in nanoseconds; 7 is the TAI offset in seconds
-- times 2, plus 1 while asleep; 8 and 9 are MONOTONIC_RAW, in the form of MONOTONIC
abbrev pub words_of : Snapshot → List ℕ
words_of snapshot =
    let base = snapshot.base in
    snapshot.front ∷ base.last ∷ base.mult
    ∷ (base.amount % second base.counter) ∷ (base.amount / second base.counter)
    ∷ unsigned_abs base.real_offset ∷ unsigned_abs base.boot_offset
    ∷ (unsigned_abs base.tai * 2 + (if base.asleep then 1 else 0))
    ∷ (base.raw_amount % second base.counter) ∷ (base.raw_amount / second base.counter)
    ∷ []

-- the TAI offset that the words encode, in seconds
abbrev pub tai_of_words : List ℕ → ℕ
tai_of_words words = slice_index words 7 / 2

-- whether all words are in their ranges
unfoldable pub are_in_range : Counter → List ℕ → Bool
are_in_range counter words =
    nat_le (slice_index words 1) (mask counter)
    && nat_le 1 (slice_index words 2) && nat_le (slice_index words 2) (fastest counter)
    && nat_lt (slice_index words 3) (second counter) && nat_lt (slice_index words 4) monotonic_end
    && nat_le (tai_of_words words) greatest_tai
    && nat_lt (slice_index words 8) (second counter) && nat_lt (slice_index words 9) raw_end

-- the snapshot that the words encode
abbrev pub snapshot_of_words : Counter → List ℕ → Snapshot
snapshot_of_words counter words = record {
  front = slice_index words 0;
  base = record {
    counter = counter;
    last = slice_index words 1;
    mult = slice_index words 2;
    amount = slice_index words 4 * second counter + slice_index words 3;
    raw_amount = slice_index words 9 * second counter + slice_index words 8;
    real_offset = pos (slice_index words 5);
    boot_offset = pos (slice_index words 6);
    tai = pos (tai_of_words words);
    asleep = slice_index words 7 % 2 == 1;
  };
}

-- whether REALTIME, BOOTTIME and TAI are below their limits at the last reading
unfoldable pub is_within : ReadBase → Bool
is_within base =
    int_lt (base_value base Boottime base.last) (limit Boottime)
    && int_lt (base_value base Realtime base.last) (limit Realtime)
    && int_lt (base_value base TaiClock base.last) (limit TaiClock)

-- the snapshot that the words encode, if all words are in their ranges, and REALTIME, BOOTTIME and
-- TAI are below their limits
abbrev pub restored : Counter → List ℕ → Option Snapshot
restored counter words =
    if are_in_range counter words && is_within (snapshot_of_words counter words).base
    then Some (snapshot_of_words counter words) else None
