-- A clock's value has exactly one time in seconds and nanoseconds.
use Rattle.std.proofs.Common.{◌≡◌, ◌∙◌, ℕ, ◌+◌, ◌*◌, ◌^◌, ◌<◌, refl, sym, arith, Bool, true, false}
use Rattle.std.specs.Prelude.{ℤ, pos, negsuc, ◌+ℤ◌, ◌*ℤ◌, ◌≤ℤ◌, ◌<ℤ◌, int_lt, unsigned_abs, not, Some, None, if◌then◌else◌}
use Rattle.std.proofs.lemmas.Int.{ints}
use Rattle.tk_clock.specs.declared.timespec.Timespec.{Timespec}
use Rattle.tk_clock.specs.declared.clock_id.ClockId.{ClockId}
use Rattle.tk_clock.specs.declared.clock_id.ClockId.TheVariants.{Realtime, Monotonic, Boottime, Tai, RealtimeCoarse, MonotonicCoarse, MonotonicRaw}
use Rattle.tk_clock.specs.declared.refusal.ReadError.TheVariants.{Invalid, Range}
use Rattle.tk_clock.specs.Clocks.{clock_value}
use Rattle.tk_clock.specs.Journal.{Journal}
use Rattle.tk_clock.specs.Limits.{limit, clock_end}
use Rattle.tk_clock.specs.Refusal.{read_refusal}
use Rattle.tk_clock.specs.State.{ReadBase, base_value}
use Rattle.tk_clock.specs.Time.{nanoseconds}
use Rattle.tk_clock.proofs.Settings.{below-of}
use Rattle.tk_keeper.specs.Read.{IsTimeOf}
use Rattle.tk_ntp.proofs.Real.{timespec_of-parts}
use Rattle.tk_script.specs.Lines.{IsWritable}
use Rattle.tk_report.specs.Report.{IsTimeAt}

is_time_at : (journal : Journal) (clock : ClockId) (reading : ℕ) (sec : ℤ) (nsec : ℕ) →
    sec *ℤ pos (10 ^ 9) +ℤ pos nsec ≡ clock_value journal clock reading → nsec < 10 ^ 9 →
    pos 0 ≤ℤ sec →
    IsTimeAt journal clock reading (record { sec = sec; nsec = nsec })
is_time_at journal clock reading (pos sec) nsec same low start =
    let sum : pos sec *ℤ pos (10 ^ 9) +ℤ pos nsec ≡ pos (sec * 10 ^ 9 + nsec) = omega (arith, ints)
    in
    (sec * 10 ^ 9 + nsec, sym same ∙ sum, sym (timespec_of-parts sec nsec low))
is_time_at journal clock reading (negsuc less) nsec same low start = absurd (omega (arith, ints))

-- a time with the same nanoseconds as the clock's value is the clock's time
pub IsTimeAt-nanoseconds : (journal : Journal) (clock : ClockId) (reading : ℕ) (time : Timespec) →
    nanoseconds time ≡ clock_value journal clock reading → time.nsec < 10 ^ 9 → pos 0 ≤ℤ time.sec →
    IsTimeAt journal clock reading time
IsTimeAt-nanoseconds journal clock reading time same low start =
    is_time_at journal clock reading time.sec time.nsec same low start

-- no clock has a greater limit
limit_most : (clock : ClockId) → limit clock ≤ℤ pos (clock_end * 10 ^ 9)
limit_most Monotonic = omega (arith, ints)
limit_most MonotonicCoarse = omega (arith, ints)
limit_most Realtime = omega (arith, ints)
limit_most RealtimeCoarse = omega (arith, ints)
limit_most Boottime = omega (arith, ints)
limit_most Tai = omega (arith, ints)
limit_most MonotonicRaw = omega (arith, ints)

below_end : (sec : ℤ) (nsec : ℕ) → (sec *ℤ pos (10 ^ 9) +ℤ pos nsec) <ℤ pos (clock_end * 10 ^ 9) →
    pos 0 ≤ℤ sec →
    (unsigned_abs sec < clock_end) × (sec ≡ pos (unsigned_abs sec))
below_end (pos sec) nsec low start = (omega (arith, ints), refl)
below_end (negsuc less) nsec low start = absurd (omega (arith, ints))

not_past : (above below : Bool) →
    (if above then Some Invalid else if not below then Some Range else None) ≡ None →
    below ≡ true
not_past true below known = cc
not_past false true known = refl
not_past false false known = cc

-- the time of a read that is not refused can be written
pub IsWritable-read : (base : ReadBase) (clock : ClockId) (reading : ℕ) (time : Timespec) →
    read_refusal base clock reading ≡ None → IsTimeOf (base_value base clock reading) time →
    IsWritable time
IsWritable-read base clock reading time free known =
    let value = base_value base clock reading in
    let low : int_lt value (limit clock) ≡ true = not_past _ _ free in
    let below = below-of value (limit clock) low in
    let most = limit_most clock in
    let end = below_end time.sec time.nsec (omega (arith, ints, known.0, below, most)) known.2 in
    (end.0, end.1, known.1)

whole_seconds : (sec : ℤ) → pos 0 ≤ℤ sec → sec ≡ pos (unsigned_abs sec)
whole_seconds (pos sec) start = refl
whole_seconds (negsuc less) start = absurd (omega (arith, ints))

-- the time of a clock can be written if its seconds are low
pub IsWritable-low : (nanos : ℤ) (time : Timespec) → IsTimeOf nanos time →
    unsigned_abs time.sec < clock_end → IsWritable time
IsWritable-low nanos time known low = (low, whole_seconds time.sec known.2, known.1)

-- this time is the clock's time at the reading
pub IsTimeAt-read : (journal : Journal) (clock : ClockId) (reading : ℕ) (time : Timespec) →
    IsTimeOf (clock_value journal clock reading) time → IsTimeAt journal clock reading time
IsTimeAt-read journal clock reading time known =
    IsTimeAt-nanoseconds journal clock reading time known.0 known.1 known.2
