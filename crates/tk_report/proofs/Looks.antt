-- A read of the clocks gives the line of a read of their journal.
use Rattle.std.proofs.Common.{◌≡◌, ◌∙◌, ℕ, List, refl, sym, ap, subst}
use Rattle.std.specs.Prelude.{ℤ, int_lt, nat_lt, not, Option, Some, None, if◌then◌else◌}
use Rattle.tk_counter.specs.Counter.{mask}
use Rattle.tk_clock.specs.declared.clock_id.ClockId.{ClockId}
use Rattle.tk_clock.specs.declared.refusal.ReadError.{ReadError}
use Rattle.tk_clock.specs.declared.refusal.ReadError.TheVariants.{Invalid, Range}
use Rattle.tk_clock.specs.declared.timespec.Timespec.{Timespec}
use Rattle.tk_clock.specs.Clocks.{clock_value}
use Rattle.tk_clock.specs.Journal.{Journal}
use Rattle.tk_clock.specs.Limits.{limit}
use Rattle.tk_clock.specs.Refusal.{read_refusal, refusal_of}
use Rattle.tk_clock.specs.State.{ReadBase, base_of, base_value}
use Rattle.tk_clock.specs.Time.{nanoseconds}
use Rattle.tk_clock.proofs.Ledger.{base_value-base_of}
use Rattle.tk_keeper.specs.Read.{IsTimeOf, read_fault}
use Rattle.tk_script.specs.Lines.{IsAtLine, no_line}
use Rattle.tk_report.specs.Report.{IsLookLine, missed_at, missed_if}
use Rattle.tk_report.proofs.Times.{IsTimeAt-read}

-- both refuse the same reads
pub read_fault-base : (journal : Journal) (base : ReadBase) (clock : ClockId) (reading : ℕ) →
    base ≡ base_of journal →
    read_refusal base clock reading ≡ read_fault journal clock reading
read_fault-base journal base clock reading same =
    let fault : ℤ → Option ReadError = λ value.
    if nat_lt (mask journal.opening.counter) reading then Some Invalid
    else if not (int_lt value (limit clock)) then Some Range
    else None in
    ap (λ (b : ReadBase). read_refusal b clock reading) same
    ∙ ap fault (base_value-base_of journal clock reading)

-- what a read of the journal gives: its line, and the expected value that it does not give
abbrev pub IsLooked : Journal → ClockId → ℕ → Option ℕ → List ℕ → Option ℕ → Type 0
IsLooked journal clock reading expected line missed =
    IsLookLine journal clock reading (read_fault journal clock reading) line
    × (missed ≡ missed_at journal clock reading expected)

pub looked-at : (journal : Journal) (base : ReadBase) (clock : ClockId) (reading : ℕ)
    (expected missed : Option ℕ) (time : Timespec) (line : List ℕ) → base ≡ base_of journal →
    read_refusal base clock reading ≡ None → IsTimeOf (base_value base clock reading) time →
    IsAtLine clock time line → missed ≡ missed_if None (nanoseconds time) expected →
    IsLooked journal clock reading expected line missed
looked-at journal base clock reading expected missed time line same free known at stated =
    let value : base_value base clock reading ≡ clock_value journal clock reading =
    ap (λ (b : ReadBase). base_value b clock reading) same
    ∙ base_value-base_of journal clock reading in
    let passed : None ≡ read_fault journal clock reading =
    sym free ∙ read_fault-base journal base clock reading same in
    let read : IsTimeOf (clock_value journal clock reading) time =
    subst (λ (v : ℤ). IsTimeOf v time) value known in (
      subst (λ (r : Option ReadError). IsLookLine journal clock reading r line) passed
          (time, IsTimeAt-read journal clock reading time read, at),
      stated
          ∙ ap (λ (v : ℤ). missed_if None v expected) read.0
          ∙ ap (λ (r : Option ReadError).
          missed_if r (clock_value journal clock reading) expected) passed,
    )

expected-missed : (error : ReadError) (nanos : ℤ) (expected : Option ℕ) →
    expected ≡ missed_if (Some error) nanos expected
expected-missed error nanos None = refl
expected-missed error nanos (Some value) = refl

pub looked-refused : (journal : Journal) (base : ReadBase) (clock : ClockId) (reading : ℕ)
    (expected : Option ℕ) (error : ReadError) → base ≡ base_of journal →
    read_refusal base clock reading ≡ Some error →
    IsLooked journal clock reading expected (no_line (refusal_of error)) expected
looked-refused journal base clock reading expected error same refused =
    let fault : Some error ≡ read_fault journal clock reading =
    sym refused ∙ read_fault-base journal base clock reading same in (
      subst (λ (r : Option ReadError).
          IsLookLine journal clock reading r (no_line (refusal_of error))) fault refl,
      expected-missed error (clock_value journal clock reading) expected
          ∙ ap (λ (r : Option ReadError).
          missed_if r (clock_value journal clock reading) expected) fault,
    )
