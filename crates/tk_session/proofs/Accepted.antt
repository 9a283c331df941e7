-- MONOTONIC at a reading after an accepted command, read from the clocks, is that of their journal.
use Rattle.std.proofs.Common.{◌≡◌, ◌∙◌, ℕ, List, ap, subst, sym}
use Rattle.std.specs.Prelude.{ℤ, Option, Some, None}
use Rattle.tk_clock.specs.declared.clock_id.ClockId.TheVariants.{Monotonic}
use Rattle.tk_clock.specs.declared.refusal.ReadError.{ReadError}
use Rattle.tk_clock.specs.declared.timespec.Timespec.{Timespec}
use Rattle.tk_clock.specs.Clocks.{clock_value}
use Rattle.tk_clock.specs.Journal.{Journal}
use Rattle.tk_clock.specs.Refusal.{read_refusal, refusal_of}
use Rattle.tk_clock.specs.State.{ReadBase, base_of, base_value}
use Rattle.tk_clock.proofs.Ledger.{base_value-base_of}
use Rattle.tk_keeper.specs.Read.{IsTimeOf, read_fault}
use Rattle.tk_script.specs.Lines.{no_line, ok_line}
use Rattle.tk_report.specs.SteeredReport.{IsAcceptedLine}
use Rattle.tk_report.proofs.Looks.{read_fault-base}
use Rattle.tk_report.proofs.Times.{IsTimeAt-read}

module _ (journal : Journal) (base : ReadBase) (reading number : ℕ) (line : List ℕ) where
  pub accepted-read : (time : Timespec) → base ≡ base_of journal →
      read_refusal base Monotonic reading ≡ None →
      IsTimeOf (base_value base Monotonic reading) time → line ≡ ok_line number time →
      IsAcceptedLine journal reading number (read_fault journal Monotonic reading) line
  accepted-read time same free known is =
      let value : base_value base Monotonic reading ≡ clock_value journal Monotonic reading =
      ap (λ (b : ReadBase). base_value b Monotonic reading) same
      ∙ base_value-base_of journal Monotonic reading in
      let passed : None ≡ read_fault journal Monotonic reading =
      sym free ∙ read_fault-base journal base Monotonic reading same in
      let read : IsTimeOf (clock_value journal Monotonic reading) time =
      subst (λ (v : ℤ). IsTimeOf v time) value known in
      subst (λ (r : Option ReadError). IsAcceptedLine journal reading number r line) passed
      (time, IsTimeAt-read journal Monotonic reading time read, is)

  pub accepted-unread : (error : ReadError) → base ≡ base_of journal →
      read_refusal base Monotonic reading ≡ Some error → line ≡ no_line (refusal_of error) →
      IsAcceptedLine journal reading number (read_fault journal Monotonic reading) line
  accepted-unread error same refused is =
      let fault : Some error ≡ read_fault journal Monotonic reading =
      sym refused ∙ read_fault-base journal base Monotonic reading same in
      subst (λ (r : Option ReadError). IsAcceptedLine journal reading number r line) fault is
