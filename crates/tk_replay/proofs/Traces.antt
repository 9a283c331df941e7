-- The result of a trace of two inputs, case by case.
use Rattle.std.proofs.Common.{◌≡◌, ℕ, List, refl, sym, subst, inl, inr}
use Rattle.std.specs.Prelude.{◌⊎◌, Option, Result, Ok, Err, IsOk, MatchResult}
use Rattle.tk_clock.specs.declared.clock_id.ClockId.{ClockId}
use Rattle.tk_clock.specs.Journal.{Journal}
use Rattle.tk_keeper.specs.declared.trace_error.TraceError.{TraceError}
use Rattle.tk_script.specs.declared.opening.Start.{Start}
use Rattle.tk_script.specs.declared.script_error.ScriptError.{ScriptError}
use Rattle.tk_script.specs.declared.script_error.ScriptError.TheVariants as errors
use Rattle.tk_script.specs.Coming.{opened_with}
use Rattle.tk_script.specs.Grammar.{Fails, Parse, parse_of}
use Rattle.tk_script.specs.Stamps.{Items, stamps_of}
use Rattle.tk_report.specs.declared.fault.Fault.{Fault}
use Rattle.tk_report.specs.declared.fault.Fault.TheVariants as faults
use Rattle.tk_report.specs.Reading.{IsReadToEnd}
use Rattle.tk_report.specs.Replay.{IsStopped}
use Rattle.tk_report.specs.AllRows.{IsJournalOf}
use Rattle.tk_replay.specs.Trace.{AreReadToEnd, IsItemsFault, IsItemsText, IsTrace, IsTraceFault, fault_of_stamps}
use Rattle.tk_report.proofs.Rows.{Rows}

-- a script with a journal has no fault
pub whole-journal : (read : Result Parse ScriptError) (journal : Journal) →
    IsJournalOf read journal → IsOk read
whole-journal (Ok parse) journal known = refl
whole-journal (Err error) journal known = absurd known

-- the journal of a script is the journal of its opening and its rows
pub journal-read : (read whole : Result Parse ScriptError) (journal : Journal) → whole ≡ read →
    IsJournalOf read journal → IsJournalOf whole journal
journal-read read whole journal same =
    subst (λ (r : Result Parse ScriptError). IsJournalOf r journal) (sym same)

-- a script whose rows have no fault has none
pub whole-rows : (read : Result Parse ScriptError) (start : Start) (rows : Rows) →
    read ≡ opened_with start rows → IsOk rows → IsOk read
whole-rows read start (Ok rows) opens whole = rw opens refl
whole-rows read start (Err fault) opens whole = absurd (cc whole)

-- an allocation failed, or the bytes have this fault
abbrev pub MayFault : ClockId → List ℕ → List ℕ → Fault → Type 0
MayFault clock script stamps fault =
    (fault ≡ faults.Memory) ⊎ IsTraceFault clock script stamps fault

-- a fault of the stamp file, after a script without a fault
pub MayFault-stamps : (clock : ClockId) (script stamps : List ℕ) (error : ScriptError) →
    IsOk (parse_of script) → Fails error (stamps_of stamps) → MayFault clock script stamps (fault_of_stamps error)
MayFault-stamps clock script stamps errors.Memory whole fails = inl refl
MayFault-stamps clock script stamps errors.TooLarge whole fails =
    inr (whole, fails, λ e. cc e)
MayFault-stamps clock script stamps errors.Empty whole fails =
    inr (whole, fails, λ e. cc e)
MayFault-stamps clock script stamps (errors.Opening row) whole fails =
    inr (whole, fails, λ e. cc e)
MayFault-stamps clock script stamps (errors.Word row) whole fails =
    inr (whole, fails, λ e. cc e)
MayFault-stamps clock script stamps (errors.Fields row) whole fails =
    inr (whole, fails, λ e. cc e)
MayFault-stamps clock script stamps (errors.Number row) whole fails =
    inr (whole, fails, λ e. cc e)
MayFault-stamps clock script stamps (errors.Counter row fault) whole fails =
    inr (whole, fails, λ e. cc e)

-- the result for the items is the result for the bytes that contain them
pub trace-converted : {A : Type 0} (clock : ClockId) (script stamps : List ℕ) (journal : Journal)
    (items : Items) (text_of : A → List ℕ) (result : Result A Fault) →
    IsJournalOf (parse_of script) journal → stamps_of stamps ≡ Ok items →
    MatchResult result (λ text. IsItemsText clock journal items (text_of text))
    (λ fault. (fault ≡ faults.Memory) ⊎ ((error : TraceError) × (fault ≡ faults.Trace error)
    × IsItemsFault clock journal items error)) →
    MatchResult result (λ text. IsTrace clock script stamps (text_of text))
    (MayFault clock script stamps)
trace-converted clock script stamps journal items text_of (Ok text) known given came =
    (journal, items, known, given, came)
trace-converted clock script stamps journal items text_of (Err fault) known given (inl none) =
    inl none
trace-converted clock script stamps journal items text_of (Err fault) known given (inr came) =
    let P : Fault → Type 0 = λ f. IsTraceFault clock script stamps f in
    inr (subst P (sym came.1) (journal, items, known, given, came.2))

-- a fault of the bytes that were read stopped the trace before it wrote anything
pub stopped-before : (clock : ClockId) (unread left stamps_unread stamps_left : Option (List ℕ))
    (read write same : Type 0) (WentOut : List ℕ → ℕ → Type 0) (script stamps : List ℕ)
    (fault : Fault) →
    IsReadToEnd unread left script → IsReadToEnd stamps_unread stamps_left stamps →
    MayFault clock script stamps fault → same →
    IsStopped
    (λ text. AreReadToEnd unread left stamps_unread stamps_left
    (λ script stamps. IsTrace clock script stamps text))
    (λ fault. AreReadToEnd unread left stamps_unread stamps_left
    (λ script stamps. IsTraceFault clock script stamps fault))
    read write same WentOut fault
stopped-before clock u l su sl read write same out script stamps faults.Memory one two may kept =
    kept
stopped-before clock u l su sl read write same out script stamps (faults.Script error)
    one two (inl none) kept = absurd (cc none)
stopped-before clock u l su sl read write same out script stamps (faults.Script error)
    one two (inr known) kept = ((script, stamps, one, two, known), kept)
stopped-before clock u l su sl read write same out script stamps (faults.Stamps error)
    one two (inl none) kept = absurd (cc none)
stopped-before clock u l su sl read write same out script stamps (faults.Stamps error)
    one two (inr known) kept = ((script, stamps, one, two, known), kept)
stopped-before clock u l su sl read write same out script stamps (faults.Trace error)
    one two (inl none) kept = absurd (cc none)
stopped-before clock u l su sl read write same out script stamps (faults.Trace error)
    one two (inr known) kept = ((script, stamps, one, two, known), kept)
stopped-before clock u l su sl read write same out script stamps faults.Read
    one two (inl none) kept = absurd (cc none)
stopped-before clock u l su sl read write same out script stamps faults.Read
    one two (inr known) kept = absurd known
stopped-before clock u l su sl read write same out script stamps (faults.Write written)
    one two (inl none) kept = absurd (cc none)
stopped-before clock u l su sl read write same out script stamps (faults.Write written)
    one two (inr known) kept = absurd known
