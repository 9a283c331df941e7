-- The result of a call that reads inputs, makes a text from them and writes it; and the result of a
-- replay, which reads one script.
use Rattle.std.specs.Prelude.{◌≡◌, ◌≢◌, ℕ, List, Option, Bool, IfOk, Result, Ok, Err}
use Rattle.std.specs.Io.KnownBytes.{Appends}
use Rattle.tk_script.specs.declared.script_error.ScriptError.TheVariants as errors
use Rattle.tk_script.specs.Grammar.{parse_of}
use Rattle.tk_report.specs.declared.fault.Fault.{Fault}
use Rattle.tk_report.specs.declared.fault.Fault.TheVariants as faults
use Rattle.tk_report.specs.Reading.{IsReadToEnd, IsReadWithin}
use Rattle.tk_report.specs.Writing.{IsFlushed, IsWrittenUpTo, WriteFailed}

-- a text was written completely, and then a flush succeeded
abbrev pub IsDone : (List ℕ → Type 0) → Type 0 → (List ℕ → Type 0) → Type 0
IsDone IsText flushed WentOut = ((text : List ℕ) × IsText text × WentOut text) × flushed

-- the fault that stopped a call, and the state that it left:
-- - `Read`: the last read failed, and the writer is unchanged
-- - `Script`, `Stamps`, `Trace`: the inputs have this fault, and the writer is unchanged
-- - `Memory`: an allocation failed, and the writer is unchanged
-- - `Write`: the last write or the flush failed, after the first `written` bytes of a text were
--   written
abbrev pub IsStopped :
    (List ℕ → Type 0) → (Fault → Type 0) → Type 0 → Type 0 → Type 0 → (List ℕ → ℕ → Type 0) →
    Fault → Type 0
IsStopped IsText IsFault read write same WentOut faults.Read = read × same
IsStopped IsText IsFault read write same WentOut (faults.Script error) =
    IsFault (faults.Script error) × same
IsStopped IsText IsFault read write same WentOut (faults.Stamps error) =
    IsFault (faults.Stamps error) × same
IsStopped IsText IsFault read write same WentOut (faults.Trace error) =
    IsFault (faults.Trace error) × same
IsStopped IsText IsFault read write same WentOut faults.Memory = same
IsStopped IsText IsFault read write same WentOut (faults.Write written) =
    ((text : List ℕ) × IsText text × WentOut text written) × write

-- the result of such a call, for any inputs: `IsText` is the relation that selects the text of the
-- inputs, `IsFault` the relation that selects their fault, and `read` states that the last read of
-- them failed. `contents` gives the bytes of the writer, and `write_gives` and `flush_gives` relate
-- each of its calls to the result
abbrev pub CameTo :
    (List ℕ → Type 0) → (Fault → Type 0) → Type 0 →
    {W : Type 0} → (W → Option (List ℕ)) → (W → List ℕ → Option ℕ → W → Type 0) →
    (W → Bool → W → Type 0) → W → W → {A : Type 0} → Result A Fault → Type 0
CameTo IsText IsFault read contents write_gives flush_gives old new (Ok done) =
    IsDone IsText (IsFlushed flush_gives new) (Appends (contents old) (contents new))
CameTo IsText IsFault read contents write_gives flush_gives old new (Err fault) =
    IsStopped IsText IsFault read (WriteFailed write_gives flush_gives new) (new ≡ old)
    (IsWrittenUpTo (contents old) (contents new)) fault

-- the text that belongs to all bytes that were read from one input, by the relation `IsTextOf`
-- between bytes and their text
abbrev pub IsTextOfAll :
    (List ℕ → List ℕ → Type 0) → Option (List ℕ) → Option (List ℕ) → List ℕ → Type 0
IsTextOfAll IsTextOf unread left text =
    (bytes : List ℕ) × IsReadToEnd unread left bytes × IsTextOf bytes text

-- the fault of a script, in all bytes that were read from it; an allocation failure isn't such a
-- fault
abbrev pub IsScriptFault : Option (List ℕ) → Option (List ℕ) → Fault → Type 0
IsScriptFault unread left (faults.Script error) =
    (bytes : List ℕ) × IsReadToEnd unread left bytes
    × (parse_of bytes ≡ Err error) × (error ≢ errors.Memory)
IsScriptFault unread left faults.Read = ⊥
IsScriptFault unread left (faults.Stamps error) = ⊥
IsScriptFault unread left (faults.Trace error) = ⊥
IsScriptFault unread left faults.Memory = ⊥
IsScriptFault unread left (faults.Write written) = ⊥

-- the text that belongs to all bytes of a script, and the number of reads that do not give the value
-- that they expect, if the call returned one
abbrev pub IsCountedText :
    (List ℕ → List ℕ → ℕ → Type 0) → Result ℕ Fault → List ℕ → List ℕ → Type 0
IsCountedText IsTextOf result bytes text =
    (found : ℕ) × IsTextOf bytes text found × IfOk result (λ count. count ≡ found)

-- the result of a replay, by the relation `IsTextOf` between the bytes of a script, their report,
-- and the number of its reads that do not give the value that they expect: `unread` and `left` are
-- the remaining bytes of the reader before and after, and `read` states that its last read failed
pub record IsReplayed
    {W : Type 0} (IsTextOf : List ℕ → List ℕ → ℕ → Type 0)
    (unread left : Option (List ℕ)) (read : Type 0)
    (contents : W → Option (List ℕ)) (write_gives : W → List ℕ → Option ℕ → W → Type 0)
    (flush_gives : W → Bool → W → Type 0) (old new : W) (result : Result ℕ Fault) : Type 0 where
  pub within : IsReadWithin unread left
  pub came_to : CameTo (IsTextOfAll (IsCountedText IsTextOf result) unread left)
      (IsScriptFault unread left) read
      contents write_gives flush_gives old new result
