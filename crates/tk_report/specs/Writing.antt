-- Writing a text: the part of it that was written, and the reason why writing stopped.
use Rattle.std.specs.Prelude.{ℕ, ◌≤◌, List, take, length, Option, None, Bool, true, false, ◌⊎◌}
use Rattle.std.specs.Io.KnownBytes.{Appends}

-- the first `written` bytes of the text were written
abbrev pub IsWrittenUpTo : Option (List ℕ) → Option (List ℕ) → List ℕ → ℕ → Type 0
IsWrittenUpTo old new text written = (written ≤ length text) × Appends old new (take written text)

-- the last call left the sink in this state, by the relations between calls and their results: a
-- write that failed or took nothing, or a flush that failed
abbrev pub WriteFailed : {S : Type 0} → (S → List ℕ → Option ℕ → S → Type 0) →
    (S → Bool → S → Type 0) → S → Type 0
WriteFailed {S} write_gives flush_gives now =
    (before : S) × (((text : List ℕ) × write_gives before text None now)
    ⊎ flush_gives before false now)

-- the last call left the sink in this state: a flush that succeeded
abbrev pub IsFlushed : {S : Type 0} → (S → Bool → S → Type 0) → S → Type 0
IsFlushed {S} flush_gives now = (before : S) × flush_gives before true now
