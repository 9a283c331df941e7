-- The answer for a record of a session, by the definitions of tk_session.
use Rattle.std.specs.Prelude.{◌≡◌, ◌⊎◌, ℕ, ◌+◌, List, length, Bool, ◌&&◌, not, nat_eq, MatchBool}
use Rattle.tk_session.specs.Fault.{fault_text}
use Rattle.tk_session.specs.Session.{IsNoOpening, IsOpenedBy, IsRefused, Session, Takes}
use Rattle.tk_session.specs.declared.fault.Fault.{Fault}
use Rattle.tk_session_c.specs.Codes.{code_of_fault, number_of}
use Rattle.tk_session_c.specs.Storage.{with_text}
use Rattle.tk_session_c.specs.declared.code.Code.TheVariants.{Done}
use Rattle.tk_session_c.specs.declared.storage.TextStorage.{TextStorage}

-- whether a line is the first record of a session's script. An empty line is no record
abbrev pub is_opening : Session → List ℕ → Bool
is_opening session line = nat_eq session.records 0 && not (nat_eq (length line) 0)

-- a session took a line as its next record, the first one included, and these are the record's
-- lines
abbrev pub IsTaken : Session → List ℕ → List ℕ → Session → Type 0
IsTaken before line lines next =
    MatchBool (is_opening before line) (IsOpenedBy line lines next) (Takes before line lines next)

-- why a line isn't taken as the next record
abbrev pub IsNotTaken : Session → List ℕ → Fault → Type 0
IsNotTaken session line fault =
    MatchBool (is_opening session line) (IsNoOpening line fault)
    (IsRefused (session.records + 1) line fault)

-- the record's lines are written
pub record IsWritten (before : Session) (line : List ℕ) (old new : TextStorage) (code : ℕ)
    (next : Session) : Type 0 where
  pub lines : List ℕ
  pub taken : IsTaken before line lines next
  pub text : new ≡ with_text old lines
  pub done : code ≡ number_of Done

-- the fault's text is written, and the session doesn't change
pub record IsFaulty (before : Session) (line : List ℕ) (old new : TextStorage) (code : ℕ)
    (next : Session) : Type 0 where
  pub fault : Fault
  pub refused : IsNotTaken before line fault
  pub unchanged : next ≡ before
  pub text : new ≡ with_text old (fault_text fault)
  pub stated : code ≡ number_of (code_of_fault fault)

-- the answer for a line
abbrev pub IsRecorded : Session → List ℕ → TextStorage → TextStorage → ℕ → Session → Type 0
IsRecorded before line old new code next =
    IsWritten before line old new code next ⊎ IsFaulty before line old new code next
