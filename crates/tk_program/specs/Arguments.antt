-- The arguments of a process.
use Rattle.std.specs.Prelude.{◌≡◌, ◌⊎◌, ℕ, List, Result, Ok, Err}
use Rattle.std.specs.declared.io.ErrorKind.{ErrorKind}
use Rattle.tk_command_line.specs.declared.words_error.WordsError.{WordsError}
use Rattle.tk_command_line.specs.declared.words_error.WordsError.TheVariants as errors
use Rattle.tk_command_line.specs.WordsError.{unread_of}

-- the arguments of a process, by the results that their reading gives: the error of a reading that
-- failed, or an allocation failed after they were read
abbrev pub AreUnread : (Result (List (List ℕ)) ErrorKind → Type 0) → WordsError → Type 0
AreUnread give error =
    ((kind : ErrorKind) × give (Err kind) × (error ≡ unread_of kind))
    ⊎ ((words : List (List ℕ)) × give (Ok words) × (error ≡ errors.Memory))
