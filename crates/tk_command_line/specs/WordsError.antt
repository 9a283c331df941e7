-- Why arguments aren't accepted, and the texts of these errors.
use Rattle.std.specs.Prelude.{ℕ, List, codes}
use Rattle.clap.specs.declared.error.ErrorKind.{ErrorKind}
use Rattle.clap.specs.declared.error.ErrorKind.TheVariants.{OutOfMemory}
use Rattle.std.specs.declared.io.ErrorKind as io
use Rattle.std.specs.declared.io.ErrorKind.TheVariants as kinds
use Rattle.tk_command_line.specs.declared.words_error.WordsError.{WordsError}
use Rattle.tk_command_line.specs.declared.words_error.WordsError.TheVariants as errors

-- why arguments aren't accepted, by the kind of their fault
abbrev pub error_of : ErrorKind → WordsError
error_of OutOfMemory = errors.Memory
error_of _ = errors.Refused

-- why arguments can't be read, by the kind of the error
abbrev pub unread_of : io.ErrorKind → WordsError
unread_of kinds.OutOfMemory = errors.Memory
unread_of _ = errors.Refused

-- the text of an error
abbrev pub words_text : WordsError → List ℕ
words_text errors.Refused = codes "words refused"
words_text errors.Memory = codes "out of memory"
