use Rattle.std.proofs.Common.{◌≡◌, ◌≢◌, List, [], ◌∷◌, refl, map, string_bytes}
use Rattle.std.specs.Prelude.{Option, None, Err}
use Rattle.clap.specs.Kinds.{Kinds}
use Rattle.clap.specs.Words.{Row, Text, fault_of, subcommand_of}
use Rattle.tk_command_line.specs.declared.words_error.WordsError.{WordsError}
use Rattle.tk_command_line.specs.declared.words_error.WordsError.TheVariants as errors
use Rattle.tk_command_line.specs.CommandLine.{IsAsked, asked_by, program_words, task_if}
use Rattle.tk_command_line.proofs.command_line.asked.Goals as goal

-- arguments with a fault are refused
nothing : (kinds : Kinds) (found : Option (Text × List Row)) → kinds ≢ [] → task_if kinds found ≡ None
nothing [] found differs = absurd (differs refl)
nothing (kind ∷ kinds) found differs = refl

-- the result is an error if the arguments have a fault or an allocation failed
failed : (words : List Text) (error : WordsError) →
    (error ≡ errors.Refused → fault_of program_words words ≢ []) → IsAsked words (Err error)
unfolding asked_by
failed words errors.Refused differs =
    nothing (fault_of program_words words) (subcommand_of program_words words) (differs refl)
failed words errors.Memory differs = tt

pub returns-in-Err-clause-asked : goal.returns-in-Err-clause-asked
returns-in-Err-clause-asked c = failed (map string_bytes c.args.words.now) c.in-Err.error c.in-Err.ensures.err
