use Rattle.std.proofs.Common.{◌≡◌, ap, ◌∙◌, subst}
use Rattle.std.specs.Prelude.{IfOk, codes}
use Rattle.clap.specs.Words.{App, app_of, with_subcommand}
use Rattle.tk_command_line.specs.CommandLine.{files_words}
use Rattle.tk_command_line.proofs.command_line.program.Goals as goal

abbrev many_words : App
many_words = files_words (codes "many") (codes "WORKERS")

abbrev race_words : App
race_words = files_words (codes "race") (codes "STEP")

pub returns : goal.returns
returns c =
    let with_many = c.in_ok-command-2.ensures many_words c.files_command.ensures.words
    ∙ ap (λ (app : App). with_subcommand app many_words.top) c.in_ok-command.ensures in
    subst
    (λ (app : App).
    IfOk c.and_words-2.result (λ whole. app_of whole ≡ with_subcommand app race_words.top))
    with_many (c.and_words-2.ensures race_words c.files_command-2.ensures.words)
