use Rattle.std.proofs.Common.{◌≡◌, ap, ◌∙◌, subst}
use Rattle.std.specs.Prelude.{IfOk}
use Rattle.clap.specs.Words.{App, app_of, with_subcommand}
use Rattle.tk_command_line.specs.CommandLine.{replay_words, trace_words}
use Rattle.tk_command_line.proofs.command_line.one_script_program.Goals as goal

pub returns : goal.returns
returns c =
    let with_replay = c.in_ok-command.ensures replay_words c.replay_command.ensures.words
    ∙ ap (λ (bare : App). with_subcommand bare replay_words.top) c.bare_program.ensures in
    subst
    (λ (app : App).
    IfOk c.and_words-2.result (λ whole. app_of whole ≡ with_subcommand app trace_words.top))
    with_replay (c.and_words-2.ensures trace_words c.trace_command.ensures.words)
