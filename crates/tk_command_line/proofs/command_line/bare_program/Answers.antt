use Rattle.std.proofs.Common.{true, ap, ◌∙◌}
use Rattle.clap.specs.Simple.{App, app_of_fields}
use Rattle.clap.specs.declared.builder.command.Command.{Command}
use Rattle.clap.specs.declared.builder.command.Command.TheOpen.{Command-F}
use Rattle.tk_command_line.proofs.command_line.bare_program.Goals as goal

-- a program without a flag or subcommand for help
abbrev helpless : App → App
helpless app = record {
  top = record app.top { disable_help_flag = true; disable_help_subcommand = true };
  subs = app.subs;
}

pub returns : goal.returns
returns c =
    let flagged = ap (λ (fields : Command-F Command). record fields { disable_help_subcommand = true })
    c.disable_help_flag.ensures in
    ap app_of_fields (c.disable_help_subcommand.ensures ∙ flagged) ∙ ap helpless c.new.ensures.app
