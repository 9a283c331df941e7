-- The grammar of a command with one more argument.
use Rattle.std.proofs.Common.{◌≡◌, false, ap₂, ◌∙◌}
use Rattle.std.specs.Prelude.{◌||◌}
use Rattle.clap.specs.Words.{AddsArg, App, Rule, app_of, rule_of, with_rule}
use Rattle.clap.specs.declared.builder.arg.Arg.{Arg}
use Rattle.clap.specs.declared.builder.command.Command.{Command}
use Rattle.clap.specs.declared.builder.command.Command.TheViews.{out-Command}

-- the grammar and, because the argument isn't global, whether the grammar contains global arguments
pub with_argument : (old : Command) (argument : Arg) (new : Command) (app : App) (rule : Rule) →
    AddsArg old argument new → rule_of argument ≡ rule → argument.global ≡ false →
    app_of old ≡ app → (out-Command old).has_globals ≡ false →
    (app_of new ≡ with_rule app rule) × ((out-Command new).has_globals ≡ false)
with_argument old argument new app rule adds is local known none = (
  adds.shape local ∙ ap₂ with_rule known is,
  adds.globals ∙ ap₂ (λ one other. one || other) none local,
)
