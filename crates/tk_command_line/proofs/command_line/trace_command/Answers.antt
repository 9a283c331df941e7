use Rattle.std.proofs.Common.{◌≡◌, false}
use Rattle.std.proofs.lemmas.Result.{IfOk-weaker}
use Rattle.std.specs.Prelude.{codes}
use Rattle.clap.specs.Words.{AddsArg, App, app_of, new_app, with_rule}
use Rattle.clap.specs.declared.builder.command.Command.{Command}
use Rattle.clap.specs.declared.builder.command.Command.TheViews.{out-Command}
use Rattle.tk_command_line.specs.CommandLine.{trace_words, word_rule}
use Rattle.tk_command_line.proofs.Words.{with_argument}
use Rattle.tk_command_line.proofs.command_line.trace_command.Goals as goal

abbrev clock_words : App
clock_words = with_rule (new_app (codes "trace")) (word_rule (codes "CLOCK"))

abbrev script_words : App
script_words = with_rule clock_words (word_rule (codes "SCRIPT"))

with_script : (c : goal.After-arg-3) → (app_of c.in_ok-arg-2.field-0 ≡ script_words)
    × ((out-Command c.in_ok-arg-2.field-0).has_globals ≡ false)
with_script c =
    let first = with_argument _ _ _ (new_app (codes "trace")) (word_rule (codes "CLOCK"))
    c.in_ok-arg.ensures c.word_argument.ensures.rule c.word_argument.ensures.local
    c.new.ensures.app c.new.ensures.local in
    with_argument _ _ _ clock_words (word_rule (codes "SCRIPT")) c.in_ok-arg-2.ensures
    c.word_argument-2.ensures.rule c.word_argument-2.ensures.local first.0 first.1

whole : (c : goal.After-arg-3) (command : Command) →
    AddsArg c.in_ok-arg-2.field-0 c.word_argument-3.result command →
    (app_of command ≡ trace_words) × ((out-Command command).has_globals ≡ false)
whole c command adds =
    let script = with_script c in
    with_argument _ _ _ script_words (word_rule (codes "STAMPS")) adds
    c.word_argument-3.ensures.rule c.word_argument-3.ensures.local script.0 script.1

pub returns-clause-words : goal.returns-clause-words
returns-clause-words c =
    IfOk-weaker _ _ _ (λ command adds. (whole c command adds).0) c.arg-3.ensures

pub returns-clause-local : goal.returns-clause-local
returns-clause-local c =
    IfOk-weaker _ _ _ (λ command adds. (whole c command adds).1) c.arg-3.ensures
