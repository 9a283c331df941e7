-- The view of a script that contracts use.
use Rattle.tk_script.specs.declared.script.Script.{Script}
use Rattle.tk_script.specs.Grammar.{Parse}

-- the content of a script, regardless of its place in memory
abbrev pub parse : Script → Parse
parse script =
    record { start = script.start; rows = script.rows.items }
