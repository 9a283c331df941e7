use Rattle.std.proofs.Common.{◌≡◌, [], drop}
use Rattle.csv.specs.Machine.{next_record}
use Rattle.csv.specs.Reading.{default_config}
use Rattle.csv.specs.declared.parser.State.TheVariants.{StartRecord}
use Rattle.tk_script.specs.Plain.{IsPlain}
use Rattle.tk_script.proofs.plain.after_empty_lines.Given as goal

-- the bytes so far are empty lines
abbrev pub invariant-loop-i : goal.invariant-loop-i
invariant-loop-i l =
    (next_record default_config StartRecord [] [] (drop l.i l.text)
    ≡ next_record default_config StartRecord [] [] l.text)
    × IsPlain (drop l.i l.text)
