use Rattle.std.proofs.Common.{rules, ◌≡◌, ◌++◌, ◌∷◌, []}
use Rattle.tk_script.specs.Grammar.{parse_of}
use Rattle.tk_script.proofs.ComingLemmas.{opened-row}
use Rattle.tk_script.proofs.script.Script.from_bytes.Goals as goal

pub rows-preserved : goal.rows-preserved
rows-preserved c =
    let step = rw c.in-Some.is at c.in_ok-row.ensures in
    let more : c.push.new.self.items ≡ c.rows.rows.items ++ c.in-Some.row ∷ [] = search rules in (
      step.0,
      opened-row (parse_of c.args.bytes.now) c.in_ok-start.start c.rows.rows.items
          c.push.new.self.items c.in-Some.row
          c.rows.reader c.next_row.new.self c.rows.invariant.1 step.2 more,
    )
