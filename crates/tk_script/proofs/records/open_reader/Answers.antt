use Rattle.std.proofs.Common.{◌∙◌, inr}
use Rattle.tk_script.proofs.ReadingLemmas.{left-all}
use Rattle.tk_script.proofs.records.open_reader.Goals as goal

pub returns-clause-left : goal.returns-clause-left
returns-clause-left c = let fr = c.from_reader.ensures
    in left-all c.from_reader.result c.args.bytes.now fr.source fr.state

pub returns-clause-reading : goal.returns-clause-reading
returns-clause-reading c =
    let fr = c.from_reader.ensures in
    let e = c.has_headers.ensures in
    let f = c.flexible.ensures in (
      rw (f, e) at fr.trim ∙ c.new.ensures.trim,
      inr (inr (rw (f, e) at fr.has_headers, fr.headers)),
      rw (f, e) at fr.config ∙ c.new.ensures.config,
      rw f at fr.flexible,
    )
