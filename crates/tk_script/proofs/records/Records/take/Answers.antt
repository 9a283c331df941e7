use Rattle.tk_script.proofs.CursorLemmas.{takes-first}
use Rattle.tk_script.proofs.records.Records.take.Goals as goal

pub returns-in-Plain-clause-some : goal.returns-in-Plain-clause-some
returns-in-Plain-clause-some g c =
    rw c.in-Plain.is (takes-first g.T.Frequent.item_of c.take.result c.in-Plain.lines c.take.new.self
    (rw c.in-Plain.is at c.requires) c.take.ensures.some)
