use Rattle.std.proofs.Common.{◌≡◌, ◌∙◌, w64, to_z, of_z}
use Rattle.std.proofs.lemmas.Int.{to_z-of_z}
use Rattle.tk_ntp.specs.Steering.{needed}
use Rattle.tk_ntp.proofs.steering.Steering.rate.Goals as goal

pub returns-clause-given : goal.returns-clause-given
returns-clause-given c = λ range.
    let length : to_z w64 (of_z w64 c.needed.result) ≡ needed c.args.desc c.args.self.now =
    to_z-of_z w64 c.needed.result (record { sfits = c.needed.type_inv }) ∙ c.needed.ensures in
    let given = rw length at (c.of_length.ensures.given c.args.desc) in
    given range
