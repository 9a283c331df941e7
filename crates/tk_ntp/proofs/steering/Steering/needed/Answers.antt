use Rattle.std.proofs.Common.{◌∙◌, ap, ◌+ℤ◌, w64, FitsSigned}
use Rattle.std.proofs.lemmas.Int.{to_z-of_z}
use Rattle.tk_ntp.specs.Ntp.{second_length}
use Rattle.tk_ntp.specs.Steering.{Steered, needed}
use Rattle.tk_ntp.proofs.Needed.{needed_fits}
use Rattle.tk_ntp.proofs.steering.Steering.needed.Goals as goal

pub overflow_add-result : goal.overflow_add-result
overflow_add-result c =
    let length = c.second_length.result in
    let made = c.made_up.result in
    rw (
      to_z-of_z w64 length (record { sfits = c.second_length.type_inv }),
      to_z-of_z w64 made (record { sfits = c.made_up.type_inv }),
    )
    (needed_fits c.self.inside.ntp length made c.second_length.ensures.ranges
    c.second_length.ensures.near c.made_up.ensures.short)

pub returns : goal.returns
returns c =
    let length = c.second_length.result in
    let made = c.made_up.result in
    let fits : FitsSigned w64 (length +ℤ made) =
    needed_fits c.self.inside.ntp length made c.second_length.ensures.ranges
    c.second_length.ensures.near c.made_up.ensures.short in
    rw (
      to_z-of_z w64 length (record { sfits = c.second_length.type_inv }),
      to_z-of_z w64 made (record { sfits = c.made_up.type_inv }),
      to_z-of_z w64 (length +ℤ made) fits,
    )
    (ap (λ z. z +ℤ made) c.second_length.ensures.value
    ∙ ap (λ z. second_length c.self.inside.ntp +ℤ z) c.made_up.ensures.value
    ∙ ap (λ (s : Steered). needed c.args.desc s) c.self.view_is)
