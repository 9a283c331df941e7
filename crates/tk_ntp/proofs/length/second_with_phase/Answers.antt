use Rattle.std.proofs.Common.{◌≡◌, ◌∙◌, ap, ◌+◌, ◌/◌, pos, ◌+ℤ◌, ◌*ℤ◌, unsigned_abs, w64}
use Rattle.std.proofs.lemmas.Int.{to_z-of_z}
use Rattle.tk_ntp.specs.Length.{second_of, max_phase, max_frequency}
use Rattle.tk_ntp.proofs.Near.{near, shares, is_whole, positive_near}
use Rattle.tk_ntp.proofs.length.second_with_phase.Goals as goal

pub returns-clause-near : goal.returns-clause-near
returns-clause-near c =
    let hz = c.args.hz in
    let p = c.args.phase in
    let whole = second_of c.args.tick c.args.frequency in
    let w = unsigned_abs whole in
    let b = c.base_of.result in
    let r = c.length_of_second.result in
    let phase = to_z-of_z w64 p c.ranges.phase in
    let frequency = to_z-of_z w64 c.args.frequency c.ranges.frequency in
    let base_fits = to_z-of_z w64 b (record { sfits = c.base_of.type_inv }) in
    let out = to_z-of_z w64 r (record { sfits = c.length_of_second.type_inv }) in
    let stated : r ≡ (b +ℤ p) *ℤ pos hz = rw (base_fits, phase) at c.length_of_second.ensures in
    let base : b ≡ pos (w / hz) = rw frequency at c.base_of.ensures.value in
    let sum : r ≡ (pos (w / hz) +ℤ p) *ℤ pos hz = stated ∙ ap (λ z. (z +ℤ p) *ℤ pos hz) base in
    let is : whole ≡ pos w = is_whole c.args.tick c.args.frequency c.requires.slowest c.requires.held in
    rw (out, sum) (near w whole p hz (max_phase + max_frequency) is c.requires.some (shares (unsigned_abs p) hz c.requires.phase))

pub returns-clause-positive : goal.returns-clause-positive
returns-clause-positive c = λ few.
    positive_near _ c.args.tick c.args.frequency c.args.hz few c.requires.slowest c.requires.held
    (returns-clause-near c)
