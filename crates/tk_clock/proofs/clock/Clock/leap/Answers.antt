use Rattle.std.proofs.Common.{◌≡◌, ◌^◌, ◌∙◌, sym, ap, w64}
use Rattle.std.specs.Prelude.{pos, ◌+ℤ◌, ◌*ℤ◌}
use Rattle.std.proofs.lemmas.Int.{to_z-of_z}
use Rattle.tk_clock.specs.State.{ReadBase, State}
use Rattle.tk_clock.proofs.Ranges.{leap-between}
use Rattle.tk_clock.proofs.Settings.{leap_nanoseconds, leap_state}
use Rattle.tk_clock.proofs.clock.Clock.leap.Goals as goal

pub with_tai-requires-clause-least : goal.with_tai-requires-clause-least
with_tai-requires-clause-least c =
    rw (to_z-of_z w64 c.args.tai c.ranges.tai)
    (leap-between c.args.self.now c.args.now.last c.args.by c.args.tai c.requires.early).0

pub with_tai-requires-clause-most : goal.with_tai-requires-clause-most
with_tai-requires-clause-most c =
    rw (to_z-of_z w64 c.args.tai c.ranges.tai)
    (leap-between c.args.self.now c.args.now.last c.args.by c.args.tai c.requires.early).1

pub returns : goal.returns
returns c =
    let state = c.args.self.now in
    let now = c.args.now in
    let offset = c.in_ok-offset.offset in
    let tai = to_z-of_z w64 c.args.tai c.ranges.tai in
    let stated = rw (to_z-of_z w64 c.args.by c.ranges.by, tai) at c.in_ok-offset.ensures in
    let moved : pos offset ≡ now.real_offset +ℤ c.args.by *ℤ pos (10 ^ 9) =
    stated.1 ∙ ap (λ z. now.real_offset +ℤ z) (sym (leap_nanoseconds c.args.by)) in (
      stated.0,
      c.set_to.ensures
          ∙ ap (λ (b : ReadBase). let after : State = record state {
            base = record b { real_offset = pos offset };
          } in after) (rw tai at c.with_tai.ensures)
          ∙ leap_state state now c.args.by c.args.tai offset c.requires.forwarded moved,
    )
