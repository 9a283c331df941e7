use Rattle.std.proofs.Common.{◌∙◌, refl, ap, false}
use Rattle.std.specs.Prelude.{ℤ, pos, ◌+ℤ◌}
use Rattle.tk_clock.specs.State.{ReadBase, State}
use Rattle.tk_clock.specs.declared.command.Command.TheVariants.{Resume}
use Rattle.tk_clock.proofs.Ranges.{resumed-below}
use Rattle.tk_clock.proofs.Effects.{settled_effect}
use Rattle.tk_clock.proofs.clock.Clock.resume.Goals as goal

pub nanos_of-requires-clause-since : goal.nanos_of-requires-clause-since
nanos_of-requires-clause-since c =
    (resumed-below c.args.self.now c.args.reading c.args.away c.requires).since

pub nanos_of-requires-clause-until : goal.nanos_of-requires-clause-until
nanos_of-requires-clause-until c =
    (resumed-below c.args.self.now c.args.reading c.args.away c.requires).until

pub nanos_of-requires-clause-rest : goal.nanos_of-requires-clause-rest
nanos_of-requires-clause-rest c =
    (resumed-below c.args.self.now c.args.reading c.args.away c.requires).rest

pub returns : goal.returns
returns c =
    let state = c.args.self.now in
    let reading = c.args.reading in
    let put : ℤ → ReadBase → State = λ away base. record state {
      base = record base {
        last = reading;
        real_offset = base.real_offset +ℤ away;
        boot_offset = base.boot_offset +ℤ away;
        asleep = false;
      };
    } in
    let same = ap (λ (b : ReadBase). let after : State = record state { base = b }
    in after) c.woken.ensures
    ∙ ap (λ (s : State). put (pos c.nanos_of.result) s.base) c.self.view_is
    ∙ ap (λ away. put away state.base) c.nanos_of.ensures.value in
    settled_effect state reading (Resume c.args.away) (record state { base = c.woken.result })
    c.settled.result refl same c.settled.ensures
