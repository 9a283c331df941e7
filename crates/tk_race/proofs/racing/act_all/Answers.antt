use Rattle.std.proofs.Common.{rules}
use Rattle.tk_race.proofs.Actors.{many_acted}
use Rattle.tk_race.proofs.racing.act_all.Goals as goal

pub part-requires-clause-room : goal.part-requires-clause-room
part-requires-clause-room g c =
    let many =
    many_acted c.args.track.now.counter.now (λ a. a.items) c.args.actions.now
    c.in_ok-actors.actors.items c.in_ok-acted.acted.items c.in_ok-actors.ensures.ready c.in_ok-acted.ensures in
    search rules

pub returns : goal.returns
returns g c = record {
  olds = c.in_ok-actors.actors.items;
  news = c.in_ok-acted.acted.items;
  acted = c.in_ok-acted.ensures;
  began = c.in_ok-actors.ensures.callers;
  ended = c.part.ensures.callers;
  replied = c.part.ensures.replies;
}
