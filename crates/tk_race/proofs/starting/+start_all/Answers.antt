use Rattle.std.proofs.Common.{◌≡◌, ℕ, ◌<◌, ◌++◌, ◌∷◌, [], List, length, map, ap, subst, ◌∙◌, rules, arith, length-append}
use Rattle.std.proofs.lemmas.Slice.Zip.{AllZip-long}
use Rattle.tk_now.specs.declared.counter.SharedTicker.{SharedTicker}
use Rattle.tk_shared.specs.Callers.{Known}
use Rattle.tk_race.specs.declared.action.Action.{Action}
use Rattle.tk_race.specs.Actor.{AreReady, HasActed, IsReady}
use Rattle.tk_race.proofs.Actors.{acted_length, acted_last, map_last, ready_last}
use Rattle.tk_race.proofs.starting.+start_all.Given.{Over}
use Rattle.tk_race.proofs.starting.+start_all.Goals.{After-unwrap-actor}
use Rattle.tk_race.proofs.starting.+start_all.Goals as goal

pub unwrap-actor-requires : goal.unwrap-actor-requires
unwrap-actor-requires g t c =
    let others = map (λ a. a.items) c.in-Some.others.now in
    let whole = map_last (λ a. a.items) _ _ _ c.in-Some.ensures.cases.0 in
    let many = AllZip-long IsReady _ _ c.requires.ready in
    let n = ap length whole ∙ length-append others (c.in-Some.last.now.items ∷ []) in
    let some : 0 < length c.args.actors.items = omega (arith, many, n) in
    search rules

-- the actor that was taken is the last one
popped : (g : Over) (t : ℕ) (c : After-unwrap-actor g t) →
    c.args.actors.items ≡ c.pop.new.self.items ++ c.unwrap-actor.result ∷ []
popped g t c = search rules

-- the others are ready, and so is the last
ready : (g : Over) (t : ℕ) (c : After-unwrap-actor g t) →
    AreReady (map (λ a. a.items) c.in-Some.others.now) c.pop.new.self.items
    × IsReady c.in-Some.last.now.items c.unwrap-actor.result
ready g t c = ready_last _ _ _ _ _ _ c.requires.ready
    (map_last (λ a. a.items) _ _ _ c.in-Some.ensures.cases.0) (popped g t c)

pub start-requires-clause-ready : goal.start-requires-clause-ready
start-requires-clause-ready g t c κs within =
    (ready g t (goal.at.start-requires-clause-ready g t c).After-unwrap-actor).1

pub start_all-requires-clause-ready : goal.start_all-requires-clause-ready
start_all-requires-clause-ready g t c κs within =
    (ready g t (goal.at.start_all-requires-clause-ready g t c).After-unwrap-actor).0

pub push_reserved-requires : goal.push_reserved-requires
push_reserved-requires g t c =
    let same = acted_length _ _ _ _ c.in_ok-back.ensures.acted in
    search rules

pub returns-clause-acted : goal.returns-clause-acted
returns-clause-acted g t c =
    let whole = map_last (λ a. a.items) _ _ _ c.in-Some.ensures.cases.0 in
    let taken = popped g t (goal.at.returns-clause-acted g t c).After-unwrap-actor in
    let new = c.join.result in
    let promised = c.in_ok-handle.ensures in
    let ticker = c.args.track.now.counter.now in
    let acted : HasActed ticker c.unwrap-actor.result.caller new.caller c.in-Some.last.now.items
    new.replies =
    subst
    (λ (t : SharedTicker × Known × List Action). HasActed t.0 t.1 new.caller t.2 new.replies)
    {y = (ticker, c.unwrap-actor.result.caller, c.in-Some.last.now.items)}
    (λ i. (promised.2 i, promised.0 i, ap (λ a. a.items) promised.1 i)) c.join.ensures in
    acted_last ticker (map (λ a. a.items) c.args.actions.now)
    (map (λ a. a.items) c.in-Some.others.now) c.in-Some.last.now.items c.args.actors.items c.pop.new.self.items c.unwrap-actor.result
    c.push_reserved.new.self.items c.in_ok-back.back.items new whole taken
    c.push_reserved.ensures.items c.in_ok-back.ensures.acted acted
