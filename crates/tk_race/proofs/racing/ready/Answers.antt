use Rattle.std.proofs.Common.{◌≡◌, ◌∷◌, ◌≤◌, length, rules}
use Rattle.std.specs.Vec.{vec_capacity}
use Rattle.std.specs.Vec.Iter.{into_iter_items}
use Rattle.tk_race.proofs.Actors.{next_actor}
use Rattle.tk_race.proofs.racing.ready.Goals as goal

pub loop-caller-preserved : goal.loop-caller-preserved
loop-caller-preserved g c =
    let left = into_iter_items c.loop-caller.caller-iterator in
    let others = into_iter_items c.next.new.self in
    let actions = c.index-actions-len.result in
    let replies = c.in_ok-replies.replies in
    let step : left ≡ c.in-Some.caller ∷ others = search rules in
    let many : length c.args.callers.items ≡ length c.args.actions.now = search rules in
    let here : c.len.result ≡ length c.loop-caller.actors.items = search rules in
    let room : length actions.items ≤ vec_capacity replies = search rules in
    let next =
    next_actor (λ a. a.items) c.args.actions.now c.loop-caller.actors.items
    c.push_reserved.new.self.items actions c.len.result _ c.args.callers.items left others many
    c.loop-caller.invariant.callers step here c.index-actions-len.is
    c.loop-caller.invariant.ready c.in_ok-replies.ensures.items room
    c.push_reserved.ensures.items in
    record { callers = next.0; ready = next.1; room = search rules }
