-- An actor's actions, one after the other.
use Rattle.std.proofs.Common.{◌≡◌, ℕ, ◌+◌, ◌<◌, List, [], ◌∷◌, ◌++◌, length, get_or, take, refl, sym, ◌∙◌, subst, arith}
use Rattle.std.proofs.lemmas.List.{take_more}
use Rattle.std.proofs.lemmas.List.Sums.{sum_by_push}
use Rattle.tk_clock.specs.Journal.{Journal}
use Rattle.tk_now.specs.declared.counter.SharedTicker.{SharedTicker}
use Rattle.tk_shared.specs.Callers.{Known}
use Rattle.tk_clock.proofs.Lists.{prefix_trans}
use Rattle.tk_shared.proofs.Snapshots.{snapshots_prefix}
use Rattle.tk_race.specs.declared.action.Action.{Action}
use Rattle.tk_race.specs.declared.action.RaceReply.{RaceReply}
use Rattle.tk_race.specs.Actor.{IsAnswer, IsHistoryOf, IsLater, HasActed, Knows, last_front, last_mark}
use Rattle.tk_race.specs.Replies.{AreReplies, IsReply, front_after, mark_after, done_by, reads_by, times_by}
use Rattle.tk_page.proofs.Beginnings.{begins-trans}

-- a history for the knowledge of a caller is also one for its former knowledge
history_before : (now next : Known) (done looks times : ℕ) (history : Journal) →
    IsLater now next done looks times →
    IsHistoryOf next history → IsHistoryOf now history
history_before now next done looks times history later is = record {
  whole = is.whole;
  begins = begins-trans now.seen next.seen history later.seen is.begins;
  learnt = snapshots_prefix history now.learnt.publications next.learnt.publications is.learnt
      later.learnt;
}

later_twice : (start now next : Known) (one other both saw more all asked again times : ℕ) →
    IsLater start now one saw asked → IsLater now next other more again → both ≡ one + other →
    all ≡ saw + more → times ≡ asked + again → IsLater start next both all times
later_twice start now next one other both saw more all asked again times p q sum total counted = record {
  id = q.id ∙ p.id;
  seen = begins-trans start.seen now.seen next.seen p.seen q.seen;
  learnt = prefix_trans start.learnt.publications now.learnt.publications next.learnt.publications
      p.learnt q.learnt;
  counted = (let first = p.counted in let rest = q.counted in omega (arith, first, rest, sum));
  looked = λ none.
      (let first = p.looked (omega (arith, none, counted)) in
      let rest = q.looked (omega (arith, none, counted)) in
      omega (arith, first, rest, total));
}

-- one more right reply
module _ (ticker : SharedTicker) (history : Journal) (id : ℕ) where
  replies_push : (front mark : ℕ) (actions : List Action) (replies : List RaceReply)
      (action : Action) (reply : RaceReply) →
      AreReplies ticker history id front mark actions replies →
      IsReply ticker history id (last_front front replies) (last_mark mark replies) action reply →
      AreReplies ticker history id front mark (actions ++ action ∷ []) (replies ++ reply ∷ [])
  replies_push front mark [] [] action reply are last = (last, tt)
  replies_push front mark [] (r ∷ rs) action reply are last = absurd are
  replies_push front mark (a ∷ acts) [] action reply are last = absurd are
  replies_push front mark (a ∷ acts) (r ∷ rs) action reply are last = (
    are.0,
    replies_push (front_after front r) (mark_after mark r) acts rs action reply are.1 last,
  )

last_front-push : (front : ℕ) (replies : List RaceReply) (reply : RaceReply) →
    last_front front (replies ++ reply ∷ []) ≡ front_after (last_front front replies) reply
last_front-push front [] reply = refl
last_front-push front (r ∷ rs) reply = last_front-push (front_after front r) rs reply

last_mark-push : (mark : ℕ) (replies : List RaceReply) (reply : RaceReply) →
    last_mark mark (replies ++ reply ∷ []) ≡ mark_after (last_mark mark replies) reply
last_mark-push mark [] reply = refl
last_mark-push mark (r ∷ rs) reply = last_mark-push (mark_after mark r) rs reply

-- one more action
acted_push : (ticker : SharedTicker) (start now next : Known) (actions : List Action)
    (replies : List RaceReply) (action : Action) (reply : RaceReply) →
    HasActed ticker start now actions replies → IsAnswer ticker now next action reply →
    HasActed ticker start next (actions ++ action ∷ []) (replies ++ reply ∷ [])
acted_push ticker start now next actions replies action reply acted answer = record {
  later = later_twice start now next _ (done_by reply) _ _ (reads_by reply) _ _ (times_by reply) _
      acted.later answer.later (sum_by_push done_by replies reply)
      (sum_by_push reads_by replies reply) (sum_by_push times_by replies reply);
  right = λ history is.
      (let was =
      acted.right history
      (history_before now next (done_by reply) (reads_by reply) (times_by reply) history
      answer.later is) in
      let front = last_front 0 replies in
      let mark = last_mark 0 replies in
      let stated = answer.right history is front mark was.1 in
      let last = subst (λ (id : ℕ). IsReply ticker history id front mark action reply)
      acted.later.id stated.0 in (
        replies_push ticker history start.id 0 0 actions replies action reply was.0 last,
        subst (λ (t : ℕ × ℕ). Knows next t.0 t.1)
            (λ i. (sym (last_front-push 0 replies reply) i, sym (last_mark-push 0 replies reply) i))
            stated.1,
      ));
}

-- one step of the loop over the actions
pub acted_next : (ticker : SharedTicker) (start now next : Known) (actions : List Action) (i : ℕ)
    (replies more : List RaceReply) (reply : RaceReply) (d : Action) → i < length actions →
    HasActed ticker start now (take i actions) replies →
    IsAnswer ticker now next (get_or actions i d) reply → more ≡ replies ++ reply ∷ [] →
    HasActed ticker start next (take (i + 1) actions) more
acted_next ticker start now next actions i replies more reply d below acted answer is =
    subst (λ (t : List Action × List RaceReply). HasActed ticker start next t.0 t.1)
    (λ j. (sym (take_more actions i d below) j, sym is j))
    (acted_push ticker start now next (take i actions) replies (get_or actions i d) reply acted
    answer)
