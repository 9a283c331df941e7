-- Lists of actors and of their actions, item by item.
use Rattle.std.proofs.Common.{◌≡◌, ℕ, suc, ◌+◌, ◌<◌, ◌≤◌, append_assoc, map, take, get_or, List, [], ◌∷◌, ◌++◌, length, refl, sym, ap, ◌∙◌, subst, arith, length-append}
use Rattle.std.specs.List.{AllZip}
use Rattle.std.proofs.lemmas.List.{map-append, length-map, take_more}
use Rattle.std.proofs.lemmas.Slice.Zip.{AllZip-long}
use Rattle.tk_now.specs.declared.counter.SharedTicker.{SharedTicker}
use Rattle.tk_shared.specs.Callers.{Known}
use Rattle.tk_race.specs.declared.action.Action.{Action}
use Rattle.tk_race.specs.declared.action.RaceReply.{RaceReply}
use Rattle.tk_race.specs.Actor.{Actor, AreReady, HasActed, HaveActed, HaveDone, IsReady}

module _ {A B : Type 0} (R : A → B → Type 0) where
  zip_push : (xs : List A) (x : A) (ys : List B) (y : B) → AllZip R xs ys → R x y →
      AllZip R (xs ++ x ∷ []) (ys ++ y ∷ [])
  zip_push [] x [] y all last = (last, tt)
  zip_push [] x (z ∷ zs) y all last = absurd all
  zip_push (w ∷ ws) x [] y all last = absurd all
  zip_push (w ∷ ws) x (z ∷ zs) y all last = (all.0, zip_push ws x zs y all.1 last)

  zip_last : (xs : List A) (x : A) (ys : List B) (y : B) → AllZip R (xs ++ x ∷ []) (ys ++ y ∷ []) →
      AllZip R xs ys × R x y
  zip_last [] x [] y all = (tt, all.0)
  zip_last [] x (z ∷ zs) y all =
      let long = AllZip-long R [] (zs ++ y ∷ []) all.1 in
      let more = length-append zs (y ∷ []) in
      absurd (omega (arith, long, more))
  zip_last (w ∷ ws) x [] y all =
      let long = AllZip-long R (ws ++ x ∷ []) [] all.1 in
      let more = length-append ws (x ∷ []) in
      absurd (omega (arith, long, more))
  zip_last (w ∷ ws) x (z ∷ zs) y all =
      let rest = zip_last ws x zs y all.1 in ((all.0, rest.0), rest.1)

-- a list's items mapped: first all but the last, and then the last one
pub map_last : {A B : Type 0} (f : A → B) (whole rest : List A) (last : A) →
    whole ≡ rest ++ last ∷ [] → map f whole ≡ map f rest ++ f last ∷ []
map_last f whole rest last is = ap (map f) is ∙ map-append f rest (last ∷ [])

-- all actors except the last, and the last one
pub ready_last : (whole rest : List (List Action)) (last : List Action) (actors others : List Actor)
    (actor : Actor) → AreReady whole actors → whole ≡ rest ++ last ∷ [] →
    actors ≡ others ++ actor ∷ [] → AreReady rest others × IsReady last actor
ready_last whole rest last actors others actor are a b =
    zip_last IsReady rest last others actor
    (subst (λ (t : List (List Action) × List Actor). AreReady t.0 t.1) (λ i. (a i, b i)) are)

-- as many actors come back as were sent
module _ (ticker : SharedTicker) where
  pub acted_length : (actions : List (List Action)) (olds news : List Actor) →
      HaveActed ticker actions olds news → length news ≡ length olds
  acted_length [] [] [] have = refl
  acted_length [] [] (new ∷ news) have = absurd have
  acted_length [] (old ∷ olds) news have = absurd have
  acted_length (a ∷ acts) [] news have = absurd have
  acted_length (a ∷ acts) (old ∷ olds) [] have = absurd have
  acted_length (a ∷ acts) (old ∷ olds) (new ∷ news) have =
      ap suc (acted_length acts olds news have.1)

  acted_push : (actions : List (List Action)) (last : List Action) (olds : List Actor)
      (old : Actor) (news : List Actor) (new : Actor) → HaveActed ticker actions olds news →
      HasActed ticker old.caller new.caller last new.replies →
      HaveActed ticker (actions ++ last ∷ []) (olds ++ old ∷ []) (news ++ new ∷ [])
  acted_push [] last [] old [] new have acted = (acted, tt)
  acted_push [] last [] old (n ∷ ns) new have acted = absurd have
  acted_push [] last (o ∷ os) old news new have acted = absurd have
  acted_push (a ∷ acts) last [] old news new have acted = absurd have
  acted_push (a ∷ acts) last (o ∷ os) old [] new have acted = absurd have
  acted_push (a ∷ acts) last (o ∷ os) old (n ∷ ns) new have acted =
      (have.0, acted_push acts last os old ns new have.1 acted)

  pub acted_last : (whole rest : List (List Action)) (last : List Action)
      (olds others : List Actor) (old : Actor) (back before : List Actor) (new : Actor) →
      whole ≡ rest ++ last ∷ [] → olds ≡ others ++ old ∷ [] → back ≡ before ++ new ∷ [] →
      HaveActed ticker rest others before →
      HasActed ticker old.caller new.caller last new.replies → HaveActed ticker whole olds back
  acted_last whole rest last olds others old back before new a b d have acted =
      subst (λ (t : List (List Action) × List Actor × List Actor). HaveActed ticker t.0 t.1 t.2)
      (λ i. (sym a i, sym b i, sym d i)) (acted_push rest last others old before new have acted)

-- one more actor is ready
ready_next : {A : Type 0} (f : A → List Action) (xs : List A) (actors more : List Actor) (d : A)
    (actor : Actor) → length actors < length xs → AreReady (map f (take (length actors) xs)) actors →
    IsReady (f (get_or xs (length actors) d)) actor → more ≡ actors ++ actor ∷ [] →
    AreReady (map f (take (length more) xs)) more
ready_next f xs actors more d actor below are last is =
    let n = length actors in
    let here = get_or xs n d in
    let longer : length more ≡ n + 1 = ap length is ∙ length-append actors (actor ∷ []) in
    let taken : map f (take (length more) xs) ≡ map f (take n xs) ++ f here ∷ [] =
    ap (λ k. map f (take k xs)) longer ∙ ap (map f) (take_more xs n d below)
    ∙ map-append f (take n xs) (here ∷ []) in
    subst (λ (t : List (List Action) × List Actor). AreReady t.0 t.1) (λ i. (sym taken i, sym is i))
    (zip_push IsReady (map f (take n xs)) (f here) actors actor are last)

-- one step of the loop over the callers
pub next_actor : {A : Type 0} (f : A → List Action) (xs : List A) (actors more : List Actor)
    (actions : A) (index : ℕ) (actor : Actor) (all rest others : List Known) →
    length all ≡ length xs → map (λ a. a.caller) actors ++ rest ≡ all →
    rest ≡ actor.caller ∷ others → index ≡ length actors → actions ≡ get_or xs index actions →
    AreReady (map f (take (length actors) xs)) actors → actor.replies ≡ [] →
    length (f actions) ≤ actor.room → more ≡ actors ++ actor ∷ [] →
    (map (λ a. a.caller) more ++ others ≡ all) × AreReady (map f (take (length more) xs)) more
next_actor f xs actors more actions index actor all rest others many callers step here read are
    empty room is =
    let known = map (λ (a : Actor). a.caller) actors in
    let whole : known ++ actor.caller ∷ others ≡ all = ap (λ l. known ++ l) (sym step) ∙ callers in
    let total = ap length whole in
    let sum = length-append known (actor.caller ∷ others) in
    let same = length-map actors (λ (a : Actor). a.caller) in
    let got : actions ≡ get_or xs (length actors) actions =
    read ∙ ap (λ i. get_or xs i actions) here in (
      ap (λ l. map (λ (a : Actor). a.caller) l ++ others) is
          ∙ ap (λ l. l ++ others) (map-append (λ (a : Actor). a.caller) actors (actor ∷ []))
          ∙ append_assoc known (actor.caller ∷ []) others ∙ whole,
      ready_next f xs actors more actions actor (omega (arith, total, sum, same, many)) are
          (empty, subst (λ b. length (f b) ≤ actor.room) got room) is,
    )

-- as many actors come back as there are lists of actions
pub many_acted : {A : Type 0} (ticker : SharedTicker) (f : A → List Action) (xs : List A)
    (olds news : List Actor) → AreReady (map f xs) olds → HaveActed ticker (map f xs) olds news →
    length news ≡ length xs
many_acted ticker f xs olds news are have =
    acted_length ticker (map f xs) olds news have ∙ AllZip-long IsReady (map f xs) olds are
    ∙ length-map xs f

-- as many callers come back as were sent
pub many_done : (ticker : SharedTicker) (actions : List (List Action)) (before after : List Known)
    (replies : List (List RaceReply)) → HaveDone ticker actions before after replies →
    length after ≡ length before
many_done ticker actions before after replies done =
    ap length done.ended ∙ length-map done.news (λ (a : Actor). a.caller)
    ∙ acted_length ticker actions done.olds done.news done.acted
    ∙ sym (length-map done.olds (λ (a : Actor). a.caller)) ∙ ap length done.began
