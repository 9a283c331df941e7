-- The outcome of a race, after its keeper was closed.
use Rattle.std.proofs.Common.{◌≡◌, ℕ, zero, suc, ◌+◌, ◌<◌, List, [], ◌∷◌, ◌++◌, All, length, map, sum_by, refl, sym, ap, ◌∙◌, subst, arith, length-append}
use Rattle.std.proofs.lemmas.List.Sums.{sum_by-cons}
use Rattle.tk_clock.specs.Journal.{Journal}
use Rattle.tk_clock.specs.Legal.{IsWhole}
use Rattle.tk_page.specs.History.{Begins}
use Rattle.tk_shared.specs.Folds.{NoticeIds}
use Rattle.tk_latch.specs.Latch.{LatchId}
use Rattle.tk_now.specs.declared.counter.SharedTicker.{SharedTicker}
use Rattle.tk_shared.specs.Callers.{Known, made_by, newcomer, newcomers}
use Rattle.tk_shared.specs.Closing.{IsApart, AreDifferent, IsClosed, IsCounted, IsPartOf, accepted_by}
use Rattle.tk_race.specs.declared.action.Action.{Action}
use Rattle.tk_race.specs.declared.action.RaceReply.{RaceReply}
use Rattle.tk_race.specs.Actor.{Actor, HasActed, HaveActed, IsHistoryOf}
use Rattle.tk_race.specs.Race.{HaveAll, IsOutcome}
use Rattle.tk_race.specs.Replies.{IsActed, done_in}
use Rattle.tk_page.proofs.Beginnings.{begins-trans}

-- the newcomers with the numbers k, k + 1 and so on
newcomers_from : LatchId → NoticeIds → Journal → ℕ → ℕ → List Known
newcomers_from latch notice start k zero = []
newcomers_from latch notice start k (suc n) =
    newcomer latch notice start k ∷ newcomers_from latch notice start (k + 1) n

from_push : (latch : LatchId) (notice : NoticeIds) (start : Journal) (k n : ℕ) →
    newcomers_from latch notice start k (suc n)
    ≡ newcomers_from latch notice start k n ++ newcomer latch notice start (k + n) ∷ []
unfolding newcomers_from
from_push latch notice start k zero = ap (λ (j : ℕ). newcomer latch notice start j ∷ []) (omega arith)
from_push latch notice start k (suc n) =
    ap (λ l. newcomer latch notice start k ∷ l) (from_push latch notice start (k + 1) n)
    ∙ ap (λ (j : ℕ). newcomer latch notice start k
    ∷ (newcomers_from latch notice start (k + 1) n ++ newcomer latch notice start j ∷ [])) (omega arith)

from_all : (latch : LatchId) (notice : NoticeIds) (start : Journal) (n : ℕ) →
    newcomers latch notice start n ≡ newcomers_from latch notice start 0 n
unfolding newcomers_from
from_all latch notice start zero = refl
from_all latch notice start (suc n) =
    ap (λ l. l ++ newcomer latch notice start n ∷ []) (from_all latch notice start n)
    ∙ sym (from_push latch notice start 0 n
    ∙ ap (λ (j : ℕ). newcomers_from latch notice start 0 n ++ newcomer latch notice start j ∷ []) (omega arith))

pub length-newcomers : (latch : LatchId) (notice : NoticeIds) (start : Journal) (n : ℕ) →
    length (newcomers latch notice start n) ≡ n
length-newcomers latch notice start zero = refl
length-newcomers latch notice start (suc n) =
    let rest = length-newcomers latch notice start n in
    let more = length-append (newcomers latch notice start n) (newcomer latch notice start n ∷ []) in
    omega (arith, rest, more)

module _ (ticker : SharedTicker) (latch : LatchId) (notice : NoticeIds) (start : Journal) where
  -- these actors were the newcomers with the numbers k, k + 1 and so on, and have done their
  -- actions
  abbrev HaveRaced : ℕ → List (List Action) → List Actor → Type 0
  HaveRaced k [] [] = Unit {0}
  HaveRaced k (actions ∷ others) (actor ∷ actors) =
      HasActed ticker (newcomer latch notice start k) actor.caller actions actor.replies
      × HaveRaced (k + 1) others actors
  HaveRaced k _ _ = ⊥

  raced_from : (k n : ℕ) (actions : List (List Action)) (olds news : List Actor) →
      map (λ a. a.caller) olds ≡ newcomers_from latch notice start k n →
      HaveActed ticker actions olds news →
      HaveRaced k actions news
  unfolding newcomers_from
  raced_from k n [] [] [] is have = tt
  raced_from k n [] [] (new ∷ news) is have = absurd have
  raced_from k n [] (old ∷ olds) news is have = absurd have
  raced_from k n (a ∷ acts) [] news is have = absurd have
  raced_from k n (a ∷ acts) (old ∷ olds) [] is have = absurd have
  raced_from k zero (a ∷ acts) (old ∷ olds) (new ∷ news) is have = absurd (cc is)
  raced_from k (suc n) (a ∷ acts) (old ∷ olds) (new ∷ news) is have =
      let first : old.caller ≡ newcomer latch notice start k = cc is in (
        subst (λ (c : Known). HasActed ticker c new.caller a new.replies) first have.0,
        raced_from (k + 1) n acts olds news (cc is) have.1,
      )

  all_raced : (n : ℕ) (actions : List (List Action)) (olds news : List Actor) →
      map (λ a. a.caller) olds ≡ newcomers latch notice start n →
      HaveActed ticker actions olds news →
      HaveRaced 0 actions news
  all_raced n actions olds news is have =
      raced_from 0 n actions olds news (is ∙ from_all latch notice start n) have

  -- the callers' numbers stay different
  apart_from : (id k : ℕ) → id < k → (actions : List (List Action)) (news : List Actor) →
      HaveRaced k actions news → IsApart id (map (λ a. a.caller) news)
  apart_from id k low [] [] have = tt
  apart_from id k low [] (new ∷ news) have = absurd have
  apart_from id k low (a ∷ acts) [] have = absurd have
  apart_from id k low (a ∷ acts) (new ∷ news) have =
      let mine : new.caller.id ≡ k = have.0.later.id in (
        (λ e. absurd (omega (arith, mine, e, low))),
        apart_from id (k + 1) (omega (arith, low)) acts news have.1,
      )

  different_from : (k : ℕ) (actions : List (List Action)) (news : List Actor) →
      HaveRaced k actions news → AreDifferent (map (λ a. a.caller) news)
  different_from k [] [] have = tt
  different_from k [] (new ∷ news) have = absurd have
  different_from k (a ∷ acts) [] have = absurd have
  different_from k (a ∷ acts) (new ∷ news) have =
      let mine : new.caller.id ≡ k = have.0.later.id in (
        apart_from new.caller.id (k + 1) (omega (arith, mine)) acts news have.1,
        different_from (k + 1) acts news have.1,
      )

  pub all_different : (n : ℕ) (actions : List (List Action)) (olds news : List Actor) →
      map (λ a. a.caller) olds ≡ newcomers latch notice start n →
      HaveActed ticker actions olds news →
      AreDifferent (map (λ a. a.caller) news)
  all_different n actions olds news is have =
      different_from 0 actions news (all_raced n actions olds news is have)

  -- an actor's part in the history
  part : (history : Journal) (k : ℕ) (actions : List Action)
      (new : Actor) → IsWhole history →
      HasActed ticker (newcomer latch notice start k) new.caller actions new.replies →
      IsPartOf history new.caller → IsCounted history new.caller →
      IsActed ticker history k actions new.replies
  part history k actions new whole acted is own =
      let known : IsHistoryOf new.caller history =
      record { whole = whole; begins = is.begins; learnt = is.learnt } in
      let counted : new.caller.accepted ≡ 0 + done_in new.replies = acted.later.counted in
      record {
        right = (acted.right history known).0;
        own = subst (λ (id : ℕ). made_by id history.entries ≡ done_in new.replies) acted.later.id
            (own ∙ omega (arith, counted));
      }

  all_from : (history : Journal) (k : ℕ) (actions : List (List Action))
      (news : List Actor) → IsWhole history → HaveRaced k actions news →
      All (IsPartOf history) (map (λ a. a.caller) news) →
      All (IsCounted history) (map (λ a. a.caller) news) →
      HaveAll ticker history k actions (map (λ a. a.replies) news)
  all_from history k [] [] whole have parts own = tt
  all_from history k [] (new ∷ news) whole have parts own = absurd have
  all_from history k (a ∷ acts) [] whole have parts own = absurd have
  all_from history k (a ∷ acts) (new ∷ news) whole have parts own = (
    part history k a new whole have.0 (parts 0 new.caller (omega arith))
        (own 0 new.caller (omega arith)),
    all_from history (k + 1) acts news whole have.1
        (λ i d l. parts (suc i) d (omega (arith, l)))
        (λ i d l. own (suc i) d (omega (arith, l))),
  )

  -- the number of done orders is the number of accepted commands of the callers
  counted_from : (k : ℕ) (actions : List (List Action)) (news : List Actor) →
      HaveRaced k actions news →
      accepted_by (map (λ a. a.caller) news) ≡ sum_by done_in (map (λ a. a.replies) news)
  counted_from k [] [] have = refl
  counted_from k [] (new ∷ news) have = absurd have
  counted_from k (a ∷ acts) [] have = absurd have
  counted_from k (a ∷ acts) (new ∷ news) have =
      let mine : new.caller.accepted ≡ 0 + done_in new.replies = have.0.later.counted in
      let rest = counted_from (k + 1) acts news have.1 in
      let callers =
      sum_by-cons (λ (c : Known). c.accepted) new.caller (map (λ a. a.caller) news) in
      let replies = sum_by-cons done_in new.replies (map (λ a. a.replies) news) in
      omega (arith, mine, rest, callers, replies)

  -- the history begins with the opening that all callers knew
  begins_all : (history : Journal) (actions : List (List Action)) (news : List Actor) →
      0 < length actions → HaveRaced 0 actions news →
      All (IsPartOf history) (map (λ a. a.caller) news) → Begins start history
  begins_all history [] news some have parts = absurd (omega (arith, some))
  begins_all history (a ∷ acts) [] some have parts = absurd have
  begins_all history (a ∷ acts) (new ∷ news) some have parts =
      begins-trans start new.caller.seen history have.0.later.seen
      (parts 0 new.caller (omega arith)).begins

  pub outcome : (journal : Journal) (n : ℕ) (actions : List (List Action)) (olds news : List Actor)
      (callers : List Known) (replies : List (List RaceReply)) → 0 < length actions →
      map (λ a. a.caller) olds ≡ newcomers latch notice start n →
      HaveActed ticker actions olds news →
      callers ≡ map (λ a. a.caller) news → replies ≡ map (λ a. a.replies) news →
      IsClosed journal callers → IsOutcome ticker start actions journal replies
  outcome journal n actions olds news callers replies some is have known stated closed =
      let raced = all_raced n actions olds news is have in
      let history = closed.history in
      let parts = subst (All (IsPartOf history)) known closed.parts in
      let own = subst (All (IsCounted history)) known closed.own in
      record {
        history = history;
        begins = begins_all history actions news some raced parts;
        whole = closed.whole;
        kept = closed.kept;
        each = subst (HaveAll ticker history 0 actions) (sym stated)
            (all_from history 0 actions news closed.whole raced parts own);
        counted = closed.counted ∙ ap accepted_by known ∙ counted_from 0 actions news raced
            ∙ sym (ap (λ l. sum_by done_in l) stated);
      }
