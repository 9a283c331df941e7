-- An actor between its actions, and the result of all of its actions.
use Rattle.std.specs.Prelude.{◌≡◌, ℕ, ◌+◌, ◌/◌, ◌≤◌, List, [], ◌∷◌, ◌++◌, length, map}
use Rattle.std.specs.List.{AllZip}
use mathlib.Core.List.{IsPrefix}
use Rattle.tk_clock.specs.Journal.{Journal}
use Rattle.tk_clock.specs.Legal.{IsWhole}
use Rattle.tk_page.specs.History.{Begins}
use Rattle.tk_latch.specs.Latch.{mark_of}
use Rattle.tk_now.specs.declared.counter.SharedTicker.{SharedTicker}
use Rattle.tk_shared.specs.Callers.{Known}
use Rattle.tk_shared.specs.History.{AreSnapshots}
use Rattle.tk_race.specs.declared.action.Action.{Action}
use Rattle.tk_race.specs.declared.action.RaceReply.{RaceReply}
use Rattle.tk_race.specs.declared.action.RaceReply.TheVariants.{Glanced, Moved}
use Rattle.tk_race.specs.Replies.{IsReply, AreReplies, front_after, mark_after, done_by, done_in, reads_by, reads_in, times_by, times_in}

-- an actor: the knowledge of its caller, its replies so far, and its capacity in replies
pub record Actor : Type 0 where
  pub caller : Known
  pub replies : List RaceReply
  pub room : ℕ

-- the actor has no replies yet, and capacity for the replies to these actions
abbrev pub IsReady : List Action → Actor → Type 0
IsReady actions actor = (actor.replies ≡ []) × (length actions ≤ actor.room)

abbrev pub AreReady : List (List Action) → List Actor → Type 0
AreReady actions actors = AllZip IsReady actions actors

-- `history` is a whole journal that begins with the entries that the caller has seen, and the
-- publications that the caller has learnt of are its snapshots
pub record IsHistoryOf (caller : Known) (history : Journal) : Type 0 where
  pub whole : IsWhole history
  pub begins : Begins caller.seen history
  pub learnt : AreSnapshots history caller.learnt.publications

-- from one moment of a caller to a later one, with this many orders done, reads of the page made
-- and times asked for, which read the page as often as they need
pub record IsLater (old new : Known) (done looks times : ℕ) : Type 0 where
  pub id : new.id ≡ old.id
  pub seen : Begins old.seen new.seen
  pub learnt : IsPrefix old.learnt.publications new.learnt.publications
  pub counted : new.accepted ≡ old.accepted + done
  pub looked : times ≡ 0 → new.reads ≡ old.reads + looks

-- replies so far may state this front and this mark: the caller knows at least as much
abbrev pub Knows : Known → ℕ → ℕ → Type 0
Knows caller front mark =
    (front ≤ length caller.seen.entries) × (mark ≤ mark_of caller.learnt.publications)

-- an action and its reply; the reply is right for every history that is still possible
pub record IsAnswer (ticker : SharedTicker) (old new : Known) (action : Action) (reply : RaceReply)
    : Type 0 where
  pub later : IsLater old new (done_by reply) (reads_by reply) (times_by reply)
  pub right : (history : Journal) → IsHistoryOf new history →
      (front mark : ℕ) → Knows old front mark →
      IsReply ticker history old.id front mark action reply
      × Knows new (front_after front reply) (mark_after mark reply)

-- the sequence numbers of the latch that a glance's own loads have found: one number twice, or two
-- numbers if it moved
abbrev pub IsFound : List ℕ → List ℕ → RaceReply → Type 0
IsFound old new (Glanced read) =
    (sequence : ℕ) × (sequence / 2 ≡ read) × (new ≡ old ++ sequence ∷ sequence ∷ [])
IsFound old new (Moved first last) = new ≡ old ++ first ∷ last ∷ []
IsFound old new _ = Unit {0}

-- the front and the mark after some replies
abbrev pub last_front : ℕ → List RaceReply → ℕ
last_front front [] = front
last_front front (reply ∷ replies) = last_front (front_after front reply) replies

abbrev pub last_mark : ℕ → List RaceReply → ℕ
last_mark mark [] = mark
last_mark mark (reply ∷ replies) = last_mark (mark_after mark reply) replies

-- an actor's actions and their replies; the replies are right for every history that is still
-- possible
pub record HasActed (ticker : SharedTicker) (old new : Known) (actions : List Action)
    (replies : List RaceReply) : Type 0 where
  pub later : IsLater old new (done_in replies) (reads_in replies) (times_in replies)
  pub right : (history : Journal) → IsHistoryOf new history →
      AreReplies ticker history old.id 0 0 actions replies
      × Knows new (last_front 0 replies) (last_mark 0 replies)

-- all these actors have done all of their actions
abbrev pub HaveActed : SharedTicker → List (List Action) → List Actor → List Actor → Type 0
HaveActed ticker [] [] [] = Unit {0}
HaveActed ticker (actions ∷ others) (old ∷ olds) (new ∷ news) =
    HasActed ticker old.caller new.caller actions new.replies × HaveActed ticker others olds news
HaveActed ticker _ _ _ = ⊥

-- callers that knew `before` have done their actions, and know `after`; every caller has its list
-- of replies
pub record HaveDone (ticker : SharedTicker) (actions : List (List Action))
    (before after : List Known) (replies : List (List RaceReply)) : Type 0 where
  pub olds : List Actor
  pub news : List Actor
  pub acted : HaveActed ticker actions olds news
  pub began : map (λ a. a.caller) olds ≡ before
  pub ended : after ≡ map (λ a. a.caller) news
  pub replied : replies ≡ map (λ a. a.replies) news
