-- The outcome of a race.
use Rattle.std.specs.Prelude.{◌≡◌, ℕ, ◌+◌, List, [], ◌∷◌, sum_by}
use Rattle.tk_counter.specs.Counter.{Counter}
use Rattle.tk_clock.specs.declared.timespec.Timespec.{Timespec}
use Rattle.tk_clock.specs.Journal.{Journal, accepted_count}
use Rattle.tk_clock.specs.Legal.{IsWhole}
use Rattle.tk_page.specs.History.{Begins}
use Rattle.tk_shared.specs.Opening.{IsOpened}
use Rattle.tk_shared.specs.History.{IsKeptOf}
use Rattle.tk_shared.specs.Readings.{IsReading}
use Rattle.tk_now.specs.declared.counter.SharedTicker.{SharedTicker}
use Rattle.tk_now.specs.Ticker.{IsTick}
use Rattle.tk_race.specs.declared.action.Action.{Action}
use Rattle.tk_race.specs.declared.action.Action.TheVariants.{Order}
use Rattle.tk_race.specs.declared.action.RaceReply.{RaceReply}
use Rattle.tk_race.specs.Replies.{IsActed, done_in}

-- the number of orders among these actions
abbrev pub order_by : Action → ℕ
order_by (Order cmd) = 1
order_by _ = 0

abbrev pub orders_in : List Action → ℕ
orders_in actions = sum_by order_by actions

-- one list of replies for each actor; the actors are numbered from this id
abbrev pub HaveAll : SharedTicker → Journal → ℕ → List (List Action) → List (List RaceReply) →
    Type 0
HaveAll ticker history id [] [] = Unit {0}
HaveAll ticker history id (actions ∷ others) (replies ∷ more) =
    IsActed ticker history id actions replies × HaveAll ticker history (id + 1) others more
HaveAll ticker history id _ _ = ⊥

-- the outcome of a race that starts with an opened journal, and whose times are taken at readings
-- of this ticker: there is a whole history that begins with the journal, and the keeper's journal
-- is what it keeps of that history. The replies of each actor are right in the history, and there
-- is one entry for each order that was done
pub record IsOutcome (ticker : SharedTicker) (start : Journal) (actors : List (List Action))
    (journal : Journal) (replies : List (List RaceReply)) : Type 0 where
  pub history : Journal
  pub begins : Begins start history
  pub whole : IsWhole history
  pub kept : IsKeptOf history journal
  pub each : HaveAll ticker history 0 actors replies
  pub counted : accepted_count journal ≡ sum_by done_in replies

-- the outcome of a race on clocks that were opened with this counter and this REALTIME, at a
-- reading of a ticker with this first reading and this step
pub record IsRaced (counter : Counter) (reading step : ℕ) (real : Timespec)
    (actors : List (List Action)) (journal : Journal) (replies : List (List RaceReply))
    : Type 0 where
  pub ticker : SharedTicker
  pub first : ticker.start ≡ reading
  pub added : ticker.step ≡ step
  pub start : Journal
  pub opened : IsOpened counter real start
  pub ticked : IsReading IsTick ticker counter start.opening.reading
  pub outcome : IsOutcome ticker start actors journal replies
