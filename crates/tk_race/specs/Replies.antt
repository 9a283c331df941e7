-- The statements of an actor's replies about the history, which lists every accepted command.
use Rattle.std.specs.Prelude.{◌≡◌, ℕ, ◌*◌, ◌/◌, ◌<◌, ◌≤◌, List, [], ◌∷◌, length, sum_by, Ok, Err, Result, Some}
use Rattle.tk_counter.specs.Counter.{mask}
use Rattle.tk_clock.specs.declared.command.Command.{Command}
use Rattle.tk_clock.specs.declared.command.Entry.{Entry}
use Rattle.tk_clock.specs.declared.clock_id.ClockId.{ClockId}
use Rattle.tk_clock.specs.declared.refusal.ReadError.{ReadError}
use Rattle.tk_clock.specs.declared.refusal.Refusal.{Refusal}
use Rattle.tk_clock.specs.declared.timespec.Timespec.{Timespec}
use Rattle.tk_clock.specs.Journal.{Journal, prefix}
use Rattle.tk_clock.specs.State.{base_of}
use Rattle.tk_keeper.specs.Keeper.{entry_at}
use Rattle.tk_shared.specs.Callers.{IsRefusalAfter, made_by}
use Rattle.tk_now.specs.declared.counter.SharedTicker.{SharedTicker}
use Rattle.tk_now.specs.Ticker.{IsTick}
use Rattle.tk_shared.specs.Now.{IsResultAt}
use Rattle.tk_shared.specs.Readings.{IsReading}
use Rattle.tk_race.specs.declared.action.Action.{Action}
use Rattle.tk_race.specs.declared.action.Action.TheVariants.{Order, Look, Glance, Now}
use Rattle.tk_race.specs.declared.action.RaceReply.{RaceReply}
use Rattle.tk_race.specs.declared.action.RaceReply.TheVariants.{Done, Refused, Saw, Glanced, Moved, Timed, Untimed}

-- an actor's command at a reading, as an entry
abbrev pub order_of : ℕ → ℕ → Command → Entry
order_of id reading cmd = record { who = id; reading = reading; cmd = cmd }

-- the entry with this number is the actor's command, at some reading
abbrev pub HasEntry : Journal → ℕ → ℕ → Command → Type 0
HasEntry history number id cmd =
    (reading : ℕ) × (entry_at history number ≡ Some (order_of id reading cmd))

-- at some reading of the counter the command is refused for this reason after the first `front`
-- entries of the history, which are at least as many as the actor knew of. A race folds no entry
pub record IsRefusedIn (history : Journal) (id known : ℕ) (cmd : Command) (refusal : Refusal)
    : Type 0 where
  pub front : ℕ
  pub reading : ℕ
  pub least : known ≤ front
  pub within : front ≤ length history.entries
  pub masked : reading ≤ mask history.opening.counter
  pub reason : IsRefusalAfter 0 (prefix front history) (order_of id reading cmd) refusal

-- at some reading of the ticker this is the clock's result after the first `front` entries of the
-- history, which are at least as many as the actor knew of
pub record IsTimedIn (ticker : SharedTicker) (history : Journal) (known : ℕ) (clock : ClockId)
    (front : ℕ) (result : Result Timespec ReadError) : Type 0 where
  pub reading : ℕ
  pub ticked : IsReading IsTick ticker history.opening.counter reading
  pub least : known ≤ front
  pub within : front ≤ length history.entries
  pub masked : reading ≤ mask history.opening.counter
  pub read : IsResultAt (base_of (prefix front history)) clock reading result

-- the reply to an action is right, when the actor's replies so far state this front and this mark
module _ (ticker : SharedTicker) (history : Journal) (id front mark : ℕ) where
  abbrev pub IsReply : Action → RaceReply → Type 0
  IsReply (Order cmd) (Done number) =
      (front < number) × (mark < number) × HasEntry history number id cmd
  IsReply (Order cmd) (Refused refusal) = IsRefusedIn history id front cmd refusal
  IsReply Look (Saw read) = (front ≤ read) × (read ≤ length history.entries)
  IsReply Glance (Glanced read) = (mark ≤ read) × (read ≤ length history.entries)
  IsReply Glance (Moved first last) =
      (2 * mark ≤ first) × (first < last) × (last / 2 ≤ length history.entries)
  IsReply (Now clock) (Timed read time) = IsTimedIn ticker history front clock read (Ok time)
  IsReply (Now clock) (Untimed read refusal) =
      IsTimedIn ticker history front clock read (Err refusal)
  IsReply _ _ = ⊥

-- the front after a reply: the number that the last done order, look or time stated; right replies
-- never state a smaller one than before
abbrev pub front_after : ℕ → RaceReply → ℕ
front_after front (Done number) = number
front_after front (Saw read) = read
front_after front (Timed read time) = read
front_after front (Untimed read refusal) = read
front_after front _ = front

-- the mark after a reply: the number that the last done order or the last glance stated, where a
-- glance that found the latch moved states half its last sequence number, rounded down. Right
-- replies never state a smaller one than before
abbrev pub mark_after : ℕ → RaceReply → ℕ
mark_after mark (Done number) = number
mark_after mark (Glanced read) = read
mark_after mark (Moved first last) = last / 2
mark_after mark _ = mark

-- there is one right reply to each action, in order
abbrev pub AreReplies : SharedTicker → Journal → ℕ → ℕ → ℕ → List Action → List RaceReply →
    Type 0
AreReplies ticker history id front mark [] [] = Unit {0}
AreReplies ticker history id front mark (action ∷ actions) (reply ∷ replies) =
    IsReply ticker history id front mark action reply
    × AreReplies ticker history id (front_after front reply) (mark_after mark reply) actions replies
AreReplies ticker history id front mark _ _ = ⊥

-- the number of orders that were done, in one reply and in a list of replies
abbrev pub done_by : RaceReply → ℕ
done_by (Done number) = 1
done_by _ = 0

abbrev pub done_in : List RaceReply → ℕ
done_in replies = sum_by done_by replies

-- the number of reads of the page, by these replies
abbrev pub reads_by : RaceReply → ℕ
reads_by (Saw read) = 1
reads_by _ = 0

abbrev pub reads_in : List RaceReply → ℕ
reads_in replies = sum_by reads_by replies

-- the number of requests for the time now, by these replies
abbrev pub times_by : RaceReply → ℕ
times_by (Timed read time) = 1
times_by (Untimed read refusal) = 1
times_by _ = 0

abbrev pub times_in : List RaceReply → ℕ
times_in replies = sum_by times_by replies

-- an actor's part: its replies are right, and the number of its entries is the number of its done
-- orders
pub record IsActed (ticker : SharedTicker) (history : Journal) (id : ℕ) (actions : List Action)
    (replies : List RaceReply) : Type 0 where
  pub right : AreReplies ticker history id 0 0 actions replies
  pub own : made_by id history.entries ≡ done_in replies
