-- The reply to a time now is right for every history that is still possible.
use Rattle.std.proofs.Common.{◌≡◌, ℕ, ◌-◌, ◌≤◌, ◌%◌, ◌^◌, length, sym, ap, ◌∙◌, subst, refl, arith}
use Rattle.std.proofs.lemmas.Nat.{pow_pos}
use Rattle.std.proofs.Math.Nat.{mod-lt}
use Rattle.std.specs.Prelude.{Ok, Err, Result}
use Rattle.tk_counter.specs.Counter.{mask}
use Rattle.tk_clock.specs.declared.clock_id.ClockId.{ClockId}
use Rattle.tk_clock.specs.declared.refusal.ReadError.{ReadError}
use Rattle.tk_clock.specs.declared.timespec.Timespec.{Timespec}
use Rattle.tk_clock.specs.Journal.{Opening, Journal, prefix}
use Rattle.tk_clock.specs.State.{base_of}
use Rattle.tk_page.specs.History.{Begins}
use Rattle.tk_latch.specs.Latch.{Learnt, mark_of}
use Rattle.tk_now.specs.declared.counter.SharedTicker.{SharedTicker}
use Rattle.tk_now.specs.Ticker.{IsTick}
use Rattle.tk_shared.specs.Callers.{Known}
use Rattle.tk_shared.specs.Now.{IsResultAt, IsSeenBy, KnowsMore}
use Rattle.tk_shared.specs.Readings.{IsReading}
use Rattle.tk_race.specs.declared.action.Action.TheVariants.{Now}
use Rattle.tk_race.specs.declared.action.RaceReply.{RaceReply}
use Rattle.tk_race.specs.declared.action.RaceReply.TheVariants.{Timed, Untimed}
use Rattle.tk_race.specs.Actor.{IsAnswer, IsHistoryOf, IsLater, Knows}
use Rattle.tk_race.specs.Replies.{IsTimedIn}
use Rattle.tk_race.proofs.Answering.{begins_length, begins_prefix}

-- a reading modulo 2^bits is at most the mask
within : (bits answer : ℕ) → answer % 2 ^ bits ≤ 2 ^ bits - 1
within bits answer =
    let low = mod-lt answer (pow_pos bits) in
    omega (arith, low)

-- a caller asked for a clock's time now, and has seen this number of entries
record IsAsked {S : Type 0} (answers : S → ℕ → ℕ → Type 0) (counter : S) (old new : Known)
    (clock : ClockId) (result : Result Timespec ReadError) (read : ℕ) : Type 0 where
  pub seen : Begins old.seen new.seen
  pub more : KnowsMore old new
  pub is : IsSeenBy answers counter clock new.seen old.noticed new.noticed result
  pub id : new.id ≡ old.id
  pub accepted : new.accepted ≡ old.accepted
  pub learnt : new.learnt ≡ old.learnt
  pub front : read ≡ length new.seen.entries

-- all answers of a counter are readings of this ticker
abbrev pub AreTicks : {S : Type 0} → (S → ℕ → ℕ → Type 0) → S → SharedTicker → Type 0
AreTicks answers counter ticker =
    (from answer : ℕ) → answers counter from answer → IsTick ticker answer

module _ {S : Type 0} (answers : S → ℕ → ℕ → Type 0) (counter : S) (ticker : SharedTicker)
    (are : AreTicks answers counter ticker) (old new : Known)
    (clock : ClockId) (result : Result Timespec ReadError) (read : ℕ)
    (asked : IsAsked answers counter old new clock result read) where
  later_by : IsLater old new 0 0 1
  later_by = record {
    id = asked.id;
    seen = asked.seen;
    learnt = asked.more.0;
    counted = (let same = asked.accepted in omega (arith, same));
    looked = λ none. absurd (omega (arith, none));
  }

  timed_in : (history : Journal) (front : ℕ) → IsHistoryOf new history →
      front ≤ length old.seen.entries → IsTimedIn ticker history front clock read result
  timed_in history front is low =
      let here = asked.front in
      let more = begins_length old.seen new.seen asked.seen in
      let whole = begins_length new.seen history is.begins in
      let bits = new.seen.opening.counter.bits in
      let reading = asked.is.answer % 2 ^ bits in
      let timed = asked.is.timed in
      let here_read : IsReading IsTick ticker new.seen.opening.counter reading =
      record {
        answer = asked.is.answer;
        given = are timed.from asked.is.answer timed.given;
        kept = refl;
      } in
      let first = begins_prefix new.seen history is.begins
      ∙ ap (λ (n : ℕ). prefix n history) (sym here) in
      record {
        reading = reading;
        ticked = subst (λ (o : Opening). IsReading IsTick ticker o.counter reading)
            (sym is.begins.0) here_read;
        least = omega (arith, low, more, here);
        within = omega (arith, whole, here);
        masked = subst (λ (o : Opening). reading ≤ mask o.counter) (sym is.begins.0)
            (within bits asked.is.answer);
        read = subst (λ (j : Journal). IsResultAt (base_of j) clock reading result) first
            asked.is.read;
      }

  knows_by : (front mark : ℕ) → Knows old front mark → Knows new read mark
  knows_by front mark known =
      let high = known.1 in
      let here = asked.front in
      let learnt = ap (λ (l : Learnt). mark_of l.publications) asked.learnt in
      (omega (arith, here), omega (arith, high, learnt))

  right_by : (history : Journal) → IsHistoryOf new history → (front mark : ℕ) →
      Knows old front mark → IsTimedIn ticker history front clock read result × Knows new read mark
  right_by history is front mark known =
      (timed_in history front is known.0, knows_by front mark known)

abbrev pub reply_of : Result Timespec ReadError → ℕ → RaceReply
reply_of (Ok time) read = Timed read time
reply_of (Err refusal) read = Untimed read refusal

-- the reply with such a result and such a number of entries is right
answered : {S : Type 0} (answers : S → ℕ → ℕ → Type 0) (counter : S) (ticker : SharedTicker) →
    AreTicks answers counter ticker → (old new : Known)
    (clock : ClockId) (result : Result Timespec ReadError) (read : ℕ) →
    IsAsked answers counter old new clock result read →
    IsAnswer ticker old new (Now clock) (reply_of result read)
answered answers counter ticker are old new clock (Ok time) read asked = record {
  later = later_by answers counter ticker are old new clock (Ok time) read asked;
  right = right_by answers counter ticker are old new clock (Ok time) read asked;
}
answered answers counter ticker are old new clock (Err refusal) read asked = record {
  later = later_by answers counter ticker are old new clock (Err refusal) read asked;
  right = right_by answers counter ticker are old new clock (Err refusal) read asked;
}

-- the reply to a time now is right, whether it is a time or a refusal
pub timed : {S : Type 0} (answers : S → ℕ → ℕ → Type 0) (counter : S) (ticker : SharedTicker) →
    AreTicks answers counter ticker → (old new : Known)
    (clock : ClockId) (result : Result Timespec ReadError) (read : ℕ) → Begins old.seen new.seen →
    KnowsMore old new →
    IsSeenBy answers counter clock new.seen old.noticed new.noticed result →
    (new.id ≡ old.id) × (new.accepted ≡ old.accepted) × (new.learnt ≡ old.learnt) →
    read ≡ length new.seen.entries → IsAnswer ticker old new (Now clock) (reply_of result read)
timed answers counter ticker are old new clock result read seen more is same front =
    answered answers counter ticker are old new clock result read (record {
      seen = seen;
      more = more;
      is = is;
      id = same.0;
      accepted = same.1;
      learnt = same.2;
      front = front;
    })
