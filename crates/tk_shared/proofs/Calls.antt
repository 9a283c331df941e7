-- The result of a call for the time now, in terms of a whole history.
use Rattle.std.proofs.Common.{◌≡◌, ℕ, ◌+◌, ◌%◌, ◌^◌, ◌<◌, ◌≤◌, List, length, refl, sym, ap, ◌∙◌, subst, arith, inl, inr}
use Rattle.std.specs.Prelude.{Some, pos, slice_get}
use Rattle.std.proofs.lemmas.Option.{same_Some, slice_get_within}
use mathlib.Core.List.{IsPrefix}
use Rattle.tk_clock.specs.declared.clock_id.ClockId.TheVariants.{Monotonic}
use Rattle.tk_clock.specs.declared.timespec.Timespec.{Timespec}
use Rattle.tk_clock.specs.Journal.{Journal, prefix}
use Rattle.tk_clock.specs.Monotonic.{monotonic}
use Rattle.tk_clock.specs.Snapshot.{Snapshot, snapshot_of}
use Rattle.tk_clock.specs.State.{ReadBase, base_value}
use Rattle.tk_clock.specs.Time.{nanoseconds}
use Rattle.tk_clock.proofs.Append.{slice_get-push}
use Rattle.tk_clock.proofs.Lists.{prefix_self, prefix_trans, prefix_length}
use Rattle.tk_now.specs.declared.rule.Taken.{Taken}
use Rattle.tk_now.specs.declared.rule.Answer.{Answer}
use Rattle.tk_now.specs.Moments.{IsTimed}
use Rattle.tk_now.specs.Views.{Noticed, taken}
use Rattle.tk_now.proofs.Lists.{get_first}
use Rattle.tk_page.specs.History.{Begins}
use Rattle.tk_shared.specs.Callers.{Known, IsInformed, IsKnownBy}
use Rattle.tk_shared.specs.Closing.{HasListed, HasNoticed, IsClosed, IsPartOf}
use Rattle.tk_shared.specs.History.{AreSnapshots}
use Rattle.tk_shared.specs.NeverBack.{HasSeen, HasTaken, IsCallOf, IsNowOf, answer_seen, answer_taken}
use Rattle.tk_shared.proofs.Back.{monotonic_of}
use Rattle.tk_shared.proofs.Cut.{all_at, first_items}
use Rattle.tk_shared.proofs.Snapshots.{snapshots_prefix}

-- the result of a call: this answer and this time
pub record Answered (history : Journal) (commands : List Taken) (log : List Answer) (old new : Known)
    (answer : Answer) (time : Timespec) : Type 0 where
  pub mine : List Taken
  pub position : ℕ
  pub within : answer.place ≤ length history.entries
  pub known : IsPrefix mine commands
  pub long : length mine ≡ answer.place + 1
  pub own : slice_get new.noticed.log position ≡ Some answer
  pub listed : slice_get log position ≡ Some answer
  pub above : (i : ℕ) (a : Answer) → slice_get old.noticed.log i ≡ Some a →
      a.taken.to ≤ answer.taken.from
  pub span : answer.taken.from < answer.taken.to
  pub after : (i : ℕ) (t : Taken) → slice_get mine i ≡ Some t →
      (t.from ≤ t.to) × (t.to ≤ answer.taken.from)
  pub value : nanoseconds time ≡ pos (monotonic_of history answer)

-- what a caller knows, as part of a history, its commands and the answers of all callers
pub record IsWithin (history : Journal) (all : List Taken) (listed : List Answer) (caller : Known)
    : Type 0 where
  pub begins : Begins caller.seen history
  pub learnt : AreSnapshots history caller.learnt.publications
  pub commands : IsPrefix caller.noticed.commands all
  pub log : IsPrefix caller.noticed.log listed

-- a caller whose knowledge another one has
pub known_within : (history : Journal) (commands : List Taken) (log : List Answer)
    (one other : Known) → IsKnownBy one other → IsWithin history commands log other →
    IsWithin history commands log one
known_within history commands log one other known is = record {
  begins = (is.begins.0 ∙ known.seen.0, prefix_trans _ _ _ known.seen.1 is.begins.1);
  learnt = snapshots_prefix history one.learnt.publications other.learnt.publications is.learnt
      known.learnt;
  commands = prefix_trans _ _ _ known.commands is.commands;
  log = prefix_trans _ _ _ known.log is.log;
}

-- a caller that was informed of everything
pub informed_within : (caller : Known) → IsInformed caller →
    IsWithin caller.seen caller.noticed.commands caller.noticed.log caller
informed_within caller is = record {
  begins = (refl, prefix_self caller.seen.entries);
  learnt = is.snapshots;
  commands = prefix_self caller.noticed.commands;
  log = prefix_self caller.noticed.log;
}

-- a call by one of the callers of a closed keeper
pub closed_within : (journal : Journal) (callers : List Known) (closed : IsClosed journal callers)
    (old new : Known) → IsCallOf callers old new →
    IsWithin closed.history closed.commands closed.log new
closed_within journal callers closed old new call =
    let last = call.last in
    let part = all_at (IsPartOf closed.history) callers call.place last closed.parts call.among in
    let noticed = all_at (HasNoticed closed.commands) callers call.place last closed.noticed
    call.among in
    known_within closed.history closed.commands closed.log new last call.known
    (record {
      begins = part.begins;
      learnt = part.learnt;
      commands = noticed.begins;
      log = all_at (HasListed closed.log) callers call.place last closed.listed call.among;
    })

module _ {S : Type 0} (answers : S → ℕ → ℕ → Type 0) (counter : S) (history : Journal)
    (commands : List Taken) (log : List Answer) (old new : Known) (time : Timespec)
    (is_within : IsWithin history commands log new) where
  abbrev pub IsAnswered : Answer → Type 0
  IsAnswered answer = Answered history commands log old new answer time

  -- the result of a call, by its two looks
  looked : (before : Noticed) (place answer : ℕ) → IsPrefix old.noticed.log before.log →
      (timed : IsTimed answers counter before new.noticed place answer) →
      place ≤ length history.entries →
      nanoseconds time
      ≡ pos (monotonic (prefix place history) (answer % 2 ^ history.opening.counter.bits)) →
      IsAnswered (record { place = place; taken = taken timed.from timed.to answer })
  looked before place answer known timed low value =
      let one : Answer = record { place = place; taken = taken timed.from timed.to answer } in
      let here : slice_get new.noticed.log (length timed.between) ≡ Some one =
      subst (λ (l : List Answer). slice_get l (length timed.between) ≡ Some one) (sym timed.listed)
      (slice_get-push timed.between one) in
      record {
        mine = new.noticed.commands;
        position = length timed.between;
        within = low;
        known = is_within.commands;
        long = sym timed.latest;
        own = here;
        listed = get_first new.noticed.log log is_within.log (length timed.between) one here;
        above = λ i a at. (timed.above i a
            (get_first old.noticed.log timed.begun (prefix_trans _ _ _ known timed.known) i a at)).1;
        span = timed.span;
        after = timed.after;
        value = value;
      }

  answered_now : (is : HasSeen answers counter old new time) →
      IsAnswered (answer_seen answers counter old new time is)
  answered_now is =
      let n = length new.seen.entries in
      let begins = is_within.begins.1 in
      let same : new.seen ≡ prefix n history = λ i. record {
        opening = sym is_within.begins.0 i;
        entries = sym (first_items new.seen.entries history.entries begins) i;
      } in
      looked is.before n is.answer is.log is.timed
      (prefix_length new.seen.entries history.entries begins)
      (is.read.1
      ∙ ap (λ (j : Journal). pos (monotonic j (is.answer % 2 ^ j.opening.counter.bits))) same)

  answered_fast : (is : HasTaken answers counter old new time) →
      IsAnswered (answer_taken answers counter old new time is)
  answered_fast is =
      let n = is.0.front in
      let at = is.2.read.whole in
      let low = slice_get_within new.learnt.publications n is.0 at in
      let most = is_within.learnt.within in
      let same : is.0 ≡ snapshot_of (prefix n history) =
      same_Some _ _ (sym at ∙ is_within.learnt.each n low) in
      let base = ap (λ (s : Snapshot). s.base) same in
      let value : nanoseconds time ≡ base_value is.0.base Monotonic is.1 = is.3.1 in
      let reading : is.1 ≡ is.2.answer % 2 ^ history.opening.counter.bits =
      is.2.masked ∙ ap (λ (b : ReadBase). is.2.answer % 2 ^ b.counter.bits) base in
      looked old.noticed n is.2.answer (prefix_self old.noticed.log) is.2.timed
      (omega (arith, low, most))
      (value ∙ ap (λ (p : ReadBase × ℕ). base_value p.0 Monotonic p.1) (λ i. (base i, reading i)))

  pub answered_of : (answer : Answer) → IsNowOf answers counter old new time answer → IsAnswered answer
  answered_of answer (inl is) = subst IsAnswered (sym is.1) (answered_now is.0)
  answered_of answer (inr is) = subst IsAnswered (sym is.1) (answered_fast is.0)
