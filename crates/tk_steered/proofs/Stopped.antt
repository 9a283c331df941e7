-- Seconds that begin, all or some: the others can follow, and the last account stays in its place.
use Rattle.std.proofs.Common.{◌≡◌, ◌∙◌, ap, refl, sym, subst, ℕ, ◌+◌, ◌≤◌, ◌⊎◌, inl, inr, Bool, false, Option, Some, None, arith}
use Rattle.std.specs.Prelude.{⊤, ℤ, ◌<ℤ◌, ◌≤ℤ◌, Result, Ok, Err, MatchOption, MatchResult}
use Rattle.std.proofs.lemmas.Int.{ints}
use Rattle.tk_clock.specs.declared.clock_id.ClockId.TheVariants.{Realtime}
use Rattle.tk_clock.specs.declared.refusal.Refusal.{Refusal}
use Rattle.tk_clock.specs.declared.refusal.Refusal.TheVariants.{Full, Memory}
use Rattle.tk_clock.specs.Reach.{IsAhead, HasReached, distance}
use Rattle.tk_clock.specs.State.{State, base_value}
use Rattle.tk_clock.specs.Time.{nanoseconds}
use Rattle.tk_keeper.specs.Keeper.{Keeper}
use Rattle.tk_keeper.specs.Room.{HasAdded, HasRoom, IsFull, IsOut, IsShort, keeper_state}
use Rattle.tk_ntp.specs.Account.{IsConsistent}
use Rattle.tk_ntp.specs.Advance.{Begins as BeginsOne, IsAdvancedBy, IsDue, second_begun_at, second_time}
use Rattle.tk_ntp.specs.Course.{Course, seen}
use Rattle.tk_ntp.specs.Entries.{second_begun}
use Rattle.tk_ntp.specs.Keeping.{Begins, HasArrivedOr, HasBegun, IsUnmade, IsUnready, Still}
use Rattle.tk_ntp.specs.SteeredClock.{SteeredClock, reading_refusal}
use Rattle.tk_ntp.proofs.Accepted.{awake_at}
use Rattle.tk_ntp.proofs.Account.{never, order}
use Rattle.tk_ntp.proofs.Made.{second-made}
use Rattle.tk_ntp.proofs.Consistent.{consistent_at_last}
use Rattle.tk_ntp.proofs.SeenBy.{same_seen}
use Rattle.tk_steered.specs.Kept.{IsAdvancedTo, SteeredKeeper, steered_of}
use Rattle.tk_steered.specs.Stopped.{HasStopped, IsOnTheWay}

late : (value : ℤ) (n : ℕ) → value <ℤ nanoseconds (second_time n) →
    nanoseconds (second_time (n + 1)) ≤ℤ value → ⊥
late value n h k = absurd (omega (arith, ints, h, k))

module _ (who reading : ℕ) where
  -- REALTIME reaches the second after a due one at no reading before that one's
  following : (s : SteeredClock) (at other : ℕ) → IsDue s reading at →
      IsAhead s.clock.base other →
      HasReached s.clock.base Realtime (nanoseconds (second_time (s.next + 1))) other →
      distance s.clock.base at ≤ distance s.clock.base other
  following s at other due ahead reached =
      let base = s.clock.base in
      elim (order (distance base other) (distance base at)) as
      (λ _. distance base at ≤ distance base other) [
        | inl less ↦ absurd
            (late (base_value base Realtime other) s.next (due.first.nearer other ahead less).1
            reached.1)
        | inr no_less ↦ no_less
      ]

  second-consistent : (at : ℕ) (s : SteeredClock) → IsDue s reading at →
      s.clock.base.asleep ≡ false → IsConsistent (second_begun_at at s)
  second-consistent at s due awake =
      let end = second_begun_at at s in
      let made = second-made at s in
      let goal : State → ℕ → ℕ → Type 0 = λ clock sec m.
      IsConsistent (record end { clock = clock; next = sec; last_account = m }) in
      let there : goal s.clock (s.next + 1) at = record {
        ahead = due.first.ahead.1;
        asleep = λ is. absurd (never (sym is ∙ awake));
        nearer = λ other ahead reached. following s at other due ahead reached;
      } in
      elim made.same as (λ _. IsConsistent end) [
        | inl e ↦ subst (λ (clock : State). goal clock end.next end.last_account) (sym e.0)
            (subst (λ (sec : ℕ). goal s.clock sec end.last_account) (sym e.1)
            (subst (λ (m : ℕ). goal s.clock (s.next + 1) m) (sym made.last_account) there))
        | inr e ↦ consistent_at_last end (made.last_account ∙ sym e)
      ]

  begun-consistent : (a : Keeper) (before : Course) (b : Keeper) (after : Course) →
      HasBegun keeper_state HasAdded HasRoom IsShort false who reading a before b after →
      (keeper_state a).base.asleep ≡ false → IsConsistent (seen (keeper_state a) before) →
      IsConsistent (seen (keeper_state b) after)
  begun-consistent start from end to (Still a course) awake consistent = consistent
  begun-consistent start from last to
      (Begins a ready b end before middle after at due room is given rest) awake consistent =
      let s = seen (keeper_state a) before in
      begun-consistent b middle end after rest
      (ap (λ (t : SteeredClock). t.clock.base.asleep) is ∙ (second-made at s).asleep ∙ awake)
      (subst IsConsistent (sym is) (second-consistent at s due awake))

  begun-rest : (is_late : Bool) (a : Keeper) (before : Course) (b : Keeper) (after : Course) →
      HasBegun keeper_state HasAdded HasRoom IsShort is_late who reading a before b after →
      IsOnTheWay (second_begun is_late reading) reading (seen (keeper_state a) before)
      (seen (keeper_state b) after)
  begun-rest is_late start from end to (Still a course) = λ there h. h
  begun-rest is_late start from last to
      (Begins a ready b end before middle after at due room is given rest) =
      λ there h.
      BeginsOne (seen (keeper_state a) before) there at due
      (subst (λ (s : SteeredClock). IsAdvancedBy (second_begun is_late reading) reading s there) is
      (begun-rest is_late b middle end after rest there h))

  advanced-by : (is_late : Bool) (P : SteeredClock → Type 0) (refused : Option Refusal)
      (a : Keeper) (before : Course) (result : Result ⊤ Refusal) (b : Keeper) (after : Course) →
      reading_refusal reading (seen (keeper_state a) before) ≡ refused →
      MatchOption refused
      (HasArrivedOr keeper_state HasAdded HasRoom IsShort is_late who reading a before result b
      after)
      (λ r. (result ≡ Err r) × (b ≡ a) × (after ≡ before)) →
      P (seen (keeper_state a) before) →
      (reading_refusal reading (seen (keeper_state a) before) ≡ None → (x : Keeper) →
      HasBegun keeper_state HasAdded HasRoom IsShort is_late who reading a before x after →
      P (seen (keeper_state x) after)) →
      P (seen (keeper_state b) after)
  advanced-by is_late P None a before (Ok done) b after is h here holds = holds is b h.begun
  advanced-by is_late P None a before (Err refusal) b after is h here holds =
      subst (λ (k : State). P (seen k after)) (sym h.unready.same) (holds is h.last h.begun)
  advanced-by is_late P (Some r) a before result b after is h here holds =
      subst P
      (sym (same_seen keeper_state HasAdded HasRoom IsShort a b before after h.1 h.2)) here

  -- what holds if none of the seconds has begun, and after all or some of them
  pub advanced_holds : (is_late : Bool) (P : SteeredClock → Type 0) (before after : SteeredKeeper)
      (result : Result ⊤ Refusal) → IsAdvancedTo is_late who reading before result after →
      P (steered_of before) →
      (reading_refusal reading (steered_of before) ≡ None → (x : Keeper) →
      HasBegun keeper_state HasAdded HasRoom IsShort is_late who reading before.keeper before.course
      x after.course → P (seen (keeper_state x) after.course)) →
      P (steered_of after)
  advanced_holds is_late P before after result h =
      advanced-by is_late P (reading_refusal reading (steered_of before)) before.keeper
      before.course result after.keeper after.course refl h

  -- the last account stays after the last command, and before the next second
  pub advanced_consistent : (before after : SteeredKeeper) (result : Result ⊤ Refusal) →
      IsAdvancedTo false who reading before result after → IsConsistent (steered_of before) →
      IsConsistent (steered_of after)
  advanced_consistent before after result h consistent =
      advanced_holds false IsConsistent before after result h consistent
      (λ accepted x begun.
      begun-consistent before.keeper before.course x after.course begun
      (awake_at reading (steered_of before) accepted) consistent)

  -- the seconds that haven't begun can follow
  pub advanced_rest : (is_late : Bool) (before after : SteeredKeeper)
      (result : Result ⊤ Refusal) → IsAdvancedTo is_late who reading before result after →
      IsOnTheWay (second_begun is_late reading) reading (steered_of before) (steered_of after)
  advanced_rest is_late before after result h =
      advanced_holds is_late (IsOnTheWay (second_begun is_late reading) reading (steered_of before))
      before after result h (λ there same. same)
      (λ accepted x begun. begun-rest is_late before.keeper before.course x after.course begun)

  -- what a call that has stopped leaves
  pub record Stops (refusal : Refusal) (before after : SteeredClock) : Type 0 where
    pub short : (refusal ≡ Full) ⊎ (refusal ≡ Memory)
    pub rest : IsOnTheWay second_begun_at reading before after
    pub consistent : IsConsistent before → IsConsistent after

  pub is_short : (count : ℕ) (keeper : Keeper) (refusal : Refusal) →
      IsShort count keeper refusal → (refusal ≡ Full) ⊎ (refusal ≡ Memory)
  is_short count keeper refusal (IsFull full) = inl refl
  is_short count keeper refusal (IsOut fits few) = inr refl

  stops-at : (count : ℕ) (before after : SteeredKeeper) (x : Keeper) (refusal : Refusal) →
      reading_refusal reading (steered_of before) ≡ None →
      HasBegun keeper_state HasAdded HasRoom IsShort false who reading before.keeper before.course x
      after.course →
      IsUnready keeper_state HasAdded HasRoom IsShort count x refusal after.keeper →
      Stops refusal (steered_of before) (steered_of after)
  stops-at count before after x refusal accepted begun unready =
      let goal : State → Type 0 = λ k. IsConsistent (seen k after.course) in
      record {
        short = is_short count after.keeper refusal unready.short;
        rest =
            subst (λ (k : State).
            IsOnTheWay second_begun_at reading (steered_of before) (seen k after.course))
            (sym unready.same)
            (begun-rest false before.keeper before.course x after.course begun);
        consistent = λ consistent. subst goal (sym unready.same)
            (begun-consistent before.keeper before.course x after.course begun
            (awake_at reading (steered_of before) accepted) consistent);
      }

  -- a call that isn't made
  pub unmade_stops : (count : ℕ) (before after : SteeredKeeper) (refusal : Refusal) →
      reading_refusal reading (steered_of before) ≡ None →
      IsUnmade keeper_state HasAdded HasRoom IsShort count who reading before.keeper before.course
      refusal after.keeper after.course →
      Stops refusal (steered_of before) (steered_of after)
  unmade_stops count before after refusal accepted (inl h) =
      stops-at 3 before after h.last refusal accepted h.begun h.unready
  unmade_stops count before after refusal accepted (inr (x, arrived, unready)) =
      stops-at count before after x refusal accepted arrived.begun unready

  pub has_stopped : {R : Type 0} (result : Result R Refusal) (before after : SteeredClock) →
      MatchResult result (λ _. ⊥) (λ refusal. Stops refusal before after) →
      HasStopped reading before result after
  has_stopped (Ok value) before after h = h
  has_stopped (Err refusal) before after h = (h.short, h.rest)

  pub stopped_consistent : {R : Type 0} (result : Result R Refusal) (before after : SteeredClock) →
      MatchResult result (λ _. ⊥) (λ refusal. Stops refusal before after) → IsConsistent before →
      IsConsistent after
  stopped_consistent (Ok value) before after h = absurd h
  stopped_consistent (Err refusal) before after h = h.consistent
