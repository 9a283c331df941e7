-- A call that steers clocks which list no command does what it does with a keeper of their journal.
use Rattle.std.proofs.Common.{◌≡◌, ◌∙◌, ap, subst, refl, sym, ℕ, Bool, true, false, Option, Some, None, inl, inr}
use Rattle.std.specs.Prelude.{⊤, Result, Ok, Err, MatchOption, MatchResult}
use Rattle.tk_clock.specs.declared.command.Command.{Command}
use Rattle.tk_clock.specs.declared.refusal.Refusal.{Refusal}
use Rattle.tk_clock.specs.declared.refusal.Refusal.TheVariants.{Full, Memory}
use Rattle.tk_clock.specs.State.{State}
use Rattle.tk_keeper.specs.Keeper.{Keeper}
use Rattle.tk_keeper.specs.Room as keeper
use Rattle.tk_keeper.specs.Room.{HasAdded, keeper_state}
use Rattle.tk_ntp.specs.declared.reply.Reply.{Reply}
use Rattle.tk_ntp.specs.declared.timex.Timex.{Timex}
use Rattle.tk_ntp.specs.Advance.{IsDue, IsNoneDue}
use Rattle.tk_ntp.specs.Asked.{IsCommanded, IsRequested, first_fault, step_refusal, stepped}
use Rattle.tk_ntp.specs.Course.{Course, seen}
use Rattle.tk_ntp.specs.Entries.{command_entries, request_entries, step_entries}
use Rattle.tk_ntp.specs.Keeping.{HasArrived, HasArrivedOr, IsAdvancedTo, IsAnsweredTo, IsAskedTo, IsCommandedTo, IsDirectTo, IsFollowing, IsPlainTo, IsRequestedTo, IsSteppedTo, IsStopped, IsUnmade, request_most, second_most}
use Rattle.tk_ntp.specs.Request.{step_of}
use Rattle.tk_ntp.specs.SteeredClock.{reading_refusal}
use Rattle.tk_report.specs.CountedClocks.{Counted}
use Rattle.tk_report.specs.Room.{HasCounted, HasRoom, IsShort, clocks_in}
use Rattle.tk_session.proofs.Never.{IsNever, fault-never, reading-never, request-never, state-never, step-never}
use Rattle.tk_session.proofs.Simulated.{IsOf, added, begun-of, ready-of, unready-of, with_entries, with_spare}

-- the keeper after a call, of which `Makes` holds; the call did not report that memory ran out
pub record IsCalledAs {R : Type 0} (Makes : Keeper → Type 0) (result : Result R Refusal)
    (b : Counted) : Type 0 where
  pub last : Keeper
  pub made : Makes last
  pub same : IsOf b last
  pub never : result ≡ Err Memory → ⊥

err-never : {R : Type 0} (refusal : Refusal) (refused : Option Refusal) → IsNever refused →
    refused ≡ Some refusal → (result : Result R Refusal) → result ≡ Err refusal →
    result ≡ Err Memory → ⊥
err-never refusal refused never is result e f =
    let same : Err refusal ≡ Err Memory = sym e ∙ f in
    let equal : refusal ≡ Memory = cc same in
    never (is ∙ ap (λ (r : Refusal). Some r) equal)

-- a refused call left all as it was
left-of : {R : Type 0} (Makes : Keeper → Type 0) (result : Result R Refusal) (a b : Counted)
    (k : Keeper) → IsOf a k → b ≡ a → Makes k → (result ≡ Err Memory → ⊥) →
    IsCalledAs Makes result b
left-of Makes result a b k s stayed made never = record {
  last = k;
  made = made;
  same = subst (λ (x : Counted). IsOf x k) (sym stayed) s;
  never = never;
}

module _ (who reading : ℕ) where
  commanded-by : (cmd : Command) (a : Counted) (before : Course) (result : Result ⊤ Refusal)
      (b : Counted) (after : Course) (k : Keeper) → IsOf a k →
      IsCommanded reading cmd (seen (keeper_state k) before) result (seen (clocks_in b) after) →
      MatchResult result
      (λ _. HasCounted a (command_entries who reading cmd (seen (keeper_state k) before)) b)
      (λ _. (b ≡ a) × (after ≡ before)) →
      IsCalledAs (λ last. IsCommandedTo keeper_state HasAdded keeper.HasRoom keeper.IsShort who
      reading cmd k before result last after) result b
  commanded-by cmd a before (Ok done) b after k s answer counted =
      let entries = command_entries who reading cmd (seen (keeper_state k) before) in
      let t : IsOf b (with_entries entries k) = counted None k.journal s in record {
        last = with_entries entries k;
        made = record {
          answer = subst (λ (c : State). IsCommanded reading cmd (seen (keeper_state k) before)
              (Ok done) (seen c after)) t.clock answer;
          entries = added k entries;
        };
        same = t;
        never = λ e. cc e;
      }
  commanded-by cmd a before (Err refusal) b after k s answer stayed =
      let same : clocks_in b ≡ keeper_state k = ap clocks_in stayed.0 ∙ s.clock in
      left-of _ (Err refusal) a b k s stayed.0
      (record {
        answer = subst (λ (c : State). IsCommanded reading cmd (seen (keeper_state k) before)
            (Err refusal) (seen c after)) same answer;
        entries = (refl, stayed.1);
      })
      (err-never refusal _ (state-never k.journal reading cmd) answer.0 (Err refusal) refl)

  commanded-of : (cmd : Command) (a : Counted) (before : Course) (result : Result ⊤ Refusal)
      (b : Counted) (after : Course) (k : Keeper) → IsOf a k →
      IsCommandedTo clocks_in HasCounted HasRoom IsShort who reading cmd a before result b after →
      IsCalledAs (λ last. IsCommandedTo keeper_state HasAdded keeper.HasRoom keeper.IsShort who
      reading cmd k before result last after) result b
  commanded-of cmd a before result b after k s h =
      commanded-by cmd a before result b after k s
      (subst (λ (c : State). IsCommanded reading cmd (seen c before) result
      (seen (clocks_in b) after)) s.clock h.answer)
      (subst (λ (c : State). MatchResult result
      (λ _. HasCounted a (command_entries who reading cmd (seen c before)) b)
      (λ _. (b ≡ a) × (after ≡ before))) s.clock h.entries)

  requested-by : (request : Timex) (a : Counted) (before : Course) (result : Result Reply Refusal)
      (b : Counted) (after : Course) (k : Keeper) → IsOf a k →
      IsRequested reading request (seen (keeper_state k) before) result (seen (clocks_in b) after) →
      MatchResult result
      (λ _. HasCounted a (request_entries who reading request (seen (keeper_state k) before)) b)
      (λ _. (b ≡ a) × (after ≡ before)) →
      IsCalledAs (λ last. IsRequestedTo keeper_state HasAdded keeper.HasRoom keeper.IsShort who
      reading request k before result last after) result b
  requested-by request a before (Ok reply) b after k s answer counted =
      let entries = request_entries who reading request (seen (keeper_state k) before) in
      let t : IsOf b (with_entries entries k) = counted None k.journal s in record {
        last = with_entries entries k;
        made = record {
          answer = subst (λ (c : State). IsRequested reading request
              (seen (keeper_state k) before) (Ok reply) (seen c after)) t.clock answer;
          entries = added k entries;
        };
        same = t;
        never = λ e. cc e;
      }
  requested-by request a before (Err refusal) b after k s answer stayed =
      let same : clocks_in b ≡ keeper_state k = ap clocks_in stayed.0 ∙ s.clock in
      left-of _ (Err refusal) a b k s stayed.0
      (record {
        answer = subst (λ (c : State). IsRequested reading request
            (seen (keeper_state k) before) (Err refusal) (seen c after)) same answer;
        entries = (refl, stayed.1);
      })
      (err-never refusal _ (request-never k.journal reading request before) answer.0
      (Err refusal) refl)

  requested-of : (request : Timex) (a : Counted) (before : Course) (result : Result Reply Refusal)
      (b : Counted) (after : Course) (k : Keeper) → IsOf a k →
      IsRequestedTo clocks_in HasCounted HasRoom IsShort who reading request a before result b
      after →
      IsCalledAs (λ last. IsRequestedTo keeper_state HasAdded keeper.HasRoom keeper.IsShort who
      reading request k before result last after) result b
  requested-of request a before result b after k s h =
      requested-by request a before result b after k s
      (subst (λ (c : State). IsRequested reading request (seen c before) result
      (seen (clocks_in b) after)) s.clock h.answer)
      (subst (λ (c : State). MatchResult result
      (λ _. HasCounted a (request_entries who reading request (seen c before)) b)
      (λ _. (b ≡ a) × (after ≡ before))) s.clock h.entries)

  -- the step of a request, and all else
  asked-by : (refused : Option Refusal) → IsNever refused → (request : Timex) (a : Counted)
      (before : Course) (result : Result Reply Refusal) (b : Counted) (after : Course)
      (k : Keeper) → IsOf a k →
      MatchOption refused
      ((x : Counted) × (middle : Course)
      × IsSteppedTo clocks_in HasCounted HasRoom IsShort who reading (step_of request) a before x
      middle
      × IsRequestedTo clocks_in HasCounted HasRoom IsShort who reading request x middle result b
      after)
      (λ refusal. (result ≡ Err refusal) × (b ≡ a) × (after ≡ before)) →
      IsCalledAs (λ last. MatchOption refused
      ((x : Keeper) × (middle : Course)
      × IsSteppedTo keeper_state HasAdded keeper.HasRoom keeper.IsShort who reading
      (step_of request) k before x middle
      × IsRequestedTo keeper_state HasAdded keeper.HasRoom keeper.IsShort who reading request x
      middle result last after)
      (λ refusal. (result ≡ Err refusal) × (last ≡ k) × (after ≡ before))) result b
  asked-by None never request a before result b after k s (x, middle, step, rest) =
      let entries = step_entries who reading (step_of request) (seen (keeper_state k) before) in
      let next = with_entries entries k in
      let counted : HasCounted a entries x =
      subst (λ (c : State). HasCounted a (step_entries who reading (step_of request)
      (seen c before)) x) s.clock step.entries in
      let t : IsOf x next = counted None k.journal s in
      let clocks : seen (keeper_state next) middle
      ≡ stepped reading (step_of request) (seen (keeper_state k) before) =
      ap (λ (c : State). seen c middle) (sym t.clock) ∙ step.clocks
      ∙ ap (λ (c : State). stepped reading (step_of request) (seen c before)) s.clock in
      let later = requested-of request x middle result b after next t rest in record {
        last = later.last;
        made = (next, middle, record { clocks = clocks; entries = added k entries }, later.made);
        same = later.same;
        never = later.never;
      }
  asked-by (Some refusal) never request a before result b after k s (is, stayed, same) =
      left-of _ result a b k s stayed (is, refl, same)
      (err-never refusal (Some refusal) never refl result is)

  asked-of : (request : Timex) (a : Counted) (before : Course) (result : Result Reply Refusal)
      (b : Counted) (after : Course) (k : Keeper) → IsOf a k →
      IsAskedTo clocks_in HasCounted HasRoom IsShort who reading request a before result b after →
      IsCalledAs (λ last. IsAskedTo keeper_state HasAdded keeper.HasRoom keeper.IsShort who reading
      request k before result last after) result b
  asked-of request a before result b after k s h =
      asked-by (step_refusal reading (step_of request) (seen (keeper_state k) before))
      (step-never k.journal reading (step_of request) before) request a before result b after k s
      (subst (λ (c : State).
      MatchOption (step_refusal reading (step_of request) (seen c before))
      ((x : Counted) × (middle : Course)
      × IsSteppedTo clocks_in HasCounted HasRoom IsShort who reading (step_of request) a before x
      middle
      × IsRequestedTo clocks_in HasCounted HasRoom IsShort who reading request x middle result b
      after)
      (λ refusal. (result ≡ Err refusal) × (b ≡ a) × (after ≡ before))) s.clock h)

  -- all seconds have begun
  arrived-of : (is_late : Bool) (a : Counted) (before : Course) (b : Counted) (after : Course)
      (k : Keeper) → IsOf a k →
      HasArrived clocks_in HasCounted HasRoom IsShort is_late who reading a before b after →
      (last : Keeper)
      × HasArrived keeper_state HasAdded keeper.HasRoom keeper.IsShort is_late who reading k before
      last after × IsOf b last
  arrived-of is_late a before b after k s h =
      let g = begun-of is_late who reading a before b after k s h.begun in (
        g.last,
        record {
          begun = g.begun;
          none = subst (λ (c : State). IsNoneDue (seen c after) reading) g.same.clock h.none;
        },
        g.same,
      )

  -- seconds have begun until one for which there is no room
  stopped-of : (is_late : Bool) (a : Counted) (before : Course) (refusal : Refusal) (b : Counted)
      (after : Course) (k : Keeper) → IsOf a k →
      IsStopped clocks_in HasCounted HasRoom IsShort is_late who reading a before refusal b after →
      (last : Keeper)
      × IsStopped keeper_state HasAdded keeper.HasRoom keeper.IsShort is_late who reading k before
      refusal last after × IsOf b last
  stopped-of is_late a before refusal b after k s h =
      let g = begun-of is_late who reading a before h.last after k s h.begun in
      let u = unready-of second_most h.last b refusal g.last g.same h.unready in (
        g.last,
        record {
          last = g.last;
          begun = g.begun;
          due = (
            h.due.0,
            subst (λ (c : State). IsDue (seen c after) reading h.due.0) g.same.clock h.due.1,
          );
          unready = u.0;
        },
        u.1,
      )

  stopped-never : (is_late : Bool) (a : Counted) (before : Course) (refusal : Refusal)
      (b : Counted) (after : Course) →
      IsStopped clocks_in HasCounted HasRoom IsShort is_late who reading a before refusal b after →
      refusal ≡ Full
  stopped-never is_late a before refusal b after h = h.unready.short.full

  full-never : {R : Type 0} (refusal : Refusal) → refusal ≡ Full →
      (◌≡◌ {A = Result R Refusal} (Err refusal) (Err Memory)) → ⊥
  full-never refusal is e = cc (is, e)

  advanced-by : (refused : Option Refusal) → IsNever refused → (is_late : Bool) (a : Counted)
      (before : Course) (result : Result ⊤ Refusal) (b : Counted) (after : Course)
      (k : Keeper) → IsOf a k →
      MatchOption refused
      (HasArrivedOr clocks_in HasCounted HasRoom IsShort is_late who reading a before result b after)
      (λ refusal. (result ≡ Err refusal) × (b ≡ a) × (after ≡ before)) →
      IsCalledAs (λ last. MatchOption refused
      (HasArrivedOr keeper_state HasAdded keeper.HasRoom keeper.IsShort is_late who reading k before
      result last after)
      (λ refusal. (result ≡ Err refusal) × (last ≡ k) × (after ≡ before))) result b
  advanced-by None never is_late a before (Ok done) b after k s h =
      let (last, arrived, same) = arrived-of is_late a before b after k s h in
      record { last = last; made = arrived; same = same; never = λ e. cc e }
  advanced-by None never is_late a before (Err refusal) b after k s h =
      let (last, stopped, same) = stopped-of is_late a before refusal b after k s h in record {
        last = last;
        made = stopped;
        same = same;
        never = full-never refusal (stopped-never is_late a before refusal b after h);
      }
  advanced-by (Some refusal) never is_late a before result b after k s (is, stayed, same) =
      left-of _ result a b k s stayed (is, refl, same)
      (err-never refusal (Some refusal) never refl result is)

  pub advanced-of : (is_late : Bool) (a : Counted) (before : Course) (result : Result ⊤ Refusal)
      (b : Counted) (after : Course) (k : Keeper) → IsOf a k →
      IsAdvancedTo clocks_in HasCounted HasRoom IsShort is_late who reading a before result b
      after →
      IsCalledAs (λ last. IsAdvancedTo keeper_state HasAdded keeper.HasRoom keeper.IsShort is_late who
      reading k before result last after) result b
  advanced-of is_late a before result b after k s h =
      advanced-by (reading_refusal reading (seen (keeper_state k) before))
      (reading-never k.journal reading before) is_late a before result b after k s
      (subst (λ (c : State). MatchOption (reading_refusal reading (seen c before))
      (HasArrivedOr clocks_in HasCounted HasRoom IsShort is_late who reading a before result b after)
      (λ refusal. (result ≡ Err refusal) × (b ≡ a) × (after ≡ before))) s.clock h)

  -- a call isn't made for want of room
  unmade-of : (count : ℕ) (a : Counted) (before : Course) (refusal : Refusal) (b : Counted)
      (after : Course) (k : Keeper) → IsOf a k →
      IsUnmade clocks_in HasCounted HasRoom IsShort count who reading a before refusal b after →
      ((last : Keeper)
      × IsUnmade keeper_state HasAdded keeper.HasRoom keeper.IsShort count who reading k before
      refusal last after × IsOf b last)
      × (refusal ≡ Full)
  unmade-of count a before refusal b after k s (inl stopped) =
      let (last, made, same) = stopped-of false a before refusal b after k s stopped in
      ((last, inl made, same), stopped-never false a before refusal b after stopped)
  unmade-of count a before refusal b after k s (inr (x, arrived, unready)) =
      let (kx, made, same) = arrived-of false a before x after k s arrived in
      let u = unready-of count x b refusal kx same unready in
      ((kx, inr (kx, made, u.0), u.1), unready.short.full)

  -- a call before which seconds begin
  following-of : {R : Type 0} (count : ℕ) (Makes : Counted → Course → Type 0)
      (MakesOf : Keeper → Keeper → Course → Type 0) (a : Counted) (before : Course)
      (result : Result R Refusal) (b : Counted) (after : Course) (k : Keeper) → IsOf a k →
      ((x : Counted) (middle : Course) (kx : Keeper) → IsOf x kx → Makes x middle →
      IsCalledAs (λ last. MakesOf last kx middle) result b) →
      IsFollowing clocks_in HasCounted HasRoom IsShort count who reading Makes a before result b
      after →
      IsCalledAs (λ last. IsFollowing keeper_state HasAdded keeper.HasRoom keeper.IsShort count who
      reading (MakesOf last) k before result last after) result b
  following-of count Makes MakesOf a before (Ok value) b after k s each (inl short) = absurd short
  following-of count Makes MakesOf a before (Err refusal) b after k s each (inl unmade) =
      let (done, full) = unmade-of count a before refusal b after k s unmade in record {
        last = done.0;
        made = inl done.1;
        same = done.2;
        never = full-never refusal full;
      }
  following-of count Makes MakesOf a before result b after k s each
      (inr (x, ready, middle, arrived, isReady, made)) =
      let (kx, been, same) = arrived-of false a before x middle k s arrived in
      let r = ready-of count x ready kx same isReady in
      let later = each ready middle (with_spare count kx) r.1 made in record {
        last = later.last;
        made = inr (kx, with_spare count kx, middle, been, r.0, later.made);
        same = later.same;
        never = later.never;
      }

  answered-by : (refused : Option Refusal) → IsNever refused → (request : Timex) (a : Counted)
      (before : Course) (result : Result Reply Refusal) (b : Counted) (after : Course)
      (k : Keeper) → IsOf a k →
      MatchOption refused
      (IsFollowing clocks_in HasCounted HasRoom IsShort request_most who reading
      (λ x middle. IsAskedTo clocks_in HasCounted HasRoom IsShort who reading request x middle
      result b after) a before result b after)
      (λ refusal. (result ≡ Err refusal) × (b ≡ a) × (after ≡ before)) →
      IsCalledAs (λ last. MatchOption refused
      (IsFollowing keeper_state HasAdded keeper.HasRoom keeper.IsShort request_most who reading
      (λ x middle. IsAskedTo keeper_state HasAdded keeper.HasRoom keeper.IsShort who reading request
      x middle result last after) k before result last after)
      (λ refusal. (result ≡ Err refusal) × (last ≡ k) × (after ≡ before))) result b
  answered-by None never request a before result b after k s h =
      following-of request_most
      (λ x middle. IsAskedTo clocks_in HasCounted HasRoom IsShort who reading request x middle
      result b after)
      (λ last x middle. IsAskedTo keeper_state HasAdded keeper.HasRoom keeper.IsShort who reading
      request x middle result last after) a before result b after k s
      (λ x middle kx same made. asked-of request x middle result b after kx same made) h
  answered-by (Some refusal) never request a before result b after k s (is, stayed, same) =
      left-of _ result a b k s stayed (is, refl, same)
      (err-never refusal (Some refusal) never refl result is)

  pub answered-of : (request : Timex) (a : Counted) (before : Course)
      (result : Result Reply Refusal) (b : Counted) (after : Course) (k : Keeper) → IsOf a k →
      IsAnsweredTo clocks_in HasCounted HasRoom IsShort who reading request a before result b
      after →
      IsCalledAs (λ last. IsAnsweredTo keeper_state HasAdded keeper.HasRoom keeper.IsShort who reading
      request k before result last after) result b
  answered-of request a before result b after k s h =
      answered-by (first_fault reading request (seen (keeper_state k) before))
      (fault-never k.journal reading request before) request a before result b after k s
      (subst (λ (c : State). MatchOption (first_fault reading request (seen c before))
      (IsFollowing clocks_in HasCounted HasRoom IsShort request_most who reading
      (λ x middle. IsAskedTo clocks_in HasCounted HasRoom IsShort who reading request x middle
      result b after) a before result b after)
      (λ refusal. (result ≡ Err refusal) × (b ≡ a) × (after ≡ before))) s.clock h)

  direct-of : (cmd : Command) (a : Counted) (before : Course) (result : Result ⊤ Refusal)
      (b : Counted) (after : Course) (k : Keeper) → IsOf a k →
      IsDirectTo clocks_in HasCounted HasRoom IsShort who reading cmd a before result b after →
      IsCalledAs (λ last. IsDirectTo keeper_state HasAdded keeper.HasRoom keeper.IsShort who reading
      cmd k before result last after) result b
  direct-of cmd a before (Ok done) b after k s (inl short) = absurd short
  direct-of cmd a before (Err refusal) b after k s (inl (unready, same)) =
      let u = unready-of second_most a b refusal k s unready in record {
        last = k;
        made = inl (u.0, same);
        same = u.1;
        never = full-never refusal unready.short.full;
      }
  direct-of cmd a before result b after k s (inr (ready, isReady, made)) =
      let r = ready-of second_most a ready k s isReady in
      let later = commanded-of cmd ready before result b after (with_spare second_most k) r.1 made in
      record {
        last = later.last;
        made = inr (with_spare second_most k, r.0, later.made);
        same = later.same;
        never = later.never;
      }

  followed-by : (refused : Option Refusal) → IsNever refused → (cmd : Command) (a : Counted)
      (before : Course) (result : Result ⊤ Refusal) (b : Counted) (after : Course)
      (k : Keeper) → IsOf a k →
      MatchOption refused
      (IsFollowing clocks_in HasCounted HasRoom IsShort second_most who reading
      (λ x middle. IsCommandedTo clocks_in HasCounted HasRoom IsShort who reading cmd x middle
      result b after) a before result b after)
      (λ refusal. (result ≡ Err refusal) × (b ≡ a) × (after ≡ before)) →
      IsCalledAs (λ last. MatchOption refused
      (IsFollowing keeper_state HasAdded keeper.HasRoom keeper.IsShort second_most who reading
      (λ x middle. IsCommandedTo keeper_state HasAdded keeper.HasRoom keeper.IsShort who reading cmd x
      middle result last after) k before result last after)
      (λ refusal. (result ≡ Err refusal) × (last ≡ k) × (after ≡ before))) result b
  followed-by None never cmd a before result b after k s h =
      following-of second_most
      (λ x middle. IsCommandedTo clocks_in HasCounted HasRoom IsShort who reading cmd x middle
      result b after)
      (λ last x middle. IsCommandedTo keeper_state HasAdded keeper.HasRoom keeper.IsShort who reading
      cmd x middle result last after) a before result b after k s
      (λ x middle kx same made. commanded-of cmd x middle result b after kx same made) h
  followed-by (Some refusal) never cmd a before result b after k s (is, stayed, same) =
      left-of _ result a b k s stayed (is, refl, same)
      (err-never refusal (Some refusal) never refl result is)

  pub plain-of : (resumes : Bool) (cmd : Command) (a : Counted) (before : Course)
      (result : Result ⊤ Refusal) (b : Counted) (after : Course) (k : Keeper) → IsOf a k →
      IsPlainTo clocks_in HasCounted HasRoom IsShort resumes who reading cmd a before result b
      after →
      IsCalledAs (λ last. IsPlainTo keeper_state HasAdded keeper.HasRoom keeper.IsShort resumes who
      reading cmd k before result last after) result b
  plain-of true cmd a before result b after k s h = direct-of cmd a before result b after k s h
  plain-of false cmd a before result b after k s h =
      followed-by (reading_refusal reading (seen (keeper_state k) before))
      (reading-never k.journal reading before) cmd a before result b after k s
      (subst (λ (c : State). MatchOption (reading_refusal reading (seen c before))
      (IsFollowing clocks_in HasCounted HasRoom IsShort second_most who reading
      (λ x middle. IsCommandedTo clocks_in HasCounted HasRoom IsShort who reading cmd x middle
      result b after) a before result b after)
      (λ refusal. (result ≡ Err refusal) × (b ≡ a) × (after ≡ before))) s.clock h)
