-- Where the last account is after seconds have begun late, all or some.
use Rattle.std.proofs.Common.{◌≡◌, ◌∙◌, ap, refl, sym, subst, ℕ, ◌≤◌, ◌⊎◌, inl, inr, true, false, [], ◌∷◌, ◌++◌, List, Option, Some, None, length, length-append, arith}
use Rattle.std.specs.Prelude.{⊤, Result, Ok, Err, MatchOption}
use Rattle.std.specs.List.{All}
use Rattle.std.proofs.lemmas.List.{append_assoc, append-nil}
use Rattle.std.proofs.lemmas.List.Elements.{All-head, All-tail}
use Rattle.tk_counter.specs.Counter.{half}
use Rattle.tk_clock.specs.declared.command.Entry.{Entry}
use Rattle.tk_clock.specs.declared.refusal.Refusal.{Refusal}
use Rattle.tk_clock.specs.Journal.{Journal, followed_by, last_reading}
use Rattle.tk_clock.specs.Reach.{distance}
use Rattle.tk_clock.specs.State.{State}
use Rattle.tk_clock.proofs.Append.{at_place-last}
use Rattle.tk_keeper.specs.Keeper.{Keeper}
use Rattle.tk_keeper.specs.Room.{HasAdded, HasRoom, IsFull, IsOut, IsShort, continued, has_room, keeper_state}
use Rattle.tk_ntp.specs.Account.{IsConsistent}
use Rattle.tk_ntp.specs.Course.{Course, seen}
use Rattle.tk_ntp.specs.Entries.{second_entries, with_second}
use Rattle.tk_ntp.specs.Keeping.{Begins, HasArrivedOr, HasBegun, IsUnready, Still}
use Rattle.tk_ntp.specs.Second.{leap_at}
use Rattle.tk_ntp.specs.SteeredClock.{SteeredClock, reading_refusal}
use Rattle.tk_ntp.proofs.Accepted.{ahead_at, awake_at}
use Rattle.tk_ntp.proofs.Consistent.{consistent_at_last}
use Rattle.tk_ntp.proofs.ConsistentLate.{consistent_late, next-at}
use Rattle.tk_ntp.proofs.SeenBy.{advanced, same_seen}
use Rattle.tk_steered.specs.Kept.{IsAdvancedTo, SteeredKeeper, steered_of}
use Rattle.tk_steered.proofs.Continued.{IsTheirs, theirs-second}

-- a journal's last reading is that of its last entry
added-last : (who reading : ℕ) (journal : Journal) (entry : Entry) (entries : List Entry) →
    All (IsTheirs who reading) (entry ∷ entries) →
    last_reading (continued (entry ∷ entries) journal) ≡ reading
added-last who reading journal entry [] each =
    at_place-last journal.opening.reading (λ (e : Entry). e.reading) journal.entries entry
    (length (journal.entries ++ entry ∷ []))
    (length-append journal.entries (entry ∷ []))
    ∙ (All-head (IsTheirs who reading) entry [] each).1
added-last who reading journal entry (next ∷ entries) each =
    ap (λ (es : List Entry). last_reading (record journal { entries = es }))
    (sym (append_assoc journal.entries (entry ∷ []) (next ∷ entries)))
    ∙ added-last who reading (followed_by journal entry) next entries
    (All-tail (IsTheirs who reading) entry (next ∷ entries) each)

-- without an entry, room is what it was
room-stays : (a b : Keeper) → HasAdded a [] b → HasRoom 3 a → HasRoom 3 b
room-stays a b h room =
    let same : b.journal ≡ a.journal =
    h.journal
    ∙ ap (λ (es : List Entry). record a.journal { entries = es }) (append-nil a.journal.entries) in
    record {
      fits = ap (has_room 3) same ∙ room.fits;
      spare = omega (arith, room.spare, h.spare);
    }

room-short : (keeper : Keeper) (refusal : Refusal) → HasRoom 3 keeper → IsShort 3 keeper refusal → ⊥
room-short keeper refusal room (IsFull full) = cc (sym room.fits ∙ full)
room-short keeper refusal room (IsOut fits few) = absurd (omega (arith, room.spare, few))

module _ (who reading : ℕ) where
  -- the entries of a second are at the reading; without any, there is room for the next second's
  ended : (ready b : Keeper) (entries : List Entry) → HasAdded ready entries b →
      All (IsTheirs who reading) entries → HasRoom 3 ready →
      ((keeper_state b).base.last ≡ reading) ⊎ HasRoom 3 b
  ended ready b [] given each room = inr (room-stays ready b given room)
  ended ready b (entry ∷ entries) given each room =
      inl
      (ap last_reading given.journal ∙ added-last who reading ready.journal entry entries each)

  begun-late : (a : Keeper) (before : Course) (b : Keeper) (after : Course) →
      HasBegun keeper_state HasAdded HasRoom IsShort true who reading a before b after →
      distance (keeper_state a).base reading ≤ half (keeper_state a).base.counter →
      (keeper_state a).base.asleep ≡ false →
      IsConsistent (seen (keeper_state a) before) ⊎ HasRoom 3 a →
      IsConsistent (seen (keeper_state b) after) ⊎ HasRoom 3 b
  begun-late start from end to (Still a course) ahead awake h = h
  begun-late start from last to
      (Begins a ready b end before middle after at due room is given rest) ahead awake h =
      let s = seen (keeper_state a) before in
      let there = next-at at reading s ahead awake in
      let entries = second_entries true who reading at s in
      let last_account : middle.last_account ≡ reading = ap (λ (t : SteeredClock). t.last_account) is ∙ there.last_account in
      begun-late b middle end after rest
      (subst (λ (t : SteeredClock). distance t.clock.base reading ≤ half t.clock.base.counter)
      (sym is) there.ahead)
      (ap (λ (t : SteeredClock). t.clock.base.asleep) is ∙ there.awake)
      (elim
      (ended ready b entries given
      (theirs-second who reading (leap_at before.steering.ntp before.next)
      (with_second true reading at s)) room.room)
      as (λ _. IsConsistent (seen (keeper_state b) middle) ⊎ HasRoom 3 b) [
        | inl last ↦ inl (consistent_at_last (seen (keeper_state b) middle) (last_account ∙ sym last))
        | inr more ↦ inr more
      ])

  stopped-late : (x b : Keeper) (after : Course) (refusal : Refusal) →
      IsUnready keeper_state HasAdded HasRoom IsShort 3 x refusal b →
      IsConsistent (seen (keeper_state x) after) ⊎ HasRoom 3 x →
      IsConsistent (seen (keeper_state b) after)
  stopped-late x b after refusal unready (inl consistent) =
      subst (λ (k : State). IsConsistent (seen k after)) (sym unready.same) consistent
  stopped-late x b after refusal unready (inr room) =
      absurd (room-short b refusal (room-stays x b unready.kept room) unready.short)

  late-by : (refused : Option Refusal) (a : Keeper) (before : Course) (result : Result ⊤ Refusal)
      (b : Keeper) (after : Course) →
      reading_refusal reading (seen (keeper_state a) before) ≡ refused →
      MatchOption refused
      (HasArrivedOr keeper_state HasAdded HasRoom IsShort true who reading a before result b after)
      (λ r. (result ≡ Err r) × (b ≡ a) × (after ≡ before)) →
      IsConsistent (seen (keeper_state a) before) → IsConsistent (seen (keeper_state b) after)
  late-by None a before (Ok done) b after is h consistent =
      let s = seen (keeper_state a) before in
      consistent_late reading s (seen (keeper_state b) after)
      (advanced keeper_state HasAdded HasRoom IsShort true who reading a before b after h)
      (ahead_at reading s is) (awake_at reading s is) consistent
  late-by None a before (Err refusal) b after is h consistent =
      let s = seen (keeper_state a) before in
      stopped-late h.last b after refusal h.unready
      (begun-late a before h.last after h.begun (ahead_at reading s is) (awake_at reading s is)
      (inl consistent))
  late-by (Some r) a before result b after is h consistent =
      subst IsConsistent (sym (same_seen keeper_state HasAdded HasRoom IsShort a b before after h.1 h.2))
      consistent

  -- the last account stays after the last command, and before the next second
  pub late_consistent : (before after : SteeredKeeper) (result : Result ⊤ Refusal) →
      IsAdvancedTo true who reading before result after → IsConsistent (steered_of before) →
      IsConsistent (steered_of after)
  late_consistent before after result =
      late-by (reading_refusal reading (steered_of before)) before.keeper before.course result
      after.keeper after.course refl
