-- Clocks that list no command do what a keeper with their journal does.
use Rattle.std.proofs.Common.{◌≡◌, ◌∙◌, ap, subst, refl, sym, ℕ, ◌+◌, Bool, true, false, List, [], None, arith}
use Rattle.tk_clock.specs.declared.command.Entry.{Entry}
use Rattle.tk_clock.specs.declared.refusal.Refusal.{Refusal}
use Rattle.tk_clock.specs.Journal.{Journal}
use Rattle.tk_clock.specs.State.{State}
use Rattle.tk_keeper.specs.Adding.{has-room, room-of, stays, unchanged}
use Rattle.tk_keeper.specs.Keeper.{Keeper}
use Rattle.tk_keeper.specs.Room as keeper
use Rattle.tk_keeper.specs.Room.{HasAdded, IsFull, continued, has_room, keeper_state}
use Rattle.tk_ntp.specs.Advance.{IsDue}
use Rattle.tk_ntp.specs.Course.{Course, seen}
use Rattle.tk_ntp.specs.Entries.{second_begun, second_entries}
use Rattle.tk_ntp.specs.Keeping.{Begins, HasBegun, IsReady, IsUnready, Still, second_most}
use Rattle.tk_ntp.specs.SteeredClock.{SteeredClock}
use Rattle.tk_report.specs.CountedClocks.{Counted, IsKept}
use Rattle.tk_report.specs.Counting.{continued-none}
use Rattle.tk_report.specs.Room.{HasCounted, HasRoom, IsShort, clocks_in}

-- clocks are those of a keeper's journal
abbrev pub IsOf : Counted → Keeper → Type 0
IsOf a k = IsKept None a k.journal

-- a keeper with memory for more entries
abbrev pub with_spare : ℕ → Keeper → Keeper
with_spare count k = record k { spare = k.spare + count }

-- a keeper with further entries
abbrev pub with_entries : List Entry → Keeper → Keeper
with_entries entries k = record k { journal = continued entries k.journal }

pub added : (k : Keeper) (entries : List Entry) → HasAdded k entries (with_entries entries k)
added k entries = record { journal = refl; began = refl; spare = omega arith }

-- the clocks after no entry are still those of the keeper
pub of-same : (a b : Counted) (k : Keeper) → IsOf a k → HasCounted a [] b → IsOf b k
of-same a b k s counted =
    subst (λ (j : Journal). IsKept None b j) (continued-none k.journal)
    (counted None k.journal s)

pub ready-of : (count : ℕ) (a r : Counted) (k : Keeper) → IsOf a k →
    IsReady clocks_in HasCounted HasRoom IsShort count a r →
    IsReady keeper_state HasAdded keeper.HasRoom keeper.IsShort count k (with_spare count k)
    × IsOf r (with_spare count k)
ready-of count a r k s ready =
    let t = of-same a r k s ready.kept in
    let fits = has-room count k.journal
    (omega (arith, ready.room.listed, t.count, t.since, t.most))
    (omega (arith, ready.room.fits, t.count)) in (
      record {
        same = refl;
        kept = unchanged k (with_spare count k) refl refl (omega arith);
        room = record { fits = fits; spare = omega arith };
      },
      t,
    )

no-room : (count : ℕ) (b : Counted) (k : Keeper) → IsOf b k → (HasRoom count b → ⊥) →
    (fits : Bool) → has_room count k.journal ≡ fits → has_room count k.journal ≡ false
no-room count b k s short true e =
    let room = room-of count k.journal e in
    absurd (short (record {
      listed = omega (arith, room.0, s.count, s.since, s.most);
      fits = omega (arith, room.1, s.count);
    }))
no-room count b k s short false e = e

pub unready-of : (count : ℕ) (a b : Counted) (refusal : Refusal) (k : Keeper) → IsOf a k →
    IsUnready clocks_in HasCounted HasRoom IsShort count a refusal b →
    IsUnready keeper_state HasAdded keeper.HasRoom keeper.IsShort count k refusal k × IsOf b k
unready-of count a b refusal k s unready =
    let t = of-same a b k s unready.kept in (
      record {
        same = refl;
        kept = stays k;
        short = subst (λ (r : Refusal). keeper.IsShort count k r) (sym unready.short.full)
            (IsFull (no-room count b k t unready.short.short (has_room count k.journal) refl));
      },
      t,
    )

module _ (is_late : Bool) (who reading : ℕ) where
  -- the keeper at which the same seconds have begun
  pub record HasBegunAs (k : Keeper) (before : Course) (b : Counted) (after : Course) :
      Type 0 where
    pub last : Keeper
    pub begun : HasBegun keeper_state HasAdded keeper.HasRoom keeper.IsShort is_late who reading k
        before last after
    pub same : IsOf b last

  pub begun-of : (a : Counted) (before : Course) (b : Counted) (after : Course) (k : Keeper) →
      IsOf a k →
      HasBegun clocks_in HasCounted HasRoom IsShort is_late who reading a before b after →
      HasBegunAs k before b after
  begun-of start from end to k s (Still a course) =
      record { last = k; begun = Still k course; same = s }
  begun-of start from last to k s
      (Begins a ready b end before middle after at due isReady is given rest) =
      let old : State → SteeredClock = λ (c : State). seen c before in
      let r = ready-of second_most a ready k s isReady in
      let more = with_spare second_most k in
      let entries = second_entries is_late who reading at (old (keeper_state k)) in
      let counted : HasCounted ready entries b =
      subst (λ (c : State). HasCounted ready (second_entries is_late who reading at (old c)) b)
      s.clock given in
      let next = with_entries entries more in
      let t : IsOf b next = counted None more.journal r.1 in
      let later = begun-of b middle end after next t rest in
      let owed = subst (λ (c : State). IsDue (old c) reading at) s.clock due in
      let state : seen (keeper_state next) middle
      ≡ second_begun is_late reading at (old (keeper_state k)) =
      ap (λ (c : State). seen c middle) (sym t.clock) ∙ is
      ∙ ap (λ (c : State). second_begun is_late reading at (old c)) s.clock in
      record {
        last = later.last;
        begun = Begins k more next later.last before middle after at owed r.0 state
            (added more entries) later.begun;
        same = later.same;
      }
