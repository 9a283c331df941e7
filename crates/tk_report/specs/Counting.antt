-- The laws of room and of counted commands: what whoever steers the clocks may count on.
use Rattle.std.proofs.Common.{◌≡◌, ap, subst, sym, ℕ, ◌+◌, List, [], ◌∷◌, ◌++◌, arith}
use Rattle.std.proofs.lemmas.List.{append_assoc, append-nil, length_push}
use Rattle.tk_clock.specs.declared.command.Entry.{Entry}
use Rattle.tk_clock.specs.Journal.{Journal, followed_by}
use Rattle.tk_clock.specs.State.{State, state_of}
use Rattle.tk_keeper.specs.Room.{continued}
use Rattle.tk_report.specs.CountedClocks.{Counted, IsKept}
use Rattle.tk_report.specs.Room.{HasCounted, HasRoom}

-- a journal with no further entry stays
pub continued-none : (journal : Journal) → continued [] journal ≡ journal
continued-none journal =
    ap (λ (l : List Entry). record journal { entries = l }) (append-nil journal.entries)

pub stays : (a : Counted) → HasCounted a [] a
stays a = λ keep journal kept. subst (λ (j : Journal). IsKept keep a j)
    (sym (continued-none journal)) kept

pub needs_less : (count : ℕ) (a : Counted) → HasRoom (count + 1) a → HasRoom count a
needs_less count a room = record {
  listed = omega (arith, room.listed);
  fits = omega (arith, room.fits);
}

pub joins : (a b c : Counted) (xs ys : List Entry) → HasCounted a xs b → HasCounted b ys c →
    HasCounted a (xs ++ ys) c
joins a b c xs ys h k = λ keep journal kept.
    let same : continued ys (continued xs journal) ≡ continued (xs ++ ys) journal =
    ap (λ (l : List Entry). record journal { entries = l })
    (append_assoc journal.entries xs ys) in
    subst (λ (j : Journal). IsKept keep c j) same
    (k keep (continued xs journal) (h keep journal kept))

-- clocks that accepted a command are those of the journal that has its entry too
pub counted-one : (before : Counted) (clock : State) (entry : Entry) →
    ((journal : Journal) → before.clock ≡ state_of journal →
    clock ≡ state_of (followed_by journal entry)) →
    HasCounted before (entry ∷ []) (record before { clock = clock; count = before.count + 1 })
counted-one before clock entry runs = λ keep journal kept. record {
  clock = runs journal kept.clock;
  count = omega (arith, kept.count, length_push journal.entries entry);
  since = kept.since;
  most = kept.most;
}
