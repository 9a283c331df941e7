-- The laws of room and of added entries: what whoever gives a keeper commands may count on.
use Rattle.std.proofs.Common.{◌≡◌, ◌∙◌, ap, refl, sym, ℕ, ◌+◌, ◌≤◌, true, List, [], ◌++◌, length, arith}
use Rattle.std.proofs.lemmas.Grind.{common_steps}
use Rattle.std.proofs.lemmas.List.{append_assoc, append-nil, length-append}
use Rattle.tk_clock.specs.declared.command.Entry.{Entry}
use Rattle.tk_clock.specs.Journal.{Journal, accepted_count}
use Rattle.tk_clock.specs.Limits.{listed_most, counted_most}
use Rattle.tk_keeper.specs.Keeper.{Keeper}
use Rattle.tk_keeper.specs.Room.{HasAdded, HasRoom, continued, has_room}

-- what room is
pub room-of : (count : ℕ) (journal : Journal) → has_room count journal ≡ true →
    (length journal.entries + count ≤ listed_most) × (accepted_count journal + count ≤ counted_most)
room-of count journal e = (grind (arith, common_steps), grind (arith, common_steps))

pub has-room : (count : ℕ) (journal : Journal) → length journal.entries + count ≤ listed_most →
    accepted_count journal + count ≤ counted_most → has_room count journal ≡ true
has-room count journal low counted = grind (arith, common_steps)

-- fewer entries need less room
pub room-less : (count more : ℕ) (journal : Journal) → count ≤ more → has_room more journal ≡ true →
    has_room count journal ≡ true
room-less count more journal low e =
    let room = room-of more journal e in
    has-room count journal (omega (arith, room.0, low)) (omega (arith, room.1, low))

pub needs_less : (count : ℕ) (keeper : Keeper) → HasRoom (count + 1) keeper → HasRoom count keeper
needs_less count keeper room = record {
  fits = room-less count (count + 1) keeper.journal (omega arith) room.fits;
  spare = omega (arith, room.spare);
}

-- a keeper whose journal stays adds no entry
pub unchanged : (before after : Keeper) → after.journal ≡ before.journal →
    after.began ≡ before.began → before.spare ≤ after.spare → HasAdded before [] after
unchanged before after journal began spare = record {
  journal =
      journal
      ∙ ap (λ (l : List Entry). record before.journal { entries = l })
      (sym (append-nil before.journal.entries));
  began = began;
  spare = omega (arith, spare);
}

pub stays : (a : Keeper) → HasAdded a [] a
stays a = unchanged a a refl refl (omega arith)

pub joins : (a b c : Keeper) (xs ys : List Entry) → HasAdded a xs b → HasAdded b ys c →
    HasAdded a (xs ++ ys) c
joins a b c xs ys h k = record {
  journal =
      k.journal
      ∙ ap (continued ys) h.journal
      ∙ ap (λ (l : List Entry). record a.journal { entries = l })
      (append_assoc a.journal.entries xs ys);
  began = k.began ∙ h.began;
  spare = omega (arith, h.spare, k.spare, length-append xs ys);
}
