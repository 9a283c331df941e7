-- A keeper that is given commands.
use Rattle.std.proofs.Common.{◌≡◌, ◌∙◌, refl, sym, subst, ℕ, ◌+◌, ◌-◌, ◌<◌, ◌≤◌, true, false, length, Option, arith}
use Rattle.std.specs.Prelude.{⊤, min, Result, Ok, Err, MatchResult}
use Rattle.std.proofs.lemmas.Grind.{common_steps}
use Rattle.std.proofs.lemmas.List.{length_push}
use Rattle.tk_clock.specs.declared.command.Entry.{Entry}
use Rattle.tk_clock.specs.declared.refusal.Refusal.{Refusal}
use Rattle.tk_clock.specs.declared.refusal.Refusal.TheVariants.{Memory}
use Rattle.tk_clock.specs.Journal.{Journal, followed_by}
use Rattle.tk_clock.specs.Limits.{listed_most}
use Rattle.tk_clock.specs.Refusal.{first_refusal, is_full, state_refusal}
use Rattle.tk_clock.specs.State.{state_of}
use Rattle.tk_clock.proofs.Legal.{first_refusal-state}
use Rattle.tk_keeper.specs.Adding.{has-room, room-of}
use Rattle.tk_keeper.specs.Keeper.{Keeper}
use Rattle.tk_keeper.specs.Room.{HasRoom, IsShort, IsOut, has_room}

pub not-full : (journal : Journal) → has_room 1 journal ≡ true → is_full journal ≡ false
not-full journal e = let room = room-of 1 journal e in grind (arith, common_steps)

-- an entry takes the room of one
pub room-followed : (count : ℕ) (journal : Journal) (entry : Entry) →
    has_room (count + 1) journal ≡ true → has_room count (followed_by journal entry) ≡ true
room-followed count journal entry e =
    let room = room-of (count + 1) journal e in
    let longer = length_push journal.entries entry in
    has-room count (followed_by journal entry) (omega (arith, room.0, longer))
    (omega (arith, room.1, longer))

-- a keeper with room refuses what its clocks refuse
pub refusal-is : (keeper : Keeper) (entry : Entry) (told : Option Refusal) → HasRoom 1 keeper →
    first_refusal keeper.journal entry ≡ told →
    state_refusal (state_of keeper.journal) entry.reading entry.cmd ≡ told
refusal-is keeper entry told room is =
    let asked = state_refusal (state_of keeper.journal) entry.reading entry.cmd in
    sym (first_refusal-state keeper.journal (state_of keeper.journal) entry.who entry.reading
    entry.cmd asked refl (not-full keeper.journal room.fits) refl)
    ∙ is

-- memory that was asked for
pub reserved : (count : ℕ) (before : Journal) (after : Keeper) (result : Result ⊤ Refusal) →
    has_room count before ≡ true → after.journal ≡ before →
    MatchResult result
    (λ _. min count (listed_most - length before.entries) ≤ after.spare)
    (λ refusal. (refusal ≡ Memory)
    × (after.spare < min count (listed_most - length before.entries))) →
    MatchResult result (λ _. HasRoom count after) (λ refusal. IsShort count after refusal)
reserved count before after (Ok done) e same answer =
    let room = room-of count before e in
    record {
      fits = subst (λ j. has_room count j ≡ true) (sym same) e;
      spare = omega (arith, room.0, answer);
    }
reserved count before after (Err refusal) e same answer =
    let room = room-of count before e in
    subst (λ r. IsShort count after r) (sym answer.0)
    (IsOut (subst (λ j. has_room count j ≡ true) (sym same) e) (omega (arith, room.0, answer.1)))
