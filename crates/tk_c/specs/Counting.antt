-- The laws of room and of counted commands: what whoever steers the clocks may count on.
use Rattle.std.proofs.Common.{ℕ, ◌+◌, List, [], ◌++◌, arith}
use Rattle.std.proofs.lemmas.List.{length-append}
use Rattle.tk_clock.specs.declared.command.Entry.{Entry}
use Rattle.tk_c.specs.declared.counted.CountedClock.{CountedClock}
use Rattle.tk_c.specs.Room.{HasCounted, HasRoom}

pub stays : (a : CountedClock) → HasCounted a [] a
stays a = omega arith

pub needs_less : (count : ℕ) (a : CountedClock) → HasRoom (count + 1) a → HasRoom count a
needs_less count a room = omega (arith, room)

pub joins : (a b c : CountedClock) (xs ys : List Entry) → HasCounted a xs b → HasCounted b ys c →
    HasCounted a (xs ++ ys) c
joins a b c xs ys h k = omega (arith, h, k, length-append xs ys)
