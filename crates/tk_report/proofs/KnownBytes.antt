-- Known bytes over several reads or writes.
use Rattle.std.proofs.Common.{◌≡◌, ◌+◌, ◌-◌, ◌++◌, ℕ, List, take, drop, length, Option, arith}
use Rattle.std.proofs.KnownBytes.{Appends-trans, Consumes-trans}
use Rattle.std.proofs.Math.Seq.{take-add, take-append_seam}
use Rattle.std.proofs.lemmas.List.{length-drop, take_all}
use Rattle.std.specs.Io.KnownBytes.{Appends, Consumes}

-- one more piece of a text was written
pub appends-more : (old mid new : Option (List ℕ)) (text : List ℕ) (written count : ℕ) →
    Appends old mid (take written text) → Appends mid new (take count (drop written text)) →
    Appends old new (take (written + count) text)
appends-more old mid new text written count before piece =
    rw (take-add written count text)
    (Appends-trans old mid new (take written text) (take count (drop written text)) before piece)

-- one more piece of an input was read into a buffer whose first bytes did not change
pub consumes-next : (old mid new : Option (List ℕ)) (before room rest : List ℕ)
    (filled count len : ℕ) →
    length room ≡ len → take filled room ≡ take filled before →
    Consumes old mid (take filled before) → Consumes mid new (take count (drop filled room)) →
    Consumes old new (take (filled + count) (take len (room ++ rest)))
consumes-next old mid new before room rest filled count len same front first piece =
    let whole : take len (room ++ rest) ≡ room = rw (← same) (take-append_seam room rest) in
    rw (whole, take-add filled count room, front)
    (Consumes-trans old mid new (take filled before) (take count (drop filled room)) first piece)

-- all bytes after a place
pub take-rest : (text : List ℕ) (place : ℕ) →
    take (length text - place) (drop place text) ≡ drop place text
take-rest text place =
    take_all (length text - place) (drop place text) (simp length-drop (omega arith))
