-- What the seconds give of an offset.
use Rattle.std.specs.Prelude.{ℕ, List, [], ◌∷◌, ℤ, pos, ◌+ℤ◌, ◌≡◌}
use Rattle.tk_ntp.specs.Phase.{part_of}
use Rattle.tk_ntp.specs.Ntp.{Ntp}
use Rattle.tk_ntp.specs.Second.{begun}

-- the state after these seconds have begun, one after the other
abbrev pub after : List ℕ → Ntp → Ntp
after [] ntp = ntp
after (sec ∷ secs) ntp = after secs (begun ntp sec)

-- the sum of the parts that these seconds give of the offset
abbrev pub given : List ℕ → Ntp → ℤ
given [] ntp = pos 0
given (sec ∷ secs) ntp =
    part_of ntp.offset ntp.constant ntp.status +ℤ given secs (begun ntp sec)

-- no part of the offset is lost: what any seconds give of it, and what is left after them, make the
-- offset
abbrev pub IsKept : Ntp → Type 0
IsKept ntp = (secs : List ℕ) → given secs ntp +ℤ (after secs ntp).offset ≡ ntp.offset
