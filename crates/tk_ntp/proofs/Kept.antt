-- No part of an offset is lost.
use Rattle.std.proofs.Common.{◌≡◌, ℕ, List, [], ◌∷◌, ℤ, pos, ◌+ℤ◌, ◌-ℤ◌, arith}
use Rattle.std.proofs.lemmas.Int.{ints}
use Rattle.tk_ntp.specs.Phase.{part_of}
use Rattle.tk_ntp.specs.Ntp.{Ntp}
use Rattle.tk_ntp.specs.Second.{begun}
use Rattle.tk_ntp.specs.Given.{after, given}

-- before a second begins, its part is still in the offset
one_more : (part given left offset : ℤ) → given +ℤ left ≡ offset -ℤ part →
    part +ℤ given +ℤ left ≡ offset
one_more part given left offset h = omega (arith, ints, h)

none : (offset : ℤ) → pos 0 +ℤ offset ≡ offset
none offset = omega (arith, ints)

pub kept : (ntp : Ntp) (secs : List ℕ) → given secs ntp +ℤ (after secs ntp).offset ≡ ntp.offset
kept ntp [] = none ntp.offset
kept ntp (sec ∷ secs) =
    let next = begun ntp sec in
    one_more (part_of ntp.offset ntp.constant ntp.status) (given secs next) (after secs next).offset ntp.offset
    (kept next secs)
