-- The line of the reply to a request.
use Rattle.std.specs.Prelude.{◌≡◌, ℕ, ◌<◌, ℤ, pos, unsigned_abs, List, [], ◌∷◌, ◌++◌, drop, flat_map, codes, decimal, Bool, true, false}
use Rattle.std.specs.Fmt.{signed_decimal}
use Rattle.tk_ntp.specs.declared.reply.Reply.{Reply}
use Rattle.tk_ntp.specs.Bits.{has, sta_nano}
use Rattle.tk_script.specs.Utc.{nine_digits}
use Rattle.tk_script.specs.Word.{state_name}

-- a reply that can be written: the part of a second is from 0 to below 10^9
abbrev pub IsAdjWritable : Reply → Type 0
IsAdjWritable reply =
    (reply.timex.sub ≡ pos (unsigned_abs reply.timex.sub))
    × (unsigned_abs reply.timex.sub < 1000000000)

-- the part of a second: nine digits of nanoseconds, or six of microseconds
abbrev pub sub_digits : Bool → ℕ → List ℕ
sub_digits true sub = nine_digits sub
sub_digits false sub = drop 3 (nine_digits sub)

-- the time of a reply: seconds, a dot, and the part of a second, in nanoseconds with STA_NANO
abbrev pub reply_time : Reply → List ℕ
reply_time reply =
    signed_decimal reply.timex.sec ++ codes "."
    ++ sub_digits (has reply.timex.status sta_nano) (unsigned_abs reply.timex.sub)

-- the numbers after the time: OFFSET, FREQ, MAXERROR, ESTERROR, STATUS, CONSTANT, TICK, TAI
abbrev pub reply_numbers : Reply → List ℤ
reply_numbers reply =
    reply.timex.offset ∷ reply.timex.freq ∷ reply.timex.maxerror ∷ reply.timex.esterror
    ∷ pos reply.timex.status ∷ reply.timex.constant ∷ reply.timex.tick ∷ pos reply.tai ∷ []

-- a comma and a number
abbrev pub number_field : ℤ → List ℕ
number_field n = codes "," ++ signed_decimal n

-- the line of a reply, with the number of the commands accepted so far:
-- `adj,STATE,TIME,OFFSET,FREQ,MAXERROR,ESTERROR,STATUS,CONSTANT,TICK,TAI,NUMBER`
abbrev pub adj_line : Reply → ℕ → List ℕ
adj_line reply number =
    codes "adj," ++ state_name reply.state ++ codes "," ++ reply_time reply
    ++ flat_map number_field (reply_numbers reply) ++ codes "," ++ decimal number ++ codes "\n"
