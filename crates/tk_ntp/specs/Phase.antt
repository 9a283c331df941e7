-- The phase of a second: what it gets beyond its length at the tick and the frequency, in each of
-- the hz parts that it is divided into (second_overflow, kernel/time/ntp.c).
use Rattle.std.specs.Prelude.{ℕ, ◌*◌, ◌/◌, ◌^◌, Bool, ◌&&◌, ℤ, pos, neg_ℤ, ◌+ℤ◌, ◌-ℤ◌, ◌*ℤ◌, int_lt, if◌then◌else◌}
use Rattle.tk_ntp.specs.Bits.{has, sta_ppstime, sta_ppssignal}
use Rattle.tk_ntp.specs.Length.{one, max_frequency, toward_zero}

-- whether the next second gives a whole offset: it comes from a pulse that a signal repeats
abbrev pub gives_whole : ℕ → Bool
gives_whole status = has status sta_ppstime && has status sta_ppssignal

-- the part of an offset that the next second gives, if it doesn't give the whole
abbrev pub usual_part : ℤ → ℕ → ℤ
usual_part offset constant = toward_zero offset (4 * 2 ^ constant)

-- the part of an offset that the next second gives (ntp_offset_chunk)
abbrev pub part_of : ℤ → ℕ → ℕ → ℤ
part_of offset constant status =
    if gives_whole status then offset else usual_part offset constant

-- what the next second gives of what adjtime has still to give, in microseconds: at most 500
abbrev pub adjust_part : ℤ → ℕ → ℤ
adjust_part adjust hz =
    if int_lt (pos 500) adjust then pos (max_frequency / hz)
    else if int_lt adjust (neg_ℤ (pos 500)) then neg_ℤ (pos (max_frequency / hz))
    else toward_zero (adjust *ℤ pos 1000) hz *ℤ pos one

-- what is left of it then
abbrev pub adjust_rest : ℤ → ℤ
adjust_rest adjust =
    if int_lt (pos 500) adjust then adjust -ℤ pos 500
    else if int_lt adjust (neg_ℤ (pos 500)) then adjust +ℤ pos 500
    else pos 0
