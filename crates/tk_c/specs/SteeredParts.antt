-- The coming leap second of steered clocks, as a C caller gets it (ntp_get_next_leap,
-- kernel/time/ntp.c).
use Rattle.std.specs.Prelude.{◌≡◌, ℕ, ℤ, pos, negsuc, nat_eq, nat_lt, ◌&&◌, ◌||◌, if◌then◌else◌}
use Rattle.tk_ntp.specs.declared.numbers.LeapNumbers.{LeapNumbers}
use Rattle.tk_ntp.specs.Bits.{has, sta_ins, sta_del}
use Rattle.tk_ntp.specs.Leap.{due_in}
use Rattle.tk_ntp.specs.Numbers.{leap_numbers}
use Rattle.tk_ntp.specs.SteeredClock.{SteeredClock}

-- what REALTIME moves by at the leap of a plan, in seconds: the state 1 is that of an insertion, the
-- state 2 that of a deletion, and the status still has to ask for it. It is 0 if no leap is due, or
-- if its second is before `next`, the one that begins next
abbrev pub leap_of_numbers : LeapNumbers → ℕ → ℕ → ℤ
leap_of_numbers plan status next =
    if nat_eq plan.is_due 0 || nat_lt plan.due next then pos 0
    else if nat_eq plan.state 1 && has status sta_ins then negsuc 0
    else if nat_eq plan.state 2 && has status sta_del then pos 1
    else pos 0

-- what REALTIME moves by at the coming leap
abbrev pub coming_leap : SteeredClock → ℤ
coming_leap steered =
    leap_of_numbers (leap_numbers steered.steering.ntp.plan) steered.steering.ntp.status
    steered.next

-- it is returned, and the second of REALTIME whose beginning is the leap is written, unless no leap
-- comes
abbrev pub IsComingLeap : SteeredClock → ℕ → ℕ → ℤ → Type 0
IsComingLeap steered old new by =
    (by ≡ coming_leap steered)
    × (by ≡ pos 0 → new ≡ old)
    × ((by ≡ pos 0 → ⊥) → new ≡ due_in steered.steering.ntp.plan.due)
