-- Worked rows: the definitions compute the replies that the kernel's own ntp.c gave to the same
-- requests, with HZ 250.
use Rattle.std.proofs.Common.{◌≡◌, ℕ, List, [], ◌∷◌, refl, true, false, arith}
use Rattle.std.proofs.lemmas.Int.{ints}
use Rattle.std.specs.Prelude.{ℤ, pos, neg_ℤ, Some, None}
use Rattle.tk_counter.specs.Counter.{Counter}
use Rattle.tk_clock.specs.declared.timespec.Timespec.{Timespec}
use Rattle.tk_ntp.specs.declared.timex.Timex.{Timex}
use Rattle.tk_ntp.specs.declared.reply.Reply.{Reply}
use Rattle.tk_ntp.specs.declared.reply.TimeState.{TimeState}
use Rattle.tk_ntp.specs.declared.reply.TimeState.TheVariants.{Ok, Ins, Del, Oop, Wait, Error}
use Rattle.tk_ntp.specs.declared.leap.Leap.TheVariants.{None as NoLeap, Insert, Delete}
use Rattle.tk_ntp.specs.declared.rate.Rate.{Rate}
use Rattle.tk_ntp.specs.Change.{is_same, change_of}
use Rattle.tk_ntp.specs.Fault.{is_faulty}
use Rattle.tk_ntp.specs.Rate.{rate_for}
use Rattle.tk_ntp.specs.Request.{no_request, step_of}
use Rattle.tk_ntp.specs.Lag.{lag_after, made_up}
use Rattle.tk_ntp.specs.Leap.{tai_after_leap}
use Rattle.tk_ntp.specs.Ntp.{Ntp, fresh, cleared, second_length}
use Rattle.tk_ntp.specs.Second.{leap_at}
use Rattle.tk_ntp.specs.Steady.{IsSecondLong, IsSince}
use Rattle.tk_ntp.specs.SteeredClock.{steered_opened}
use Rattle.tk_ntp.specs.Given.{after}
use Rattle.tk_ntp.specs.Modes.{asked}
use Rattle.tk_ntp.specs.Reply.{reply_to}

-- a time of REALTIME
abbrev at : ℕ → ℕ → Timespec
at sec nsec = record { sec = pos sec; nsec = nsec }

-- a reply to some modes, without its time: the state, then offset, freq, maxerror, esterror, status,
-- constant, tick and tai
abbrev replied : ℕ → Timespec → ℕ → TimeState → ℤ → ℤ → ℕ → ℕ → ℕ → ℕ → ℕ → ℕ → Reply
replied modes time sub state offset freq maxerror esterror status constant tick tai = record {
  state = state;
  tai = tai;
  timex = record {
    modes = modes;
    offset = offset;
    freq = freq;
    maxerror = pos maxerror;
    esterror = pos esterror;
    status = status;
    constant = pos constant;
    tick = pos tick;
    sec = time.sec;
    sub = pos sub;
  };
}

-- ---- a fresh discipline

fresh-reply : reply_to no_request (at 1700000000 0) 0 (fresh 250)
    ≡ replied 0 (at 1700000000 0) 0 Error (pos 0) (pos 0) 16000000 16000000 64 2 10000 0
fresh-reply = refl

fresh-length : second_length (fresh 250) ≡ pos 4294967296000000000
fresh-length = refl

-- ---- the frequency: 100 ppm at once, and its bounds

abbrev frequency : ℤ → Timex
frequency freq = record no_request { modes = 0x2; freq = freq }

faster : reply_to (frequency (pos 6553600)) (at 1700000000 0) 0 (fresh 250)
    ≡ replied 0x2 (at 1700000000 0) 0 Error (pos 0) (pos 6553600) 16000000 16000000 64 2 10000 0
faster = refl

-- 10^9 * 2^32 and 100,000 * 2^32
faster-length : second_length (asked (frequency (pos 6553600)) 1700000000 (fresh 250))
    ≡ pos 4295396792729600000
faster-length = refl

clamped : reply_to (frequency (pos 40000000)) (at 1700000010 501049935) 0 (fresh 250)
    ≡ replied 0x2 (at 1700000010 0) 501049 Error (pos 0) (pos 32768000) 16000000 16000000 64 2
    10000 0
clamped = refl

slower : reply_to (frequency (neg_ℤ (pos 1))) (at 1700000010 501049935) 0 (fresh 250)
    ≡ replied 0x2 (at 1700000010 0) 501049 Error (pos 0) (neg_ℤ (pos 1)) 16000000 16000000 64 2
    10000 0
slower = refl

greatest : is_faulty (frequency (pos 140737488355)) ≡ false
greatest = refl

too_great : is_faulty (frequency (pos 140737488356)) ≡ true
too_great = refl

-- ---- the PLL: 100 ms at the constant 6, in nanoseconds

abbrev pll : ℤ → ℕ → Timex
pll offset status = record no_request {
  modes = 0x2035;
  offset = offset;
  status = status;
  constant = pos 6;
}

abbrev later : ℤ → Timex
later offset = record no_request { modes = 0x2001; offset = offset }

pll-reply : reply_to (pll (pos 100000000) 1) (at 1700000000 500000000) 0 (fresh 250)
    ≡ replied 0x2035 (at 1700000000 0) 500000000 Ok (pos 100000000) (pos 0) 0 16000000 8193 6 10000
    0
pll-reply = refl

abbrev pll_state : Ntp
pll_state = asked (pll (pos 100000000) 1) 1700000000 (fresh 250)

pll-second : reply_to no_request (at 1700000001 500195264) 0 (after (1700000001 ∷ []) pll_state)
    ≡ replied 0 (at 1700000001 0) 500195264 Ok (pos 99609375) (pos 0) 500 16000000 8193 6 10000 0
pll-second = refl

-- ---- the FLL after 300 s without an offset, and the PLL 16 s later

abbrev fll_state : Ntp
fll_state = asked (pll (pos 0) 9) 1700000000 (fresh 250)

fll-reply : reply_to (later (neg_ℤ (pos 3000000))) (at 1700000300 500000000) 0
    (record fll_state { maxerror = 150000 })
    ≡ replied 0x2001 (at 1700000300 0) 500000000 Ok (neg_ℤ (pos 3000000)) (neg_ℤ (pos 220090))
    150000 16000000 24585 6 10000 0
fll-reply = refl

abbrev after_fll : Ntp
after_fll = asked (later (neg_ℤ (pos 3000000))) 1700000300 fll_state

fll-then_pll : reply_to (later (neg_ℤ (pos 3000000))) (at 1700000316 499769627) 0
    (record after_fll { maxerror = 158000 })
    ≡ replied 0x2001 (at 1700000316 0) 499769627 Ok (neg_ℤ (pos 3000000)) (neg_ℤ (pos 223090))
    158000 16000000 8201 6 10000 0
fll-then_pll = refl

-- ---- microseconds: the constant counts 4 more, and an offset is at most 500 ms

abbrev micro : Timex
micro = record no_request {
  modes = 0x1035;
  offset = neg_ℤ (pos 300);
  status = 1;
  constant = pos 2;
}

abbrev micro_state : Ntp
micro_state = asked micro 1700000000 (fresh 250)

micro-reply : reply_to micro (at 1700000000 500000000) 0 (fresh 250)
    ≡ replied 0x1035 (at 1700000000 0) 500000 Ok (neg_ℤ (pos 300)) (pos 0) 0 16000000 1 6 10000 0
micro-reply = refl

micro-second : reply_to no_request (at 1700000001 249999828) 0 (after (1700000001 ∷ []) micro_state)
    ≡ replied 0 (at 1700000001 0) 249999 Ok (neg_ℤ (pos 298)) (pos 0) 500 16000000 1 6 10000 0
micro-second = refl

abbrev far : Timex
far = record no_request { modes = 0x1; offset = pos 700000 }

abbrev micro_later : Ntp
micro_later = after (1700000001 ∷ 1700000002 ∷ []) micro_state

micro-far : reply_to far (at 1700000002 499998211) 0 micro_later
    ≡ replied 0x1 (at 1700000002 0) 499998 Ok (pos 500000) (pos 62500) 1000 16000000 1 6 10000 0
micro-far = refl

abbrev nano : Timex
nano = record no_request { modes = 0x2000 }

abbrev far_state : Ntp
far_state = asked far 1700000002 micro_later

micro-nano : reply_to nano (at 1700000002 499998211) 0 far_state
    ≡ replied 0x2000 (at 1700000002 0) 499998211 Ok (pos 500000000) (pos 62500) 1000 16000000 8193 6
    10000 0
micro-nano = refl

nano-far : reply_to (later (neg_ℤ (pos 2000000000))) (at 1700000002 499998211) 0
    (asked nano 1700000002 far_state)
    ≡ replied 0x2001 (at 1700000002 0) 499998211 Ok (neg_ℤ (pos 500000000)) (pos 62500) 1000
    16000000 8193 6 10000 0
nano-far = refl

-- ---- adjtime: 1,200 us, at most 500 in a second

abbrev shot : ℤ → Timex
shot offset = record no_request { modes = 0x8001; offset = offset }

abbrev read_only : Timex
read_only = record no_request { modes = 0xa001 }

abbrev shot_state : Ntp
shot_state = asked (shot (pos 1200)) 1700000000 (fresh 250)

shot-reply : reply_to (shot (pos 1200)) (at 1700000000 500000000) 0 (fresh 250)
    ≡ replied 0x8001 (at 1700000000 0) 500000 Error (pos 0) (pos 0) 16000000 16000000 64 2 10000 0
shot-reply = refl

shot-read : reply_to read_only (at 1700000000 500000000) 0 shot_state
    ≡ replied 0xa001 (at 1700000000 0) 500000 Error (pos 1200) (pos 0) 16000000 16000000 64 2 10000
    0
shot-read = refl

shot-second : reply_to read_only (at 1700000001 500249981) 0 (after (1700000001 ∷ []) shot_state)
    ≡ replied 0xa001 (at 1700000001 0) 500249 Error (pos 700) (pos 0) 16000000 16000000 64 2 10000 0
shot-second = refl

-- 500 us more than a nominal second, and then 200 us more
shot-length : second_length (after (1700000001 ∷ []) shot_state) ≡ pos 4297114779648000000
shot-length = refl

shot-third : (second_length (after (1700000001 ∷ 1700000002 ∷ 1700000003 ∷ []) shot_state)
    ≡ pos 4295826289459200000)
    × ((after (1700000001 ∷ 1700000002 ∷ 1700000003 ∷ []) shot_state).adjust ≡ pos 0)
shot-third = (refl, refl)

shot_without_offset : is_faulty (record no_request { modes = 0x8000 }) ≡ true
shot_without_offset = refl

-- ---- a second inserted at the end of 2016

abbrev insertion : Timex
insertion = record no_request { modes = 0x94; status = 16; constant = pos 36 }

abbrev inserting : List ℕ → Ntp
inserting secs = after secs (asked insertion 1483228797 (fresh 250))

insertion-reply : reply_to insertion (at 1483228797 499000000) 0 (fresh 250)
    ≡ replied 0x94 (at 1483228797 0) 499000 Ok (pos 0) (pos 0) 0 16000000 16 2 10000 36
insertion-reply = refl

insertion-announced : reply_to no_request (at 1483228798 499000000) 36 (inserting (1483228798 ∷ []))
    ≡ replied 0 (at 1483228798 0) 499000 Ins (pos 0) (pos 0) 500 16000000 16 2 10000 36
insertion-announced = refl

no_leap-before : leap_at (inserting (1483228798 ∷ [])) 1483228799 ≡ NoLeap
no_leap-before = refl

insertion-leap : leap_at (inserting (1483228798 ∷ 1483228799 ∷ [])) 1483228800 ≡ Insert
insertion-leap = refl

insertion-tai : tai_after_leap Insert 36 ≡ 37
insertion-tai = refl

insertion-in_progress : reply_to no_request (at 1483228799 499000000) 37
    (inserting (1483228798 ∷ 1483228799 ∷ 1483228800 ∷ []))
    ≡ replied 0 (at 1483228799 0) 499000 Oop (pos 0) (pos 0) 1500 16000000 16 2 10000 37
insertion-in_progress = refl

insertion-over : reply_to no_request (at 1483228800 499000000) 37
    (inserting (1483228798 ∷ 1483228799 ∷ 1483228800 ∷ 1483228800 ∷ []))
    ≡ replied 0 (at 1483228800 0) 499000 Wait (pos 0) (pos 0) 2000 16000000 16 2 10000 37
insertion-over = refl

-- ---- a second deleted

abbrev deleting : List ℕ → Ntp
deleting secs =
    after secs (asked (record insertion { status = 32 }) 1483228797 (fresh 250))

deletion-announced : reply_to no_request (at 1483228798 499000000) 36 (deleting (1483228798 ∷ []))
    ≡ replied 0 (at 1483228798 0) 499000 Del (pos 0) (pos 0) 500 16000000 32 2 10000 36
deletion-announced = refl

deletion-leap : leap_at (deleting (1483228798 ∷ [])) 1483228799 ≡ Delete
deletion-leap = refl

deletion-over : reply_to no_request (at 1483228800 499000000) 35
    (deleting (1483228798 ∷ 1483228799 ∷ []))
    ≡ replied 0 (at 1483228800 0) 499000 Wait (pos 0) (pos 0) 1000 16000000 32 2 10000 35
deletion-over = refl

-- ---- a set forgets when the leap second is due, but not that it is announced

abbrev forgotten : Ntp
forgotten = cleared (inserting (1483228791 ∷ []))

forgotten-reply : reply_to no_request (at 1483228798 500000000) 36 forgotten
    ≡ replied 0 (at 1483228798 0) 500000 Error (pos 0) (pos 0) 16000000 16000000 80 2 10000 36
forgotten-reply = refl

forgotten-leap : leap_at (after (1483228799 ∷ []) forgotten) 1483228800 ≡ NoLeap
forgotten-leap = refl

forgotten-state : reply_to (record no_request { modes = 0x10 }) (at 1483228800 500000000) 36
    (after (1483228799 ∷ 1483228800 ∷ []) forgotten)
    ≡ replied 0x10 (at 1483228800 0) 500000 Ins (pos 0) (pos 0) 16000000 16000000 0 2 10000 36
forgotten-state = refl

-- ---- the greatest error grows by 500 us in each second

abbrev errors : Timex
errors = record no_request { modes = 0x1c; esterror = pos 7 }

errors-reply : reply_to errors (at 1700000000 500000000) 0 (fresh 250)
    ≡ replied 0x1c (at 1700000000 0) 500000 Ok (pos 0) (pos 0) 0 7 0 2 10000 0
errors-reply = refl

abbrev almost : Ntp
almost = record (asked errors 1700000000 (fresh 250)) { maxerror = 15999500 }

errors-limit : reply_to no_request (at 1700032000 500000000) 0 (after (1700032000 ∷ []) almost)
    ≡ replied 0 (at 1700032000 0) 500000 Ok (pos 0) (pos 0) 16000000 7 0 2 10000 0
errors-limit = refl

errors-past : reply_to no_request (at 1700032001 500000000) 0
    (after (1700032000 ∷ 1700032001 ∷ []) almost)
    ≡ replied 0 (at 1700032001 0) 500000 Error (pos 0) (pos 0) 16000000 7 64 2 10000 0
errors-past = refl

-- ---- a step by a request

abbrev step : ℕ → ℤ → ℤ → Timex
step modes sec sub = record no_request { modes = modes; sec = sec; sub = sub }

step-back : step_of (step 0x2100 (neg_ℤ (pos 2)) (pos 250000000))
    ≡ Some (record { sec = neg_ℤ (pos 2); nsec = 250000000 })
step-back = refl

step-micro : step_of (step 0x100 (pos 1) (pos 999999)) ≡ Some (record { sec = pos 1; nsec = 999999000 })
step-micro = refl

no_step : step_of no_request ≡ None
no_step = refl

step-faults : (is_faulty (step 0x100 (pos 1) (pos 1000000)) ≡ true)
    × (is_faulty (step 0x2100 (pos 0) (pos 1000000000)) ≡ true)
    × (is_faulty (step 0x100 (pos 0) (neg_ℤ (pos 1))) ≡ true)
    × (is_faulty (step 0x2100 (pos 0) (pos 999999999)) ≡ false)
step-faults = (refl, refl, refl, refl)

stepped : reply_to (step 0x2100 (neg_ℤ (pos 2)) (pos 250000000)) (at 1700000002 752110687) 0
    (cleared (after (1700000001 ∷ 1700000002 ∷ []) pll_state))
    ≡ replied 0x2100 (at 1700000002 0) 752110687 Error (pos 0) (pos 0) 16000000 16000000 8257 6
    10000 0
stepped = refl

-- ---- the tick, with a PLL at work

abbrev ticked : ℕ → ℤ → Timex
ticked modes tick = record no_request { modes = modes; freq = neg_ℤ (pos 6553600); tick = tick }

abbrev tick_state : Ntp
tick_state =
    after (1700000001 ∷ 1700000002 ∷ 1700000003 ∷ 1700000004 ∷ [])
    (asked (pll (pos 10000000) 1) 1700000000 (fresh 250))

tick-reply : reply_to (ticked 0x4000 (pos 10100)) (at 1700000004 500136017) 0 tick_state
    ≡ replied 0x4000 (at 1700000004 0) 500136017 Ok (pos 9844663) (pos 0) 2000 16000000 8193 6 10100
    0
tick-reply = refl

tick-faults : (is_faulty (ticked 0x4000 (pos 8999)) ≡ true)
    × (is_faulty (ticked 0x4000 (pos 11001)) ≡ true)
    × (is_faulty (ticked 0x4000 (pos 9000)) ≡ false)
    × (is_faulty (ticked 0x4000 (pos 11000)) ≡ false)
tick-faults = (refl, refl, refl, refl)

-- ---- the frequency and the tick for the length of a second

abbrev rate : ℤ → ℤ → Rate
rate freq tick = record { frequency = freq; tick = tick }

rates : (rate_for (pos 4294967296000000000) 10000 ≡ rate (pos 0) (pos 10000))
    × (rate_for (pos 4296645017600000000) 10000 ≡ rate (pos 25600000) (pos 10000))
    × (rate_for (pos 4297114779648000000) 10000 ≡ rate (pos 32768000) (pos 10000))
    × (rate_for (pos 4337487472230400000) 10100 ≡ rate (neg_ℤ (pos 6553600)) (pos 10100))
rates = (refl, refl, refl, refl)

-- a length that no frequency reaches at its tick, and lengths beyond 10.05 percent
far_rates : (rate_for (pos 4299262263296000000) 10000 ≡ rate (pos 0) (pos 10010))
    × (rate_for (pos 4831838208000000000) 10000 ≡ rate (pos 32768000) (pos 11000))
    × (rate_for (pos 0) 10000 ≡ rate (neg_ℤ (pos 32768000)) (pos 9000))
far_rates = (refl, refl, refl)

-- ---- the lag of a counter of 1 GHz after a second at 100 ppm, and the rate that makes up for it

abbrev gigahertz : Counter
gigahertz = record { bits = 64; mult = 8388608; shift = 23 }

lag : lag_after gigahertz (pos 4295396792729600000) 8389446 999900113 (pos 0)
    ≡ pos 3696738555385147188838400000
lag = refl

lag-made_up : made_up gigahertz (pos 3696738555385147188838400000) ≡ pos 440685576842
lag-made_up = refl

-- the length and what is made up for
lag-rate : rate_for (pos 4295397233415176842) 10000 ≡ rate (pos 6560324) (pos 10000)
lag-rate = refl

-- half a second, of which a second makes up for 500 us and two units of the multiplier
lag-greatest : (lag_after gigahertz (pos 4295396792729600000) 8389446 18446744073709551615 (pos 0)
    ≡ pos 18014398509481984000000000000000000)
    × (made_up gigahertz (pos 18014398509481984000000000000000000) ≡ pos 2148507648000000)
    × (made_up gigahertz (neg_ℤ (pos 1)) ≡ neg_ℤ (pos 1))
lag-greatest = (refl, refl, refl)

-- ---- the commands between two rates: the frequency, the tick, or none for the same multiplier

changes : (change_of gigahertz (rate (pos 0) (pos 10000)) (rate (pos 6553600) (pos 10000))
    ≡ record { tick = None; frequency = Some (pos 6553600) })
    × (change_of gigahertz (rate (pos 6553600) (pos 10000)) (rate (pos 0) (pos 10100))
    ≡ record { tick = Some (pos 10100); frequency = Some (pos 0) })
    × (change_of gigahertz (rate (pos 0) (pos 10000)) (rate (pos 1) (pos 10000))
    ≡ record { tick = None; frequency = None })
unfolding is_same
changes = (refl, refl, refl)

-- ---- the lag of clocks that were just opened is small, and they have the rate that they need

opened-small : IsSince (pos 0) 0 (steered_opened gigahertz 0 (at 1700000000 0) 250)
opened-small = record {
  counter = omega arith;
  rate = record {
    range = (omega (arith, ints), omega (arith, ints));
    given = record { at_most = omega arith; at_least = omega arith };
  };
  small = record { low = omega (arith, ints); high = omega (arith, ints) };
  lag = refl;
}

-- a second of 999,900,013 cycles, and one of 9/8 of a nominal second; not one of a cycle more
opened-long : IsSecondLong gigahertz 999900013 × IsSecondLong gigahertz 1125000000
    × ¬ IsSecondLong gigahertz 1125000001
opened-long = (omega arith, omega arith, omega arith)
