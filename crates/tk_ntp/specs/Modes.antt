-- The modes of a request, in the order in which they act (process_adjtimex_modes,
-- process_adj_status, kernel/time/ntp.c).
use Rattle.std.specs.Prelude.{ℕ, not, ◌&&◌, bit_and, bit_or, unsigned_abs, if◌then◌else◌}
use Rattle.tk_ntp.specs.declared.timex.Timex.{Timex}
use Rattle.tk_ntp.specs.Bits.{has, without, sta_pll, sta_unsync, sta_nano, sta_ronly, adj_offset, adj_frequency, adj_maxerror, adj_esterror, adj_status, adj_timeconst, adj_tai, adj_micro, adj_nano, adj_tick, adj_adjtime, adj_readonly}
use Rattle.tk_ntp.specs.Leap.{no_plan}
use Rattle.tk_ntp.specs.Request.{error_limit, gain_of, clamped_to, constant_of, tai_of}
use Rattle.tk_ntp.specs.Offset.{with_offset}
use Rattle.tk_ntp.specs.Ntp.{Ntp}

-- the PLL is turned off: no leap second is announced, and the status is reset before the given one
-- decides its bits, STA_UNSYNC too
abbrev pub with_pll_off : ℕ → Ntp → Ntp
with_pll_off given ntp =
    if has ntp.status sta_pll && not (has given sta_pll) then record ntp {
      plan = no_plan;
      status = sta_unsync;
    }
    else ntp

-- the PLL is turned on: the next offset counts from now on
abbrev pub with_pll_on : ℕ → ℕ → Ntp → Ntp
with_pll_on given now ntp =
    if not (has ntp.status sta_pll) && has given sta_pll then record ntp { reftime = now } else ntp

-- a status with its read-only bits, and the other bits of a given one
abbrev pub merged : ℕ → ℕ → ℕ
merged status given = bit_or (bit_and status sta_ronly) (without given sta_ronly)

-- the state after a status
abbrev pub with_status : ℕ → ℕ → Ntp → Ntp
with_status given now ntp =
    let turned = with_pll_on given now (with_pll_off given ntp) in
    record turned { status = merged turned.status given }

-- ADJ_STATUS
abbrev pub with_given_status : Timex → ℕ → Ntp → Ntp
with_given_status request now ntp =
    if has request.modes adj_status then with_status request.status now ntp else ntp

-- ADJ_NANO, then ADJ_MICRO: with both bits, microseconds
abbrev pub with_units : ℕ → Ntp → Ntp
with_units modes ntp =
    if has modes adj_micro then record ntp { status = without ntp.status sta_nano }
    else if has modes adj_nano then record ntp { status = bit_or ntp.status sta_nano }
    else ntp

-- ADJ_FREQUENCY
abbrev pub with_given_frequency : Timex → Ntp → Ntp
with_given_frequency request ntp =
    if has request.modes adj_frequency then record ntp { frequency = gain_of request.freq } else ntp

-- ADJ_MAXERROR
abbrev pub with_given_maxerror : Timex → Ntp → Ntp
with_given_maxerror request ntp =
    if has request.modes adj_maxerror
    then record ntp { maxerror = clamped_to error_limit request.maxerror }
    else ntp

-- ADJ_ESTERROR
abbrev pub with_given_esterror : Timex → Ntp → Ntp
with_given_esterror request ntp =
    if has request.modes adj_esterror
    then record ntp { esterror = clamped_to error_limit request.esterror }
    else ntp

-- ADJ_TIMECONST
abbrev pub with_given_constant : Timex → Ntp → Ntp
with_given_constant request ntp =
    if has request.modes adj_timeconst
    then record ntp { constant = constant_of request.constant (has ntp.status sta_nano) }
    else ntp

-- ADJ_OFFSET
abbrev pub with_given_offset : Timex → ℕ → Ntp → Ntp
with_given_offset request now ntp =
    if has request.modes adj_offset then with_offset request.offset now ntp else ntp

-- ADJ_TICK
abbrev pub with_given_tick : Timex → Ntp → Ntp
with_given_tick request ntp =
    if has request.modes adj_tick then record ntp { tick = unsigned_abs request.tick } else ntp

-- the state after all modes
abbrev pub requested : Timex → ℕ → Ntp → Ntp
requested request now ntp =
    with_given_tick request
    (with_given_offset request now
    (with_given_constant request
    (with_given_esterror request
    (with_given_maxerror request
    (with_given_frequency request
    (with_units request.modes (with_given_status request now ntp)))))))

-- the old call adjtime: it may only read what is left
abbrev pub with_adjust : Timex → Ntp → Ntp
with_adjust request ntp =
    if has request.modes adj_readonly then ntp else record ntp { adjust = request.offset }

-- the state after a request without a fault; `now` is REALTIME's second. With ADJ_ADJTIME no other
-- mode acts
abbrev pub asked : Timex → ℕ → Ntp → Ntp
asked request now ntp =
    if has request.modes adj_adjtime then with_adjust request ntp else requested request now ntp

-- ADJ_TAI: the TAI offset after it
abbrev pub given_tai : Timex → ℕ → ℕ
given_tai request tai = if has request.modes adj_tai then tai_of request.constant tai else tai

-- the TAI offset after a request without a fault
abbrev pub asked_tai : Timex → ℕ → ℕ
asked_tai request tai = if has request.modes adj_adjtime then tai else given_tai request tai
