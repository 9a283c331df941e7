-- A frequency reads back as it was given.
use Rattle.std.proofs.Common.{◌≡◌, ◌∙◌, ap, refl, ℕ, suc, ◌+◌, ◌*◌, ◌/◌, ◌≤◌, Bool, true, false, ℤ, pos, negsuc, neg_ℤ, ◌*ℤ◌, unsigned_abs, arith}
use Rattle.std.specs.Prelude.{not, ◌&&◌, ◌||◌, if◌then◌else◌}
use Rattle.std.proofs.lemmas.Int.{ints, clamps}
use Rattle.tk_counter.specs.Counter.{clamped}
use Rattle.tk_ntp.specs.declared.timex.Timex.{Timex}
use Rattle.tk_ntp.specs.Bits.{has, adj_offset, adj_frequency, adj_maxerror, adj_esterror, adj_timeconst, adj_tick, adj_adjtime}
use Rattle.tk_ntp.specs.Fault.{has_tick_fault, has_time_fault, has_frequency_fault, is_faulty}
use Rattle.tk_ntp.specs.Length.{one, toward_zero}
use Rattle.tk_ntp.specs.Ntp.{Ntp}
use Rattle.tk_ntp.specs.Request.{gain_of}
use Rattle.tk_ntp.specs.Modes.{with_given_status, with_units, with_given_frequency, with_given_maxerror, with_given_esterror, with_given_constant, with_given_offset, requested, asked}
use Rattle.tk_ntp.specs.Reply.{reply_freq}
use borrow.Author.Differences.{abs_is}

-- the two divisions of a frequency that is not negative
up : (n : ℕ) → n ≤ 32768000 → reply_freq (pos n *ℤ pos 65536000) ≡ pos n
up n h =
    let e : n * 65536000 / 524288 * 34359739 / 4294967296 ≡ n = omega arith in
    ap pos e

-- and of a negative one
down : (n : ℕ) → n + 1 ≤ 32768000 → reply_freq (negsuc n *ℤ pos 65536000) ≡ negsuc n
down n h =
    let a : suc n * 65536000 ≡ suc (n * 65536000 + 65535999) = omega arith in
    let q : (n * 65536000 + 65535999) / 524288 ≡ n * 125 + 124 = omega arith in
    let b : suc (n * 125 + 124) * 34359739 ≡ suc ((n * 125 + 124) * 34359739 + 34359738) =
    omega arith in
    let d : suc ((n * 125 + 124) * 34359739 + 34359738) / 4294967296 ≡ suc n = omega arith in
    ap (λ x. reply_freq (neg_ℤ (pos x))) a
    ∙ ap (λ x. toward_zero (negsuc x *ℤ pos 34359739) one) q
    ∙ ap (λ x. toward_zero (neg_ℤ (pos x)) one) b
    ∙ ap (λ x. neg_ℤ (pos x)) d

by_sign : (z : ℤ) → unsigned_abs z ≤ 32768000 → reply_freq (z *ℤ pos 65536000) ≡ z
by_sign (pos n) h = up n h
by_sign (negsuc n) h = down n (omega (arith, h))

read_back : (freq : ℤ) → reply_freq (gain_of freq) ≡ clamped freq
read_back freq = by_sign (clamped freq) (omega (arith, ints, clamps, abs_is))

-- a choice of two states with the same frequency
same : (b : Bool) (x y : Ntp) (f : ℤ) → x.frequency ≡ f → y.frequency ≡ f →
    (if b then x else y).frequency ≡ f
same true x y f p q = p
same false x y f p q = q

-- the frequency after a request that gives one, and no offset
frequency-requested : (request : Timex) (now : ℕ) (ntp : Ntp) →
    has request.modes adj_frequency ≡ true → has request.modes adj_offset ≡ false →
    (requested request now ntp).frequency ≡ gain_of request.freq
frequency-requested request now ntp given none =
    let f = gain_of request.freq in
    let before = with_units request.modes (with_given_status request now ntp) in
    let s = with_given_frequency request before in
    let first : s.frequency ≡ f =
    ap (λ (b : Bool). (if b then record before { frequency = f } else before).frequency) given in
    let t = with_given_maxerror request s in
    let u = with_given_esterror request t in
    let v = with_given_constant request u in
    let second : t.frequency ≡ f = same (has request.modes adj_maxerror) _ s f first first in
    let third : u.frequency ≡ f = same (has request.modes adj_esterror) _ t f second second in
    let fourth : v.frequency ≡ f = same (has request.modes adj_timeconst) _ u f third third in
    let w = with_given_offset request now v in
    let fifth : w.frequency ≡ f = rw none fourth in
    same (has request.modes adj_tick) _ w f fifth fifth

plain : (adjtime tick time freq : Bool) →
    (adjtime && not false || tick || time || freq) ≡ false → adjtime ≡ false
plain false tick time freq h = refl
plain true tick time freq h = h

pub freq-read_back : (request : Timex) (now : ℕ) (ntp : Ntp) → is_faulty request ≡ false →
    has request.modes adj_frequency ≡ true → has request.modes adj_offset ≡ false →
    reply_freq (asked request now ntp).frequency ≡ clamped request.freq
freq-read_back request now ntp sound given none =
    let no_adjtime : has request.modes adj_adjtime ≡ false =
    plain (has request.modes adj_adjtime) (has_tick_fault request) (has_time_fault request)
    (has_frequency_fault request) (rw none at sound) in
    let requested_is : reply_freq (requested request now ntp).frequency ≡ clamped request.freq =
    ap reply_freq (frequency-requested request now ntp given none) ∙ read_back request.freq in
    rw no_adjtime requested_is
