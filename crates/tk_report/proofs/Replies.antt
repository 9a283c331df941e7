-- The reply to a request can be written.
use Rattle.std.proofs.Common.{◌≡◌, ℕ, ◌<◌, refl, sym, subst, arith, Bool, true, false}
use Rattle.std.proofs.Math.Nat.{mod-lt}
use Rattle.std.specs.Prelude.{ℤ, pos, ◌/◌, unsigned_abs, Option, Some, None, Result, Ok, Err, MatchOption, if◌then◌else◌}
use Rattle.tk_clock.specs.declared.clock_id.ClockId.TheVariants.{Realtime}
use Rattle.tk_clock.specs.declared.refusal.Refusal.{Refusal}
use Rattle.tk_clock.specs.State.{base_value}
use Rattle.tk_ntp.specs.declared.reply.Reply.{Reply}
use Rattle.tk_ntp.specs.declared.timex.Timex.{Timex}
use Rattle.tk_ntp.specs.Advance.{IsAdvanced}
use Rattle.tk_ntp.specs.Asked.{IsAnswered, IsAsked, IsRequested, first_fault, real_at, step_refusal, stepped}
use Rattle.tk_ntp.specs.Bits.{has, sta_nano}
use Rattle.tk_ntp.specs.Modes.{asked}
use Rattle.tk_ntp.specs.Request.{step_of}
use Rattle.tk_ntp.specs.SteeredClock.{SteeredClock}
use Rattle.tk_script.specs.AdjLine.{IsAdjWritable}

-- such a part of a second can be written
abbrev IsSubWritable : ℤ → Type 0
IsSubWritable sub = (sub ≡ pos (unsigned_abs sub)) × (unsigned_abs sub < 1000000000)

sub-writable : (nanos : Bool) (nsec : ℕ) → nsec < 1000000000 →
    IsSubWritable (if nanos then pos nsec else pos (nsec / 1000))
sub-writable true nsec low = (refl, low)
sub-writable false nsec low = (refl, omega (arith, low))

-- the part of a second in a reply is that of REALTIME
requested-writable : (reading : ℕ) (request : Timex) (before after : SteeredClock) (reply : Reply) →
    IsRequested reading request before (Ok reply) after → IsAdjWritable reply
requested-writable reading request before after reply known =
    let real = real_at reading before.clock in
    let nanos = unsigned_abs (base_value before.clock.base Realtime reading) in
    let ntp = asked request (unsigned_abs real.sec) before.steering.ntp in
    let low : real.nsec < 1000000000 = mod-lt nanos (omega arith) in
    let R : Reply → Type 0 = λ r. IsAdjWritable r in
    subst R (sym known.1) (sub-writable (has ntp.status sta_nano) real.nsec low)

asked-writable : (reading : ℕ) (request : Timex) (before middle after : SteeredClock)
    (reply : Reply) (refusal : Option Refusal) →
    MatchOption refusal (IsRequested reading request middle (Ok reply) after)
    (λ r. (◌≡◌ {A = Result Reply Refusal} (Ok reply) (Err r)) × (after ≡ before)) →
    IsAdjWritable reply
asked-writable reading request before middle after reply None known =
    requested-writable reading request middle after reply known
asked-writable reading request before middle after reply (Some refusal) known =
    absurd (cc known.0)

answered-if : (reading : ℕ) (request : Timex) (before after : SteeredClock) (reply : Reply)
    (fault : Option Refusal) →
    MatchOption fault
    ((advanced : SteeredClock) × IsAdvanced reading before advanced
    × IsAsked reading request advanced (Ok reply) after)
    (λ r. (◌≡◌ {A = Result Reply Refusal} (Ok reply) (Err r)) × (after ≡ before)) →
    IsAdjWritable reply
answered-if reading request before after reply None (advanced, arrived, known) =
    asked-writable reading request advanced (stepped reading (step_of request) advanced) after reply
    (step_refusal reading (step_of request) advanced) known
answered-if reading request before after reply (Some refusal) known = absurd (cc known.0)

-- the reply to a request that was answered can be written
pub answered-writable : (reading : ℕ) (request : Timex) (before after : SteeredClock)
    (reply : Reply) → IsAnswered reading request before (Ok reply) after → IsAdjWritable reply
answered-writable reading request before after reply known =
    answered-if reading request before after reply (first_fault reading request before) known
