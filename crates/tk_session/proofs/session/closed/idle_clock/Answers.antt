use Rattle.std.proofs.Common.{◌≡◌, ℕ, ap, arith, refl}
use Rattle.std.proofs.lemmas.Bool.{le-ltb}
use Rattle.std.specs.Prelude.{◌||◌, not, nat_lt, Option, Some, None, if◌then◌else◌}
use Rattle.tk_clock.specs.declared.refusal.Refusal.{Refusal}
use Rattle.tk_clock.specs.declared.refusal.Refusal.TheVariants.{Invalid}
use Rattle.tk_clock.specs.Limits.{is_settable}
use Rattle.tk_clock.specs.Refusal.{first_of}
use Rattle.tk_counter.specs.Counter.{mask}
use Rattle.tk_ntp.specs.SteeredClock.{hz_refusal}
use Rattle.tk_session.specs.Closed.{epoch}
use Rattle.tk_session.proofs.session.closed.idle_clock.Goals as goal

-- 1970 at the reading 0 opens clocks of every counter
opens : (most : ℕ) → (if nat_lt most 0 || not (is_settable epoch) then Some Invalid else None) ≡ None
unfolding is_settable
opens most = rw (le-ltb most 0 (omega arith)) refl

pub steered_at-requires : goal.steered_at-requires
steered_at-requires c =
    ap (λ (r : Option Refusal). first_of r (hz_refusal 100)) (opens (mask c.idle_counter.result))
