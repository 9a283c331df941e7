-- Requests to a discipline over shared clocks.
use Rattle.std.specs.Prelude.{◌≡◌, true, false, Result, Ok, Err}
use Rattle.tk_ntp.specs.declared.reply.Reply.{Reply}
use Rattle.tk_ntp.specs.declared.timex.Timex.{Timex}
use Rattle.tk_ntp.specs.Followed.{IsAskedAlone}
use Rattle.tk_ntp.specs.SteeredClock.{SteeredClock}
use Rattle.tk_shared_steered.specs.declared.fault.SteeringFault.{SteeringFault}
use Rattle.tk_shared_steered.specs.declared.fault.SteeringFault.TheVariants.{Refused, Foreign}
use Rattle.tk_shared_steered.specs.Owner.{Owner, is_lost}

-- the owner after a request, which left the clocks with their discipline as `clock`
abbrev pub with_clock : SteeredClock → Owner → Owner
with_clock clock owner = record owner { clock = clock }

-- the result of a request, and the owner after it
abbrev pub IsAsked : Timex → Owner → Result Reply SteeringFault → Owner → Type 0
IsAsked request old (Ok reply) new =
    (is_lost old ≡ false) × IsAskedAlone request old.clock (Ok reply) new.clock
    × (new ≡ with_clock new.clock old)
IsAsked request old (Err (Refused refusal)) new =
    (is_lost old ≡ false) × IsAskedAlone request old.clock (Err refusal) old.clock × (new ≡ old)
IsAsked request old (Err Foreign) new = (is_lost old ≡ true) × (new ≡ old)
