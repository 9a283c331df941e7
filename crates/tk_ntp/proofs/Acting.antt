-- The commands that act as requests.
use Rattle.std.proofs.Common.{◌≡◌, sym, ap, subst, Option, Some, None}
use Rattle.std.specs.Prelude.{ℤ}
use Rattle.tk_clock.specs.declared.command.Command.{Command}
use Rattle.tk_clock.specs.declared.command.Command.TheVariants.{Update, SetTime, Step, Freq, Tick, Tai, Leap, Suspend, Resume}
use Rattle.tk_ntp.specs.declared.timex.Timex.{Timex}
use Rattle.tk_ntp.specs.Applied.{request_of}
use Rattle.tk_ntp.specs.Request.{no_request}

abbrev given_request : Option Timex → Timex
given_request (Some request) = request
given_request None = no_request

-- a frequency and a tick, with the requests that they act as
pub data ActsAs : Command → Timex → Type 0 where
  OfFrequency : (frequency : ℤ) →
      ActsAs (Freq frequency) (given_request (request_of (Freq frequency)))
  OfTick : (tick : ℤ) → ActsAs (Tick tick) (given_request (request_of (Tick tick)))

pub acting : (cmd : Command) (request : Timex) → Some request ≡ request_of cmd → ActsAs cmd request
acting (Freq frequency) request is =
    subst (ActsAs (Freq frequency)) (sym (ap given_request is)) (OfFrequency frequency)
acting (Tick tick) request is = subst (ActsAs (Tick tick)) (sym (ap given_request is)) (OfTick tick)
acting Update request is = absurd (cc)
acting (SetTime time) request is = absurd (cc)
acting (Step by) request is = absurd (cc)
acting (Leap by tai) request is = absurd (cc)
acting (Tai seconds) request is = absurd (cc)
acting Suspend request is = absurd (cc)
acting (Resume away) request is = absurd (cc)
