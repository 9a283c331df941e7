-- Commands to steered clocks: a frequency and a tick are requests to the discipline.
use Rattle.std.specs.Prelude.{◌≡◌, ℕ, ⊤, Bool, true, false, Option, Some, None, Result, Ok, Err, MatchOption}
use Rattle.tk_counter.specs.Counter.{clamped}
use Rattle.tk_clock.specs.declared.command.Command.{Command}
use Rattle.tk_clock.specs.declared.command.Command.TheVariants.{Freq, Tick}
use Rattle.tk_clock.specs.declared.refusal.Refusal.{Refusal}
use Rattle.tk_clock.specs.Command.{is_resume}
use Rattle.tk_ntp.specs.declared.timex.Timex.{Timex}
use Rattle.tk_ntp.specs.declared.reply.Reply.{Reply}
use Rattle.tk_ntp.specs.Advance.{IsAdvanced}
use Rattle.tk_ntp.specs.Asked.{IsCommanded, IsAnswered}
use Rattle.tk_ntp.specs.Bits.{adj_frequency, adj_tick}
use Rattle.tk_ntp.specs.Request.{no_request}
use Rattle.tk_ntp.specs.SteeredClock.{SteeredClock, reading_refusal}

-- the request that a command acts as
abbrev pub request_of : Command → Option Timex
request_of (Freq frequency) =
    Some (record no_request { modes = adj_frequency; freq = clamped frequency })
request_of (Tick tick) = Some (record no_request { modes = adj_tick; tick = tick })
request_of _ = None

-- the result of a request, without the reply
abbrev pub without_reply : Result Reply Refusal → Result ⊤ Refusal
without_reply (Ok reply) = Ok tt
without_reply (Err refusal) = Err refusal

-- the result of a command that is no request, and the state after it: the seconds up to its reading
-- begin first
abbrev pub IsFollowed : ℕ → Command → SteeredClock → Result ⊤ Refusal → SteeredClock → Type 0
IsFollowed reading cmd before result after =
    MatchOption (reading_refusal reading before)
    ((advanced : SteeredClock) × IsAdvanced reading before advanced
    × IsCommanded reading cmd advanced result after)
    (λ refusal. (result ≡ Err refusal) × (after ≡ before))

-- the result of a command that is no request, and the state after it; `resumes` says whether it is
-- a resume, for which no second begins
abbrev pub IsPlain : Bool → ℕ → Command → SteeredClock → Result ⊤ Refusal → SteeredClock → Type 0
IsPlain true reading cmd before result after = IsCommanded reading cmd before result after
IsPlain false reading cmd before result after = IsFollowed reading cmd before result after

-- the result of a command, and the state after it
abbrev pub IsApplied : ℕ → Command → SteeredClock → Result ⊤ Refusal → SteeredClock → Type 0
IsApplied reading cmd before result after =
    MatchOption (request_of cmd)
    (IsPlain (is_resume cmd) reading cmd before result after)
    (λ request. (answer : Result Reply Refusal) × IsAnswered reading request before answer after
    × (result ≡ without_reply answer))
