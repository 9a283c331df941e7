-- The reply to a request that counted clocks answer can be written.
use Rattle.std.proofs.Common.{◌≡◌, ℕ, false, inl, inr}
use Rattle.std.specs.Prelude.{Option, Some, None, Result, Ok, Err, MatchOption}
use Rattle.tk_clock.specs.declared.refusal.Refusal.{Refusal}
use Rattle.tk_ntp.specs.declared.reply.Reply.{Reply}
use Rattle.tk_ntp.specs.declared.timex.Timex.{Timex}
use Rattle.tk_ntp.specs.Advance.{IsAdvanced}
use Rattle.tk_ntp.specs.Asked.{IsAsked, first_fault}
use Rattle.tk_ntp.specs.Course.{Course, seen}
use Rattle.tk_ntp.specs.Keeping.{IsAnsweredTo, IsAskedTo, IsFollowing, request_most}
use Rattle.tk_ntp.specs.SteeredClock.{SteeredClock}
use Rattle.tk_ntp.proofs.SeenBy.{advanced, asked}
use Rattle.tk_report.specs.CountedClocks.{Counted}
use Rattle.tk_report.specs.Room.{HasCounted, HasRoom, IsShort, clocks_in}
use Rattle.tk_report.proofs.Replies.{answered-writable}
use Rattle.tk_script.specs.AdjLine.{IsAdjWritable}

answered-by : (fault : Option Refusal) (reading : ℕ) (request : Timex) (a : Counted)
    (before : Course) (b : Counted) (after : Course) (reply : Reply) →
    MatchOption fault
    (IsFollowing clocks_in HasCounted HasRoom IsShort request_most 0 reading
    (λ x middle. IsAskedTo clocks_in HasCounted HasRoom IsShort 0 reading request x middle
    (Ok reply) b after) a before (Ok reply) b after)
    (λ r. (◌≡◌ {A = Result Reply Refusal} (Ok reply) (Err r)) × (b ≡ a) × (after ≡ before)) →
    MatchOption fault
    ((middle : SteeredClock) × IsAdvanced reading (seen (clocks_in a) before) middle
    × IsAsked reading request middle (Ok reply) (seen (clocks_in b) after))
    (λ r. (◌≡◌ {A = Result Reply Refusal} (Ok reply) (Err r))
    × (seen (clocks_in b) after ≡ seen (clocks_in a) before))
answered-by None reading request a before b after reply (inl short) = absurd short
answered-by None reading request a before b after reply
    (inr (x, ready, middle, arrived, room, done)) = (
      seen (clocks_in x) middle,
      advanced clocks_in HasCounted HasRoom IsShort false 0 reading a before x middle arrived,
      asked clocks_in HasCounted HasRoom IsShort 0 reading request x ready middle (Ok reply) b after
          room done,
    )
answered-by (Some refusal) reading request a before b after reply h = absurd (cc h.0)

pub writable : (reading : ℕ) (request : Timex) (a : Counted) (before : Course) (b : Counted)
    (after : Course) (result : Result Reply Refusal) (reply : Reply) → result ≡ Ok reply →
    IsAnsweredTo clocks_in HasCounted HasRoom IsShort 0 reading request a before result b after →
    IsAdjWritable reply
writable reading request a before b after result reply is h =
    answered-writable reading request (seen (clocks_in a) before) (seen (clocks_in b) after) reply
    (answered-by (first_fault reading request (seen (clocks_in a) before)) reading request a before b
    after reply (rw is at h))
