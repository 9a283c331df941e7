-- Commands that clocks are given one by one, each at its own reading, by the owner of a discipline:
-- for clocks that several callers share.
use Rattle.std.specs.Prelude.{◌≡◌, ℕ, ◌≤◌, ⊤, Option, Some, None, Result, MatchOption, MatchResult, pos, ◌+ℤ◌}
use Rattle.tk_clock.specs.declared.command.Command.{Command}
use Rattle.tk_clock.specs.declared.refusal.Refusal.{Refusal}
use Rattle.tk_clock.specs.Reach.{distance}
use Rattle.tk_clock.specs.State.{effect}
use Rattle.tk_ntp.specs.declared.leap.Leap.{Leap}
use Rattle.tk_ntp.specs.declared.reply.Reply.{Reply}
use Rattle.tk_ntp.specs.declared.timex.Timex.{Timex}
use Rattle.tk_ntp.specs.Account.{owed, asked_to, dropped_to, IsWithin}
use Rattle.tk_ntp.specs.Advance.{leap_of_clock, seconds_left, tai_of_clock, with_next_second, IsDue, IsNoneDue}
use Rattle.tk_ntp.specs.Asked.{real_at, real_refusal, with_asked}
use Rattle.tk_ntp.specs.Leap.{second_after_leap}
use Rattle.tk_ntp.specs.Reply.{reply_to}
use Rattle.tk_ntp.specs.Second.{leap_at}
use Rattle.tk_ntp.specs.SteeredClock.{SteeredClock, accounted_to}

-- the state after the clocks were given a command at a reading: the lag is accounted for up to it
abbrev pub followed : ℕ → Command → SteeredClock → SteeredClock
followed reading cmd steered =
    record (accounted_to reading steered) { clock = effect steered.clock reading cmd }

-- the state after the clocks were given the command of a leap at a reading
abbrev pub leap_followed : ℕ → Leap → SteeredClock → SteeredClock
leap_followed reading leap steered =
    record (followed reading (leap_of_clock leap steered.clock) steered) {
      next = second_after_leap leap steered.next;
    }

-- more than the number of seconds that can still begin, once the leap of a second is made
abbrev pub seconds_left_after : Leap → SteeredClock → ℕ
seconds_left_after leap steered =
    seconds_left (record steered { next = second_after_leap leap steered.next })

-- the result of following a command, and the state after it: `refusal` says why the clocks refuse
-- the command, and `next` is the state if they don't
abbrev pub HasFollowed : Option Refusal → SteeredClock → SteeredClock → Result ⊤ Refusal →
    SteeredClock → Type 0
HasFollowed refusal next before result after =
    MatchResult result
    (λ _. (refusal ≡ None) × (after ≡ next))
    (λ stated. (refusal ≡ Some stated) × (after ≡ before))

-- just the next second began in the discipline, if REALTIME reaches it up to a reading: the clocks
-- get no command
abbrev pub IsOneBegunAlone : ℕ → SteeredClock → Option Leap → SteeredClock → Type 0
IsOneBegunAlone reading before result after =
    MatchOption result
    (IsNoneDue before reading × (after ≡ before))
    (λ leap. (at : ℕ) × IsDue before reading at
    × (leap ≡ leap_at before.steering.ntp before.next)
    × (after ≡ with_next_second at before))

-- the result of a request that acts on the discipline only, at the last account, and the state
-- after it
abbrev pub IsAskedAlone : Timex → SteeredClock → Result Reply Refusal → SteeredClock → Type 0
IsAskedAlone request before result after =
    let real = real_at before.last_account before.clock in
    MatchResult result
    (λ reply. (real_refusal before.last_account before.clock ≡ None)
    × (reply ≡ reply_to request real (tai_of_clock before.clock) before.steering.ntp)
    × (after ≡ with_asked request real before))
    (λ refusal. (real_refusal before.last_account before.clock ≡ Some refusal) × (after ≡ before))

-- a reading is no nearer to the last command than the last account
abbrev pub IsNoEarlier : ℕ → SteeredClock → Type 0
IsNoEarlier reading steered =
    distance steered.clock.base steered.last_account ≤ distance steered.clock.base reading

-- what was asked for up to an account at a reading is what was given, up to the lag and to what the
-- account drops: nothing while the lag stays within its bound
pub record IsOwedAt (reading : ℕ) (before after : SteeredClock) : Type 0 where
  pub sum :
      owed before +ℤ asked_to reading before
      ≡ owed after +ℤ dropped_to reading after.steering.lag before
  pub kept : IsWithin reading before → dropped_to reading after.steering.lag before ≡ pos 0
