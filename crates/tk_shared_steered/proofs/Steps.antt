-- The discipline follows the commands that were given.
use Rattle.std.proofs.Common.{◌≡◌, ◌∙◌, refl, sym, ap, subst, ℕ, ◌≤◌, false, Option, Some, None, arith}
use Rattle.std.specs.Prelude.{⊤, ℤ, option_map, Result, Ok, Err, MatchOption}
use Rattle.tk_counter.specs.Counter.{gap}
use Rattle.tk_clock.specs.declared.command.Command.{Command}
use Rattle.tk_clock.specs.declared.command.Command.TheVariants.{Freq, Tick}
use Rattle.tk_clock.specs.declared.refusal.Refusal.{Refusal}
use Rattle.tk_clock.specs.Command.{is_resume}
use Rattle.tk_clock.specs.Legal.{IsWhole}
use Rattle.tk_clock.specs.Reach.{distance}
use Rattle.tk_clock.specs.Refusal.{state_refusal}
use Rattle.tk_clock.specs.State.{State, effect, state_of}
use Rattle.tk_clock.proofs.Ledger.{clock_refusal-state}
use Rattle.tk_clock.proofs.Legal.{state_of-followed_by}
use Rattle.tk_ntp.specs.Followed.{HasFollowed, IsNoEarlier}
use Rattle.tk_ntp.specs.SteeredClock.{SteeredClock}
use Rattle.tk_ntp.proofs.Made.{none_here}
use Rattle.tk_shared.specs.Callers.{Known, entry_of}
use Rattle.tk_shared_steered.specs.Given.{IsGiven}
use Rattle.tk_shared_steered.proofs.Given.{accepted_last}

-- clocks of the history before a command accept it
pub accepts : (clock : State) (cmd : Command) (reading : ℕ) (old new : Known) →
    clock ≡ state_of old.seen → IsGiven cmd reading old new →
    state_refusal clock reading cmd ≡ None
accepts clock cmd reading old new is given =
    let entry = entry_of old reading cmd in
    ap (λ (s : State). state_refusal s reading cmd) is
    ∙ sym (clock_refusal-state old.seen old.id reading cmd)
    ∙ accepted_last old.seen entry (subst IsWhole given.seen given.informed.whole)

-- and then they are those of the history with the command
pub runs_on : (clock : State) (cmd : Command) (reading : ℕ) (old new : Known) →
    clock ≡ state_of old.seen → IsGiven cmd reading old new →
    effect clock reading cmd ≡ state_of new.seen
runs_on clock cmd reading old new is given =
    state_of-followed_by old.seen clock old.id reading cmd is
    (accepts clock cmd reading old new is given)
    ∙ ap state_of (sym given.seen)

-- so the discipline has followed the command
pub follows : (refusal : Option Refusal) (next before after : SteeredClock)
    (result : Result ⊤ Refusal) → HasFollowed refusal next before result after →
    refusal ≡ None → after ≡ next
follows refusal next before after (Ok done) h none = h.1
follows refusal next before after (Err stated) h none = absurd (cc (sym none ∙ h.0))

-- no reading is nearer to the last command than an account there
pub no_earlier : (steered : SteeredClock) (reading : ℕ) →
    steered.last_account ≡ steered.clock.base.last → IsNoEarlier reading steered
no_earlier steered reading is =
    let base = steered.clock.base in
    subst (λ (last_account : ℕ). gap base.counter base.last last_account ≤ distance base reading) (sym is)
    (rw (none_here base.counter base.last) (omega arith))

pub tick_plain : (tick : Option ℤ) →
    MatchOption (option_map Tick tick) ⊤ (λ cmd. is_resume cmd ≡ false)
tick_plain None = tt
tick_plain (Some tick) = refl

pub frequency_plain : (frequency : Option ℤ) →
    MatchOption (option_map Freq frequency) ⊤ (λ cmd. is_resume cmd ≡ false)
frequency_plain None = tt
frequency_plain (Some frequency) = refl
