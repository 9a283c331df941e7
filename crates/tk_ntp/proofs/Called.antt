-- The lag stays small at the account of each call.
use Rattle.std.proofs.Common.{◌≡◌, ◌∙◌, refl, sym, ap, subst, ℕ, ◌+◌, inl, inr, Bool, true, false, not, ◌&&◌, Option, Some, None, MatchOption, arith}
use Rattle.std.specs.Prelude.{ℤ, pos, ◌+ℤ◌, ◌*ℤ◌, unsigned_abs, is_none, Result, Ok, Err, ⊤}
use Rattle.std.proofs.lemmas.Int.{ints}
use Rattle.std.proofs.Math.IntN.{*ℤ-zero}
use Rattle.tk_counter.specs.Counter.{Counter, IsCounter}
use Rattle.tk_clock.specs.declared.command.Command.{Command}
use Rattle.tk_clock.specs.declared.command.Command.TheVariants.{Update, SetTime, Step, Freq, Tick, Tai, Leap, Suspend, Resume}
use Rattle.tk_clock.specs.declared.refusal.Refusal.{Refusal}
use Rattle.tk_clock.specs.declared.timespec.Timespec.{Timespec}
use Rattle.tk_clock.specs.Command.{is_resume}
use Rattle.tk_clock.specs.State.{State, effect}
use Rattle.tk_ntp.specs.declared.reply.Reply.{Reply}
use Rattle.tk_ntp.specs.declared.timex.Timex.{Timex}
use Rattle.tk_ntp.specs.Account.{cycles_to, sets_by, sets_by_step, IsLeft}
use Rattle.tk_ntp.specs.Advance.{IsAdvanced}
use Rattle.tk_ntp.specs.Applied.{IsPlain}
use Rattle.tk_ntp.specs.Asked.{accounted_if, acts, after_command, changes_rate, given_tai, IsAsked, IsCommanded, IsRequested, real_at, steered_if, step_refusal, stepped, tai_asked, with_asked}
use Rattle.tk_ntp.specs.Lag.{made_up, short_of}
use Rattle.tk_ntp.specs.Modes.{asked}
use Rattle.tk_ntp.specs.Ntp.{second_length}
use Rattle.tk_ntp.specs.Rate.{IsInRange, IsGiven}
use Rattle.tk_ntp.specs.Request.{step_of}
use Rattle.tk_ntp.specs.Steady.{is_kept_by, keeps_rate, IsSinceAfter, IsSmall, IsSmallAfter, IsSmallIn, IsSmallOrSame}
use Rattle.tk_ntp.specs.SteeredClock.{SteeredClock, reading_refusal}
use Rattle.tk_ntp.proofs.Account.{never}
use Rattle.tk_ntp.proofs.Acting.{ActsAs, OfFrequency, OfTick}
use Rattle.tk_ntp.proofs.Left.{asked-left, commanded-left, requested-left, tai-same, IsSameRate}
use Rattle.tk_ntp.proofs.Steady.{left-since, stays_small}
use Rattle.tk_ntp.proofs.Unchanged.{length-kept}

none_small : (counter : Counter) → IsSmall counter (pos 0)
none_small counter = record {
  low = rw (*ℤ-zero (pos counter.mult)) (omega (arith, ints));
  high = rw (*ℤ-zero (pos counter.mult)) (omega (arith, ints));
}

pub left-small : (sets : Bool) (s after : SteeredClock) →
    IsLeft sets after.last_account after.steering.lag s → IsSmallAfter s after
left-small true s after left = λ chosen cycles since long.
    subst (IsSmall s.clock.base.counter) (sym left) (none_small s.clock.base.counter)
left-small false s after left = λ chosen cycles since long.
    (left-since s after.last_account after.steering.lag chosen cycles since long left).1

-- a call that keeps the rate and the length of the second
pub kept-since : (s after : SteeredClock) → IsSameRate s.clock after.clock →
    second_length after.steering.ntp ≡ second_length s.steering.ntp →
    IsLeft false after.last_account after.steering.lag s → IsSinceAfter s after
kept-since s after rate length left = λ chosen cycles since long.
    let base = s.clock.base in
    let base' = after.clock.base in
    let l = second_length s.steering.ntp in
    let l' = second_length after.steering.ntp in
    let lag = after.steering.lag in
    let n = cycles + cycles_to after.last_account s in
    let parts : Counter → ℤ → ℕ → Type 0 = λ c z m.
    IsCounter c × IsSmall c chosen × IsInRange (z +ℤ made_up c chosen)
    × IsGiven c (z +ℤ made_up c chosen) m
    × (lag ≡ chosen +ℤ pos n *ℤ short_of c z m) in
    let here : parts base.counter l base.mult = (
      since.counter,
      since.small,
      since.rate.range,
      since.rate.given,
      (left-since s after.last_account lag chosen cycles since long left).0,
    ) in
    let there : parts base'.counter l' base'.mult =
    subst (λ (c : Counter). parts c l' base'.mult) (sym rate.counter)
    (subst (λ (z : ℤ). parts base.counter z base'.mult) (sym length)
    (subst (parts base.counter l) (sym rate.mult) here)) in
    record {
      counter = there.0;
      rate = record { range = there.2; given = there.3 };
      small = there.1;
      lag = there.4;
    }

-- a call that leaves the state `there`, which has the rate and the length of the second
same-since : (s after there : SteeredClock) → after ≡ there → IsSameRate s.clock there.clock →
    second_length there.steering.ntp ≡ second_length s.steering.ntp →
    IsLeft false after.last_account after.steering.lag s → IsSinceAfter s after
same-since s after there is rate length left =
    kept-since s after
    (subst (IsSameRate s.clock) (sym (ap (λ (t : SteeredClock). t.clock) is)) rate)
    (ap (λ (t : SteeredClock). second_length t.steering.ntp) is ∙ length) left

-- the clocks and the discipline after a request that keeps the rate
requested-rate : (reading : ℕ) (request : Timex) (s : SteeredClock) (clock : State)
    (does changes : Bool) → changes ≡ false →
    let real = real_at reading s.clock in
    let after =
    steered_if changes reading
    (with_asked request real (accounted_if does reading (record s { clock = clock }))) in
    (after.clock ≡ clock)
    × (after.steering.ntp ≡ asked request (unsigned_abs real.sec) s.steering.ntp)
requested-rate reading request s clock true false is = (refl, refl)
requested-rate reading request s clock false false is = (refl, refl)
requested-rate reading request s clock does true is = absurd (never is)

requested-since : (reading : ℕ) (request : Timex) (s after : SteeredClock)
    (result : Result Reply Refusal) → IsRequested reading request s result after →
    changes_rate request.modes ≡ false → IsSinceAfter s after
requested-since reading request s after (Ok reply) h keeps =
    let tai = tai_asked request s in
    let clock = given_tai reading tai s.clock in
    let real = real_at reading s.clock in
    let found =
    requested-rate reading request s clock (acts request.modes) (changes_rate request.modes)
    keeps in
    let same : after.clock ≡ clock = ap (λ (t : SteeredClock). t.clock) h.2 ∙ found.0 in
    let ntp : after.steering.ntp ≡ asked request (unsigned_abs real.sec) s.steering.ntp =
    ap (λ (t : SteeredClock). t.steering.ntp) h.2 ∙ found.1 in
    kept-since s after (subst (IsSameRate s.clock) (sym same) (tai-same reading tai s.clock))
    (ap second_length ntp ∙ length-kept request (unsigned_abs real.sec) s.steering.ntp keeps)
    (requested-left reading request s after (Ok reply) h)
requested-since reading request s after (Err refusal) h keeps =
    same-since s after s h.1 (record { counter = refl; mult = refl }) refl
    (requested-left reading request s after (Err refusal) h)

first_holds : (a b : Bool) → (a && b) ≡ true → a ≡ true
first_holds true b h = refl
first_holds false b h = absurd (never (sym h))

second_fails : (a b : Bool) → (a && not b) ≡ true → b ≡ false
second_fails true false h = refl
second_fails true true h = absurd (never (sym h))
second_fails false b h = absurd (never (sym h))

asked-since : (reading : ℕ) (request : Timex) (by : Option Timespec) (s after : SteeredClock)
    (result : Result Reply Refusal) → is_none by ≡ true →
    MatchOption (step_refusal reading by s)
    (IsRequested reading request (stepped reading by s) result after)
    (λ r. (result ≡ Err r) × (after ≡ s)) →
    changes_rate request.modes ≡ false → IsSinceAfter s after
asked-since reading request None s after result none h keeps =
    requested-since reading request s after result h keeps
asked-since reading request (Some by) s after result none h keeps = absurd (never (sym none))

-- after a request, for which seconds began first
pub asked_small : (reading : ℕ) (request : Timex) (s advanced after : SteeredClock)
    (result : Result Reply Refusal) → IsAdvanced reading s advanced →
    IsAsked reading request advanced result after →
    IsSmallIn (keeps_rate request) reading s after
asked_small reading request s advanced after result chain h =
    let by = step_of request in
    record {
      advanced = advanced;
      stays = stays_small reading s advanced chain;
      small =
          left-small (sets_by_step reading by advanced) advanced after
          (asked-left reading request by advanced after result h);
      since = λ keeps.
          asked-since reading request by advanced after result
          (first_holds (is_none by) (not (changes_rate request.modes)) keeps) h
          (second_fails (is_none by) (changes_rate request.modes) keeps);
    }

-- a command that keeps the rate: it sets no time
record KeepsRate (reading : ℕ) (cmd : Command) (s : SteeredClock) : Type 0 where
  unset : sets_by reading cmd s ≡ false
  rate : IsSameRate s.clock (after_command reading cmd (effect s.clock reading cmd) s).clock
  length :
      second_length (after_command reading cmd (effect s.clock reading cmd) s).steering.ntp
      ≡ second_length s.steering.ntp

keeping : (reading : ℕ) (cmd : Command) (s : SteeredClock) → is_kept_by cmd ≡ true →
    KeepsRate reading cmd s
keeping reading Update s keeps =
    record { unset = refl; rate = record { counter = refl; mult = refl }; length = refl }
keeping reading (Tai seconds) s keeps =
    record { unset = refl; rate = record { counter = refl; mult = refl }; length = refl }
keeping reading Suspend s keeps =
    record { unset = refl; rate = record { counter = refl; mult = refl }; length = refl }
keeping reading (SetTime time) s keeps = absurd (never (sym keeps))
keeping reading (Step by) s keeps = absurd (never (sym keeps))
keeping reading (Freq frequency) s keeps = absurd (never (sym keeps))
keeping reading (Tick tick) s keeps = absurd (never (sym keeps))
keeping reading (Leap by tai) s keeps = absurd (never (sym keeps))
keeping reading (Resume away) s keeps = absurd (never (sym keeps))

command-since : (reading : ℕ) (cmd : Command) (s after : SteeredClock)
    (result : Result ⊤ Refusal) → KeepsRate reading cmd s → IsCommanded reading cmd s result after →
    IsLeft false after.last_account after.steering.lag s → IsSinceAfter s after
command-since reading cmd s after (Err refusal) is h left =
    same-since s after s h.1 (record { counter = refl; mult = refl }) refl left
command-since reading cmd s after (Ok done) is h left =
    same-since s after (after_command reading cmd (effect s.clock reading cmd) s) h.1 is.rate
    is.length left

commanded-small : (reading : ℕ) (cmd : Command) (s advanced after : SteeredClock)
    (result : Result ⊤ Refusal) → is_resume cmd ≡ false → IsAdvanced reading s advanced →
    IsCommanded reading cmd advanced result after →
    IsSmallIn (is_kept_by cmd) reading s after
commanded-small reading cmd s advanced after result awake chain h =
    let left = commanded-left reading cmd advanced after result awake h in
    record {
      advanced = advanced;
      stays = stays_small reading s advanced chain;
      small = left-small (sets_by reading cmd advanced) advanced after left;
      since = λ keeps.
          let is = keeping reading cmd advanced keeps in
          command-since reading cmd advanced after result is h
          (subst (λ (sets : Bool). IsLeft sets after.last_account after.steering.lag advanced) is.unset
          left);
    }

followed-small : (reading : ℕ) (cmd : Command) (s after : SteeredClock)
    (refusal : Option Refusal) (result : Result ⊤ Refusal) → is_resume cmd ≡ false →
    MatchOption refusal
    ((advanced : SteeredClock) × IsAdvanced reading s advanced
    × IsCommanded reading cmd advanced result after)
    (λ r. (result ≡ Err r) × (after ≡ s)) →
    IsSmallOrSame (is_kept_by cmd) reading s after
followed-small reading cmd s after None result awake h =
    inr (commanded-small reading cmd s h.0 after result awake h.1 h.2)
followed-small reading cmd s after (Some r) result awake h = inl h.1

-- after a command that is neither a request nor a resume
pub plain_small : (reading : ℕ) (cmd : Command) (s after : SteeredClock)
    (result : Result ⊤ Refusal) → is_resume cmd ≡ false →
    IsPlain (is_resume cmd) reading cmd s result after →
    IsSmallOrSame (is_kept_by cmd) reading s after
plain_small reading cmd s after result awake h =
    followed-small reading cmd s after (reading_refusal reading s) result awake
    (subst (λ (resumes : Bool). IsPlain resumes reading cmd s result after) awake h)

less_kept : (keeps : Bool) (reading : ℕ) (s after : SteeredClock) →
    IsSmallOrSame keeps reading s after → IsSmallOrSame false reading s after
less_kept keeps reading s after h = elim h as (λ _. IsSmallOrSame false reading s after) [
  | inl e ↦ inl e
  | inr e ↦ inr (record {
    advanced = e.advanced;
    stays = e.stays;
    small = e.small;
    since = λ keeps. absurd (never (sym keeps));
  })
]

-- after a command that acts as a request
pub request_small : (reading : ℕ) (cmd : Command) (request : Timex) (s after : SteeredClock) →
    ActsAs cmd request → IsSmallOrSame (keeps_rate request) reading s after →
    IsSmallOrSame (is_kept_by cmd) reading s after
request_small reading cmd request s after (OfFrequency frequency) h =
    less_kept (keeps_rate request) reading s after h
request_small reading cmd request s after (OfTick tick) h =
    less_kept (keeps_rate request) reading s after h
