-- What clocks were asked for is what they were given, over each call.
use Rattle.std.proofs.Common.{◌≡◌, ◌∙◌, refl, sym, ap, subst, ℕ, ◌≤◌, ◌⊎◌, inl, inr, Bool, true, false, Option, Some, None, MatchOption, arith}
use Rattle.std.specs.Prelude.{pos, ◌+ℤ◌, ◌*ℤ◌, Result, Ok, Err, ⊤}
use Rattle.std.proofs.Math.IntN.{+ℤ_idr}
use Rattle.tk_clock.specs.declared.command.Command.{Command}
use Rattle.tk_clock.specs.declared.command.Command.TheVariants.{Update, SetTime, Step, Freq, Tick, Tai, Leap, Suspend, Resume}
use Rattle.tk_clock.specs.declared.refusal.Refusal.{Refusal}
use Rattle.tk_clock.specs.declared.timespec.Timespec.{Timespec}
use Rattle.tk_clock.specs.Command.{is_resume}
use Rattle.tk_clock.specs.Reach.{distance}
use Rattle.tk_clock.specs.State.{State, effect}
use Rattle.tk_ntp.specs.declared.reply.Reply.{Reply}
use Rattle.tk_ntp.specs.declared.timex.Timex.{Timex}
use Rattle.tk_ntp.specs.Account.{units_at, owed, asked_to, asked_of, dropped_to, dropped_of, sets_by, sets_by_step, IsBalanced, IsLeft, IsConsistent, IsBalancedIn}
use Rattle.tk_ntp.specs.Advance.{IsAdvanced}
use Rattle.tk_ntp.specs.Applied.{IsPlain}
use Rattle.tk_ntp.specs.Asked.{accounted_if, acts, after_command, changes_rate, forgotten, given_tai, IsAsked, IsCommanded, IsRequested, real_at, restarted, second_after, steered_if, step_refusal, stepped, tai_asked, with_asked}
use Rattle.tk_ntp.specs.Rate.{nominal}
use Rattle.tk_ntp.specs.Request.{step_of}
use Rattle.tk_ntp.specs.SteeredClock.{SteeredClock, reading_refusal}
use Rattle.tk_ntp.proofs.Accepted.{after_mark, asleep_before, awake_at}
use Rattle.tk_ntp.proofs.Acting.{ActsAs, OfFrequency, OfTick}
use Rattle.tk_ntp.proofs.Account.{account-sum, chained, kept-of, never, owed_is, sum-of}
use Rattle.tk_ntp.proofs.Gaps.{further}
use Rattle.tk_ntp.proofs.Left.{asked-left, commanded-left}
use Rattle.tk_ntp.proofs.Made.{IsMade, kept_units, tai-made}
use Rattle.tk_ntp.proofs.Consistent.{idle, steered-made}
use Rattle.tk_ntp.proofs.Passed.{still_after}

-- the last account stays, with the clocks, or is at a reading at which MONOTONIC stays
abbrev pub IsMoved : ℕ → SteeredClock → SteeredClock → Type 0
IsMoved reading before after =
    ((after.last_account ≡ before.last_account) × (after.clock ≡ before.clock))
    ⊎ ((after.last_account ≡ reading)
    × (units_at reading after.clock ≡ units_at reading before.clock))

moved-joined : (reading : ℕ) (a b c : SteeredClock) → IsMoved reading a b →
    IsMoved reading b c → IsMoved reading a c
moved-joined reading a b c h k = elim k as (λ _. IsMoved reading a c) [
  | inl e ↦ elim h as (λ _. IsMoved reading a c) [
    | inl f ↦ inl (e.0 ∙ f.0, e.1 ∙ f.1)
    | inr f ↦ inr (e.0 ∙ f.0, ap (units_at reading) e.1 ∙ f.1)
  ]
  | inr e ↦ elim h as (λ _. IsMoved reading a c) [
    | inl f ↦ inr (e.0, e.1 ∙ ap (units_at reading) f.1)
    | inr f ↦ inr (e.0, e.1 ∙ f.1)
  ]
]

not_moved : (reading : ℕ) (before after : SteeredClock) → after ≡ before →
    IsMoved reading before after
not_moved reading before after e =
    inl (ap (λ (s : SteeredClock). s.last_account) e, ap (λ (s : SteeredClock). s.clock) e)

same_order : (n : ℕ) → n ≤ n
same_order n = omega arith

-- the account of a call
stretch-sum : (reading : ℕ) (before after : SteeredClock) →
    distance before.clock.base before.last_account ≤ distance before.clock.base reading →
    IsMoved reading before after →
    owed before +ℤ asked_to after.last_account before
    ≡ owed after +ℤ dropped_to after.last_account after.steering.lag before
stretch-sum reading before after order moved =
    let base = before.clock.base in
    let is_here : ℕ → Type 0 = λ at. units_at at after.clock ≡ units_at at before.clock in
    let is_later : ℕ → Type 0 = λ at. distance base before.last_account ≤ distance base at in
    let here : is_here after.last_account = elim moved as (λ _. is_here after.last_account) [
      | inl e ↦ ap (units_at after.last_account) e.1
      | inr e ↦ subst is_here (sym e.0) e.1
    ] in
    let no_nearer : is_later after.last_account = elim moved as (λ _. is_later after.last_account) [
      | inl e ↦ subst is_later (sym e.0) (same_order (distance base before.last_account))
      | inr e ↦ subst is_later (sym e.0) order
    ] in
    account-sum after.last_account after.steering.lag before after refl refl here no_nearer

pub settled : (sets : SteeredClock → Bool) (reading : ℕ) (before advanced after : SteeredClock) →
    reading_refusal reading before ≡ None → IsAdvanced reading before advanced → IsConsistent before →
    IsMoved reading advanced after →
    IsLeft (sets advanced) after.last_account after.steering.lag advanced →
    IsBalancedIn sets reading before after
settled sets reading before advanced after accepted chain consistent moved left =
    let base = before.clock.base in
    let order =
    still_after reading before advanced chain
    (further base.counter base.last before.last_account reading consistent.ahead
    (after_mark reading before accepted)) in
    record {
      advanced = advanced;
      begun = chain;
      sum =
          chained (owed before) (owed advanced) (owed after)
          (asked_of reading before advanced chain) (asked_to after.last_account advanced)
          (dropped_of reading before advanced chain)
          (dropped_to after.last_account after.steering.lag advanced)
          (sum-of reading before advanced chain consistent (awake_at reading before accepted))
          (stretch-sum reading advanced after order moved);
      kept = kept-of reading before advanced chain;
      left = left;
    }

-- clocks that were set, stepped or woken at a reading
restarted-moved : (reading : ℕ) (clock : State) (s s' : SteeredClock) →
    units_at reading clock ≡ units_at reading s.clock →
    IsMoved reading s (restarted reading clock s')
restarted-moved reading clock s s' units =
    let begun : SteeredClock =
    record s' { clock = clock; next = second_after clock; last_account = reading } in
    inr (refl, (steered-made reading begun).units ∙ units)

command-moved : (reading : ℕ) (cmd : Command) (s : SteeredClock) → is_resume cmd ≡ false →
    IsMoved reading s (after_command reading cmd (effect s.clock reading cmd) s)
command-moved reading Update s awake =
    inr (
      refl,
      kept_units s.clock.base.counter reading (units_at reading s.clock) s.clock.base.mult,
    )
command-moved reading (SetTime time) s awake =
    restarted-moved reading (effect s.clock reading (SetTime time)) s (forgotten s)
    (kept_units s.clock.base.counter reading (units_at reading s.clock) s.clock.base.mult)
command-moved reading (Step by) s awake =
    restarted-moved reading (effect s.clock reading (Step by)) s (forgotten s)
    (kept_units s.clock.base.counter reading (units_at reading s.clock) s.clock.base.mult)
command-moved reading (Leap by tai) s awake =
    restarted-moved reading (effect s.clock reading (Leap by tai)) s (forgotten s)
    (kept_units s.clock.base.counter reading (units_at reading s.clock) s.clock.base.mult)
command-moved reading (Freq frequency) s awake =
    inr (
      refl,
      kept_units s.clock.base.counter reading (units_at reading s.clock)
          (effect s.clock reading (Freq frequency)).base.mult,
    )
command-moved reading (Tick tick) s awake =
    inr (
      refl,
      kept_units s.clock.base.counter reading (units_at reading s.clock)
          (effect s.clock reading (Tick tick)).base.mult,
    )
command-moved reading (Tai seconds) s awake =
    inr (
      refl,
      kept_units s.clock.base.counter reading (units_at reading s.clock) s.clock.base.mult,
    )
command-moved reading Suspend s awake =
    inr (
      refl,
      kept_units s.clock.base.counter reading (units_at reading s.clock) s.clock.base.mult,
    )
command-moved reading (Resume away) s awake = absurd (never awake)

commanded-moved : (reading : ℕ) (cmd : Command) (s after : SteeredClock)
    (result : Result ⊤ Refusal) → is_resume cmd ≡ false → IsCommanded reading cmd s result after →
    IsMoved reading s after
commanded-moved reading cmd s after (Ok done) awake h =
    subst (IsMoved reading s) (sym h.1) (command-moved reading cmd s awake)
commanded-moved reading cmd s after (Err refusal) awake h = not_moved reading s after h.1

request-moved : (reading : ℕ) (request : Timex) (real : Timespec) (s : SteeredClock)
    (clock : State) (does changes : Bool) →
    (does ≡ false → (changes ≡ false) × (clock ≡ s.clock)) → IsMade reading s.clock clock →
    IsMoved reading s (steered_if changes reading
    (with_asked request real (accounted_if does reading (record s { clock = clock }))))
request-moved reading request real s clock true true rest made =
    let asked = with_asked request real (accounted_if true reading (record s { clock = clock })) in
    inr (refl, (steered-made reading asked).units ∙ made.units)
request-moved reading request real s clock true false rest made = inr (refl, made.units)
request-moved reading request real s clock false true rest made =
    absurd (never (rest refl).0)
request-moved reading request real s clock false false rest made = inl (refl, (rest refl).1)

requested-moved : (reading : ℕ) (request : Timex) (s after : SteeredClock)
    (result : Result Reply Refusal) → IsRequested reading request s result after →
    IsMoved reading s after
requested-moved reading request s after (Ok reply) h =
    let tai = tai_asked request s in
    let rest : acts request.modes ≡ false →
    (changes_rate request.modes ≡ false) × (given_tai reading tai s.clock ≡ s.clock) =
    λ is. let found = idle reading request s is in (found.rate, found.clock) in
    subst (IsMoved reading s) (sym h.2)
    (request-moved reading request (real_at reading s.clock) s (given_tai reading tai s.clock)
    (acts request.modes) (changes_rate request.modes) rest (tai-made reading tai s.clock))
requested-moved reading request s after (Err refusal) h = not_moved reading s after h.1

step-moved : (reading : ℕ) (by : Option Timespec) (s : SteeredClock) →
    IsMoved reading s (stepped reading by s)
step-moved reading None s = inl (refl, refl)
step-moved reading (Some by) s = command-moved reading (Step by) s refl

asked-moved : (reading : ℕ) (request : Timex) (s s' after : SteeredClock)
    (refusal : Option Refusal) (result : Result Reply Refusal) →
    MatchOption refusal (IsRequested reading request s' result after)
    (λ r. (result ≡ Err r) × (after ≡ s)) →
    IsMoved reading s s' → IsMoved reading s after
asked-moved reading request s s' after None result h moved =
    moved-joined reading s s' after moved (requested-moved reading request s' after result h)
asked-moved reading request s s' after (Some r) result h moved = not_moved reading s after h.1

-- after a request, for which seconds began first
pub asked_settled : (reading : ℕ) (request : Timex) (s advanced after : SteeredClock)
    (result : Result Reply Refusal) → reading_refusal reading s ≡ None →
    IsAdvanced reading s advanced → IsAsked reading request advanced result after → IsConsistent s →
    IsBalancedIn (sets_by_step reading (step_of request)) reading s after
asked_settled reading request s advanced after result accepted chain h consistent =
    settled (sets_by_step reading (step_of request)) reading s advanced after accepted chain consistent
    (asked-moved reading request advanced (stepped reading (step_of request) advanced) after
    (step_refusal reading (step_of request) advanced) result h
    (step-moved reading (step_of request) advanced))
    (asked-left reading request (step_of request) advanced after result h)

followed-balanced : (reading : ℕ) (cmd : Command) (s after : SteeredClock)
    (refusal : Option Refusal) (result : Result ⊤ Refusal) → is_resume cmd ≡ false →
    reading_refusal reading s ≡ refusal →
    MatchOption refusal
    ((advanced : SteeredClock) × IsAdvanced reading s advanced
    × IsCommanded reading cmd advanced result after)
    (λ r. (result ≡ Err r) × (after ≡ s)) →
    IsConsistent s → IsBalanced (sets_by reading cmd) reading s after
followed-balanced reading cmd s after None result awake is h consistent =
    inr
    (settled (sets_by reading cmd) reading s h.0 after is h.1 consistent
    (commanded-moved reading cmd h.0 after result awake h.2)
    (commanded-left reading cmd h.0 after result awake h.2))
followed-balanced reading cmd s after (Some r) result awake is h consistent = inl h.1

-- after a command that is neither a request nor a resume
pub plain_balanced : (reading : ℕ) (cmd : Command) (s after : SteeredClock)
    (result : Result ⊤ Refusal) → is_resume cmd ≡ false →
    IsPlain (is_resume cmd) reading cmd s result after → IsConsistent s →
    IsBalanced (sets_by reading cmd) reading s after
plain_balanced reading cmd s after result awake h consistent =
    followed-balanced reading cmd s after (reading_refusal reading s) result awake refl
    (subst (λ (resumes : Bool). IsPlain resumes reading cmd s result after) awake h) consistent

-- after a command that acts as a request: it asks for no step, and sets no time
pub request_balanced : (reading : ℕ) (cmd : Command) (request : Timex) (s after : SteeredClock) →
    ActsAs cmd request → IsBalanced (sets_by_step reading (step_of request)) reading s after →
    IsBalanced (sets_by reading cmd) reading s after
request_balanced reading cmd request s after (OfFrequency frequency) h = h
request_balanced reading cmd request s after (OfTick tick) h = h

-- a resume at a reading, of clocks whose last account is at their last command
resume-owed : (reading : ℕ) (away : Timespec) (s : SteeredClock) → s.last_account ≡ s.clock.base.last →
    owed (restarted reading (effect s.clock reading (Resume away)) s) ≡ owed s
resume-owed reading away s is =
    let base = s.clock.base in
    let woken = effect s.clock reading (Resume away) in
    let begun : SteeredClock =
    record s { clock = woken; next = second_after woken; last_account = reading } in
    owed_is (restarted reading woken s) reading base.amount s.steering.lag refl
    ((steered-made reading begun).units ∙ kept_units base.counter reading base.amount base.mult)
    refl
    ∙ sym
    (owed_is s base.last base.amount s.steering.lag is
    (kept_units base.counter base.last base.amount base.mult) refl)

resumed-owed : (reading : ℕ) (away : Timespec) (s after : SteeredClock)
    (result : Result ⊤ Refusal) → IsCommanded reading (Resume away) s result after → IsConsistent s →
    owed after ≡ owed s
resumed-owed reading away s after (Ok done) h consistent =
    ap owed h.1
    ∙ resume-owed reading away s (consistent.asleep (asleep_before s.clock reading away h.0))
resumed-owed reading away s after (Err refusal) h consistent = ap owed h.1

-- after a resume
pub woken_owed : (reading : ℕ) (cmd : Command) (s after : SteeredClock)
    (result : Result ⊤ Refusal) → is_resume cmd ≡ true →
    IsPlain (is_resume cmd) reading cmd s result after → IsConsistent s → owed after ≡ owed s
woken_owed reading (Resume away) s after result is h consistent =
    resumed-owed reading away s after result h consistent
woken_owed reading Update s after result is h consistent = absurd (never (sym is))
woken_owed reading (SetTime time) s after result is h consistent = absurd (never (sym is))
woken_owed reading (Step by) s after result is h consistent = absurd (never (sym is))
woken_owed reading (Leap by tai) s after result is h consistent = absurd (never (sym is))
woken_owed reading (Freq frequency) s after result is h consistent = absurd (never (sym is))
woken_owed reading (Tick tick) s after result is h consistent = absurd (never (sym is))
woken_owed reading (Tai seconds) s after result is h consistent = absurd (never (sym is))
woken_owed reading Suspend s after result is h consistent = absurd (never (sym is))

-- of clocks that were just opened
pub owed-opened : (s : SteeredClock) → s.last_account ≡ s.clock.base.last → s.steering.lag ≡ pos 0 →
    owed s ≡ pos s.clock.base.amount *ℤ pos nominal
owed-opened s last_account lag =
    let base = s.clock.base in
    owed_is s base.last base.amount (pos 0) last_account
    (kept_units base.counter base.last base.amount base.mult) lag
    ∙ +ℤ_idr (pos base.amount *ℤ pos nominal)
