-- The lag that each call leaves.
use Rattle.std.proofs.Common.{◌≡◌, ◌∙◌, refl, sym, ap, subst, ℕ, Bool, true, false, ◌&&◌, Option, Some, None, MatchOption, nat_eq, arith}
use Rattle.std.specs.Prelude.{ℤ, pos, ◌+ℤ◌, ◌-ℤ◌, ◌*ℤ◌, is_none, Result, Ok, Err, ⊤, if◌then◌else◌}
use Rattle.std.proofs.lemmas.Int.{ints, clamps}
use Rattle.std.proofs.Math.IntN.{zero-*ℤ}
use Rattle.tk_counter.specs.Counter.{Counter, gap}
use Rattle.tk_clock.specs.declared.command.Command.{Command}
use Rattle.tk_clock.specs.declared.command.Command.TheVariants.{Update, SetTime, Step, Freq, Tick, Tai, Leap, Suspend, Resume}
use Rattle.tk_clock.specs.declared.refusal.Refusal.{Refusal}
use Rattle.tk_clock.specs.declared.timespec.Timespec.{Timespec}
use Rattle.tk_clock.specs.Command.{is_resume}
use Rattle.tk_clock.specs.Limits.{sets_real}
use Rattle.tk_clock.specs.Refusal.{state_refusal}
use Rattle.tk_clock.specs.State.{State, effect}
use Rattle.tk_ntp.specs.declared.reply.Reply.{Reply}
use Rattle.tk_ntp.specs.declared.timex.Timex.{Timex}
use Rattle.tk_ntp.specs.Account.{lag_to, dropped_to, sets_by, sets_by_step, IsLeft}
use Rattle.tk_ntp.specs.Advance.{tai_of_clock}
use Rattle.tk_ntp.specs.Asked.{accounted_if, acts, after_command, changes_rate, given_tai, IsCommanded, IsRequested, real_at, steered_if, step_refusal, stepped, tai_asked, with_asked}
use Rattle.tk_ntp.specs.Lag.{greatest_lag, lag_after, short_of}
use Rattle.tk_ntp.specs.Loops.{clamped_by}
use Rattle.tk_ntp.specs.Ntp.{second_length}
use Rattle.tk_ntp.specs.SteeredClock.{SteeredClock, accounted_to, after_or, given}
use Rattle.tk_ntp.proofs.Account.{kept_whole, never}
use Rattle.tk_ntp.proofs.Made.{none_here}

nothing : (lag short : ℤ) → lag +ℤ pos 0 *ℤ short -ℤ lag ≡ pos 0
nothing lag short = rw (zero-*ℤ short) (omega (arith, ints))

-- no account was made
unchanged : (s : SteeredClock) → dropped_to s.last_account s.steering.lag s ≡ pos 0
unchanged s =
    let base = s.clock.base in
    rw (none_here base.counter s.last_account)
    (nothing s.steering.lag (short_of base.counter (second_length s.steering.ntp) base.mult))

pub same-left : (s after : SteeredClock) → after.last_account ≡ s.last_account →
    after.steering.lag ≡ s.steering.lag → IsLeft false after.last_account after.steering.lag s
same-left s after last_account lag = λ within.
    ap (λ (at : ℕ). dropped_to at after.steering.lag s) last_account
    ∙ ap (λ z. dropped_to s.last_account z s) lag
    ∙ unchanged s

unmoved-left : (s after : SteeredClock) → after ≡ s → IsLeft false after.last_account after.steering.lag s
unmoved-left s after is =
    same-left s after (ap (λ (t : SteeredClock). t.last_account) is)
    (ap (λ (t : SteeredClock). t.steering.lag) is)

-- an account at a reading
pub accounted-left : (reading : ℕ) (s : SteeredClock) →
    IsLeft false reading (accounted_to reading s).steering.lag s
accounted-left reading s = λ within.
    kept_whole (greatest_lag s.clock.base.counter) (lag_to reading s) within

none_left : (refusal : Option Refusal) (at : ℕ) (s : SteeredClock) → refusal ≡ None →
    IsLeft (is_none refusal) at (pos 0) s
none_left refusal at s is =
    subst (λ (r : Option Refusal). IsLeft (is_none r) at (pos 0) s) (sym is) refl

command-left : (reading : ℕ) (cmd : Command) (s : SteeredClock) → is_resume cmd ≡ false →
    state_refusal s.clock reading cmd ≡ None →
    let after = after_command reading cmd (effect s.clock reading cmd) s in
    IsLeft (sets_by reading cmd s) after.last_account after.steering.lag s
command-left reading Update s awake is = accounted-left reading s
command-left reading (SetTime time) s awake is =
    none_left (state_refusal s.clock reading (SetTime time)) reading s is
command-left reading (Step by) s awake is =
    none_left (state_refusal s.clock reading (Step by)) reading s is
command-left reading (Leap by tai) s awake is =
    none_left (state_refusal s.clock reading (Leap by tai)) reading s is
command-left reading (Freq frequency) s awake is = accounted-left reading s
command-left reading (Tick tick) s awake is = accounted-left reading s
command-left reading (Tai seconds) s awake is = accounted-left reading s
command-left reading Suspend s awake is = accounted-left reading s
command-left reading (Resume away) s awake is = absurd (never awake)

not_set : (sets : Bool) (refusal : Option Refusal) (r : Refusal) → refusal ≡ Some r →
    (sets && is_none refusal) ≡ false
not_set true refusal r is = rw is refl
not_set false refusal r is = refl

pub commanded-left : (reading : ℕ) (cmd : Command) (s after : SteeredClock)
    (result : Result ⊤ Refusal) → is_resume cmd ≡ false → IsCommanded reading cmd s result after →
    IsLeft (sets_by reading cmd s) after.last_account after.steering.lag s
commanded-left reading cmd s after (Ok done) awake h =
    subst (λ (t : SteeredClock). IsLeft (sets_by reading cmd s) t.last_account t.steering.lag s) (sym h.1)
    (command-left reading cmd s awake h.0)
commanded-left reading cmd s after (Err refusal) awake h =
    subst (λ (sets : Bool). IsLeft sets after.last_account after.steering.lag s)
    (sym (not_set (sets_real cmd) (state_refusal s.clock reading cmd) refusal h.0))
    (unmoved-left s after h.1)

-- clocks with the counter and the multiplier of others
pub record IsSameRate (before after : State) : Type 0 where
  pub counter : after.base.counter ≡ before.base.counter
  pub mult : after.base.mult ≡ before.base.mult

same_rate : (clock : State) → IsSameRate clock clock
same_rate clock = record { counter = refl; mult = refl }

if-same : (test : Bool) (before after : State) → IsSameRate before after →
    IsSameRate before (if test then before else after)
if-same true before after h = same_rate before
if-same false before after h = h

after_or-same : (refusal : Option Refusal) (after before : State) → IsSameRate before after →
    IsSameRate before (after_or refusal after before)
after_or-same None after before h = h
after_or-same (Some refusal) after before h = same_rate before

pub tai-same : (reading tai : ℕ) (clock : State) → IsSameRate clock (given_tai reading tai clock)
tai-same reading tai clock =
    if-same (nat_eq tai (tai_of_clock clock)) clock (given reading (Tai (pos tai)) clock)
    (after_or-same (state_refusal clock reading (Tai (pos tai)))
    (effect clock reading (Tai (pos tai))) clock (record { counter = refl; mult = refl }))

-- the lag at a reading, by clocks of the same rate
lag-with : (reading : ℕ) (s : SteeredClock) (clock : State) → IsSameRate s.clock clock →
    (accounted_to reading (record s { clock = clock })).steering.lag
    ≡ (accounted_to reading s).steering.lag
lag-with reading s clock same =
    let lag : Counter → ℕ → ℤ = λ counter mult.
    lag_after counter (second_length s.steering.ntp) mult (gap counter s.last_account reading)
    s.steering.lag in
    ap (λ (counter : Counter). lag counter clock.base.mult) same.counter
    ∙ ap (λ (mult : ℕ). lag s.clock.base.counter mult) same.mult

-- the lag after a request without a step
requested-lag : (reading : ℕ) (request : Timex) (s : SteeredClock) (does changes : Bool) →
    let real = real_at reading s.clock in
    let clock = given_tai reading (tai_asked request s) s.clock in
    let after =
    steered_if changes reading
    (with_asked request real (accounted_if does reading (record s { clock = clock }))) in
    (after.last_account ≡ (accounted_if does reading s).last_account)
    × (after.steering.lag ≡ (accounted_if does reading s).steering.lag)
requested-lag reading request s true true =
    let tai = tai_asked request s in
    (refl, lag-with reading s (given_tai reading tai s.clock) (tai-same reading tai s.clock))
requested-lag reading request s true false =
    let tai = tai_asked request s in
    (refl, lag-with reading s (given_tai reading tai s.clock) (tai-same reading tai s.clock))
requested-lag reading request s false true = (refl, refl)
requested-lag reading request s false false = (refl, refl)

if-left : (does : Bool) (reading : ℕ) (s : SteeredClock) →
    let after = accounted_if does reading s in IsLeft false after.last_account after.steering.lag s
if-left true reading s = accounted-left reading s
if-left false reading s = same-left s s refl refl

pub requested-left : (reading : ℕ) (request : Timex) (s after : SteeredClock)
    (result : Result Reply Refusal) → IsRequested reading request s result after →
    IsLeft false after.last_account after.steering.lag s
requested-left reading request s after (Ok reply) h =
    let does = acts request.modes in
    let found = requested-lag reading request s does (changes_rate request.modes) in
    let left : ℕ → ℤ → Type 0 = λ at lag. IsLeft false at lag s in
    let lag : after.steering.lag ≡ (accounted_if does reading s).steering.lag =
    ap (λ (t : SteeredClock). t.steering.lag) h.2 ∙ found.1 in
    subst (λ (at : ℕ). left at after.steering.lag)
    (sym (ap (λ (t : SteeredClock). t.last_account) h.2 ∙ found.0))
    (subst (left (accounted_if does reading s).last_account) (sym lag) (if-left does reading s))
requested-left reading request s after (Err refusal) h = unmoved-left s after h.1

clamped_none : (most : ℕ) (short : ℤ) → clamped_by most (pos 0 +ℤ pos 0 *ℤ short) ≡ pos 0
clamped_none most short = rw (zero-*ℤ short) (omega (arith, ints, clamps))

if-none : (does : Bool) (reading : ℕ) (s : SteeredClock) → s.last_account ≡ reading →
    s.steering.lag ≡ pos 0 → (accounted_if does reading s).steering.lag ≡ pos 0
if-none true reading s last_account lag =
    let base = s.clock.base in
    let length = second_length s.steering.ntp in
    ap (λ (at : ℕ). lag_after base.counter length base.mult (gap base.counter at reading)
    s.steering.lag) last_account
    ∙ ap (λ (cycles : ℕ). lag_after base.counter length base.mult cycles s.steering.lag)
    (none_here base.counter reading)
    ∙ ap (lag_after base.counter length base.mult 0) lag
    ∙ clamped_none (greatest_lag base.counter) (short_of base.counter length base.mult)
if-none false reading s last_account lag = lag

requested-none : (reading : ℕ) (request : Timex) (s after : SteeredClock)
    (result : Result Reply Refusal) → IsRequested reading request s result after →
    s.last_account ≡ reading → s.steering.lag ≡ pos 0 → after.steering.lag ≡ pos 0
requested-none reading request s after (Ok reply) h last_account lag =
    let does = acts request.modes in
    ap (λ (t : SteeredClock). t.steering.lag) h.2
    ∙ (requested-lag reading request s does (changes_rate request.modes)).1
    ∙ if-none does reading s last_account lag
requested-none reading request s after (Err refusal) h last_account lag =
    ap (λ (t : SteeredClock). t.steering.lag) h.1 ∙ lag

step-left : (reading : ℕ) (request : Timex) (s s' after : SteeredClock)
    (refusal : Option Refusal) (result : Result Reply Refusal) →
    MatchOption refusal (IsRequested reading request s' result after)
    (λ r. (result ≡ Err r) × (after ≡ s)) →
    s'.last_account ≡ reading → s'.steering.lag ≡ pos 0 →
    IsLeft (is_none refusal) after.last_account after.steering.lag s
step-left reading request s s' after None result h last_account lag =
    requested-none reading request s' after result h last_account lag
step-left reading request s s' after (Some r) result h last_account lag = unmoved-left s after h.1

-- after a request, and the step that it may ask for
pub asked-left : (reading : ℕ) (request : Timex) (by : Option Timespec) (s after : SteeredClock)
    (result : Result Reply Refusal) →
    MatchOption (step_refusal reading by s)
    (IsRequested reading request (stepped reading by s) result after)
    (λ r. (result ≡ Err r) × (after ≡ s)) →
    IsLeft (sets_by_step reading by s) after.last_account after.steering.lag s
asked-left reading request None s after result h =
    requested-left reading request s after result h
asked-left reading request (Some by) s after result h =
    step-left reading request s (stepped reading (Some by) s) after
    (state_refusal s.clock reading (Step by)) result h refl refl
