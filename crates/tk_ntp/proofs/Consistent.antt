-- Where the last account is, after each call.
use Rattle.std.proofs.Common.{◌≡◌, ◌∙◌, refl, sym, subst, ℕ, ◌≤◌, ◌⊎◌, inl, inr, Bool, true, false, not, ◌&&◌, Option, Some, None, MatchOption, nat_eq, arith}
use Rattle.std.specs.Prelude.{Result, Ok, Err, ⊤, IsTrue, ◌↔◌}
use Rattle.std.proofs.lemmas.Bool.{eq-eqb, eqb-true}
use Rattle.std.proofs.lemmas.Grind.{common_steps}
use Rattle.tk_counter.specs.Counter.{gap, half}
use Rattle.tk_clock.specs.declared.command.Command.{Command}
use Rattle.tk_clock.specs.declared.command.Command.TheVariants.{Update, SetTime, Step, Freq, Tick, Tai, Leap, Suspend, Resume}
use Rattle.tk_clock.specs.declared.refusal.Refusal.{Refusal}
use Rattle.tk_clock.specs.declared.timespec.Timespec.{Timespec}
use Rattle.tk_clock.specs.Reach.{distance}
use Rattle.tk_clock.specs.State.{State, effect}
use Rattle.tk_ntp.specs.declared.reply.Reply.{Reply}
use Rattle.tk_ntp.specs.declared.timex.Timex.{Timex}
use Rattle.tk_ntp.specs.Account.{IsConsistent}
use Rattle.tk_ntp.specs.Advance.{IsAdvanced, IsNoneDue, second_begun_at, tai_of_clock}
use Rattle.tk_ntp.specs.Applied.{IsPlain}
use Rattle.tk_ntp.specs.Asked.{accounted_if, acts, after_command, changes_rate, forgotten, given_tai, IsAsked, IsCommanded, IsRequested, real_at, restarted, second_after, steered_if, step_refusal, stepped, tai_asked, with_asked}
use Rattle.tk_ntp.specs.Bits.{has, adj_adjtime}
use Rattle.tk_ntp.specs.Request.{step_of}
use Rattle.tk_ntp.specs.Steering.{commands}
use Rattle.tk_ntp.specs.SteeredClock.{SteeredClock, rate_in_force, reading_refusal, steered_at}
use Rattle.tk_ntp.proofs.Accepted.{ahead_at, awake_at}
use Rattle.tk_ntp.proofs.Account.{awake-after, IsNearer, consistent-after, never, order}
use Rattle.tk_ntp.proofs.Made.{IsMade, at_reading, change-made, joined, none_here, tai-made}
use Rattle.tk_ntp.proofs.Often.{none_left}
use Rattle.tk_ntp.proofs.Passed.{still_ahead}

-- the last account is at the last command
pub consistent_at_last : (s : SteeredClock) → s.last_account ≡ s.clock.base.last → IsConsistent s
consistent_at_last s e =
    let base = s.clock.base in
    record {
      ahead =
          subst (λ (last_account : ℕ). gap base.counter base.last last_account ≤ half base.counter) (sym e)
          (rw (none_here base.counter base.last) (omega arith));
      asleep = λ _. e;
      nearer = λ other ahead reached.
          subst (λ (last_account : ℕ). gap base.counter base.last last_account ≤ gap base.counter base.last other)
          (sym e) (rw (none_here base.counter base.last) (omega arith));
    }

-- clocks that sleep have it at their last command
pub consistent_asleep : (s : SteeredClock) (test : Bool) → s.clock.base.asleep ≡ true →
    test ≡ nat_eq s.last_account s.clock.base.last → IsTrue test ↔ IsConsistent s
consistent_asleep s test asleep is = (
  λ h. consistent_at_last s (eqb-true s.last_account s.clock.base.last (sym is ∙ h)),
  λ h. is ∙ eq-eqb s.last_account s.clock.base.last (h.asleep asleep),
)

-- with the last account at a reading
abbrev pub at_mark : ℕ → SteeredClock → SteeredClock
at_mark reading s = record s { last_account = reading }

-- no second is due up to a reading
pub none_nearer : (reading : ℕ) (s : SteeredClock) → IsNoneDue s reading → IsNearer (at_mark reading s)
none_nearer reading s none other ahead reached =
    let base = s.clock.base in
    elim (order (distance base other) (distance base reading)) as
    (λ _. distance base reading ≤ distance base other) [
      | inl less ↦ absurd (none other ahead (omega (arith, less)) reached)
      | inr no_less ↦ no_less
    ]

pub none_before : (reading : ℕ) (s : SteeredClock) → IsNoneDue s reading →
    distance s.clock.base reading ≤ half s.clock.base.counter → s.clock.base.asleep ≡ false →
    IsConsistent (at_mark reading s)
none_before reading s none ahead awake = record {
  ahead = ahead;
  asleep = λ is. absurd (never (sym is ∙ awake));
  nearer = none_nearer reading s none;
}

-- commands at the account's reading
pub consistent_made : (reading : ℕ) (s0 s : SteeredClock) → s.last_account ≡ reading → s.next ≡ s0.next →
    IsMade reading s0.clock s.clock → IsConsistent (at_mark reading s0) → IsConsistent s
consistent_made reading s0 s last_account next made consistent =
    elim made.same as (λ _. IsConsistent s) [
      | inl e ↦
          let goal : State → ℕ → ℕ → Type 0 = λ clock sec m.
          IsConsistent (record s { clock = clock; next = sec; last_account = m }) in
          let there : goal s0.clock s0.next reading =
          record { ahead = consistent.ahead; asleep = consistent.asleep; nearer = consistent.nearer } in
          subst (λ (clock : State). goal clock s.next s.last_account) (sym e)
          (subst (λ (sec : ℕ). goal s0.clock sec s.last_account) (sym next)
          (subst (λ (m : ℕ). goal s0.clock s0.next m) (sym last_account) there))
      | inr e ↦ consistent_at_last s (last_account ∙ sym e)
    ]

pub steered-made : (reading : ℕ) (s : SteeredClock) →
    IsMade reading s.clock (steered_at reading s).clock
steered-made reading s =
    change-made reading (commands s.clock.base.counter (rate_in_force s.clock) s.steering) s.clock

pub restarted-last : (reading : ℕ) (clock : State) (s : SteeredClock) → clock.base.last ≡ reading →
    (restarted reading clock s).clock.base.last ≡ reading
restarted-last reading clock s is =
    let begun : SteeredClock =
    record s { clock = clock; next = second_after clock; last_account = reading } in
    at_reading reading clock (steered_at reading begun).clock is (steered-made reading begun)

restarted-consistent : (reading : ℕ) (clock : State) (s : SteeredClock) → clock.base.last ≡ reading →
    IsConsistent (restarted reading clock s)
restarted-consistent reading clock s is =
    consistent_at_last (restarted reading clock s) (sym (restarted-last reading clock s is))

command-consistent : (reading : ℕ) (cmd : Command) (s : SteeredClock) →
    IsConsistent (after_command reading cmd (effect s.clock reading cmd) s)
command-consistent reading Update s =
    consistent_at_last (after_command reading Update (effect s.clock reading Update) s) refl
command-consistent reading (SetTime time) s =
    restarted-consistent reading (effect s.clock reading (SetTime time)) (forgotten s) refl
command-consistent reading (Step by) s =
    restarted-consistent reading (effect s.clock reading (Step by)) (forgotten s) refl
command-consistent reading (Leap by tai) s =
    restarted-consistent reading (effect s.clock reading (Leap by tai)) (forgotten s) refl
command-consistent reading (Freq frequency) s =
    consistent_at_last
    (after_command reading (Freq frequency) (effect s.clock reading (Freq frequency)) s) refl
command-consistent reading (Tick tick) s =
    consistent_at_last (after_command reading (Tick tick) (effect s.clock reading (Tick tick)) s) refl
command-consistent reading (Tai seconds) s =
    consistent_at_last (after_command reading (Tai seconds) (effect s.clock reading (Tai seconds)) s) refl
command-consistent reading Suspend s =
    consistent_at_last (after_command reading Suspend (effect s.clock reading Suspend) s) refl
command-consistent reading (Resume away) s =
    restarted-consistent reading (effect s.clock reading (Resume away)) s refl

commanded-consistent : (reading : ℕ) (cmd : Command) (s after : SteeredClock)
    (result : Result ⊤ Refusal) → IsCommanded reading cmd s result after → IsConsistent s →
    IsConsistent after
commanded-consistent reading cmd s after (Ok done) h consistent =
    subst IsConsistent (sym h.1) (command-consistent reading cmd s)
commanded-consistent reading cmd s after (Err refusal) h consistent = subst IsConsistent (sym h.1) consistent

-- what a request without effect on the discipline leaves
either : (a b : Bool) → (not a && not b) ≡ false → (a ≡ true) ⊎ (b ≡ true)
either true b h = inl refl
either false true h = inr refl
either false false h = absurd (cc)

no_bits : (a : Bool) → (a && false) ≡ false
no_bits true = refl
no_bits false = refl

is_zero : (n : ℕ) → nat_eq n 0 ≡ true → n ≡ 0
is_zero n h = grind (arith, common_steps)

same_number : (n : ℕ) → nat_eq n n ≡ true
same_number n = grind (arith, common_steps)

pub record IsIdle (reading : ℕ) (request : Timex) (s : SteeredClock) : Type 0 where
  pub rate : changes_rate request.modes ≡ false
  pub clock : given_tai reading (tai_asked request s) s.clock ≡ s.clock

same_tai : (reading tai : ℕ) (clock : State) → tai ≡ tai_of_clock clock →
    given_tai reading tai clock ≡ clock
same_tai reading tai clock is = rw (is, same_number (tai_of_clock clock)) refl

pub idle : (reading : ℕ) (request : Timex) (s : SteeredClock) → acts request.modes ≡ false →
    IsIdle reading request s
idle reading request s h =
    elim (either (nat_eq request.modes 0) (has request.modes adj_adjtime) h) as
    (λ _. IsIdle reading request s) [
      | inl none ↦
          let zero : request.modes ≡ 0 = is_zero request.modes none in
          record {
            rate = rw zero refl;
            clock = same_tai reading (tai_asked request s) s.clock (rw zero refl);
          }
      | inr old ↦ record {
        rate = rw old (no_bits (has request.modes 0x4003));
        clock = same_tai reading (tai_asked request s) s.clock (rw old refl);
      }
    ]

request-consistent : (reading : ℕ) (request : Timex) (real : Timespec) (s : SteeredClock)
    (clock : State) (does changes : Bool) →
    (does ≡ false → (changes ≡ false) × (clock ≡ s.clock)) → IsMade reading s.clock clock →
    IsConsistent s → IsConsistent (at_mark reading s) →
    IsConsistent (steered_if changes reading
    (with_asked request real (accounted_if does reading (record s { clock = clock }))))
request-consistent reading request real s clock true true rest made consistent before =
    let asked = with_asked request real (accounted_if true reading (record s { clock = clock })) in
    consistent_made reading s (steered_at reading asked) refl refl
    (joined reading s.clock clock (steered_at reading asked).clock made (steered-made reading asked))
    before
request-consistent reading request real s clock true false rest made consistent before =
    consistent_made reading s
    (with_asked request real (accounted_if true reading (record s { clock = clock }))) refl refl made
    before
request-consistent reading request real s clock false true rest made consistent before =
    absurd (never (rest refl).0)
request-consistent reading request real s clock false false rest made consistent before =
    subst (λ (c : State). IsConsistent (with_asked request real (record s { clock = c })))
    (sym (rest refl).1)
    (record { ahead = consistent.ahead; asleep = consistent.asleep; nearer = consistent.nearer })

requested-consistent : (reading : ℕ) (request : Timex) (s after : SteeredClock)
    (result : Result Reply Refusal) → IsRequested reading request s result after → IsConsistent s →
    IsConsistent (at_mark reading s) → IsConsistent after
requested-consistent reading request s after (Ok reply) h consistent before =
    let tai = tai_asked request s in
    let rest : acts request.modes ≡ false →
    (changes_rate request.modes ≡ false) × (given_tai reading tai s.clock ≡ s.clock) =
    λ is. let found = idle reading request s is in (found.rate, found.clock) in
    subst IsConsistent (sym h.2)
    (request-consistent reading request (real_at reading s.clock) s (given_tai reading tai s.clock)
    (acts request.modes) (changes_rate request.modes) rest (tai-made reading tai s.clock) consistent
    before)
requested-consistent reading request s after (Err refusal) h consistent before =
    subst IsConsistent (sym h.1) consistent

step-consistent : (reading : ℕ) (by : Option Timespec) (s : SteeredClock) → IsConsistent s →
    IsConsistent (at_mark reading s) →
    IsConsistent (stepped reading by s) × IsConsistent (at_mark reading (stepped reading by s))
step-consistent reading None s consistent before = (consistent, before)
step-consistent reading (Some by) s consistent before =
    let clock = effect s.clock reading (Step by) in
    let after = restarted reading clock (forgotten s) in (
      restarted-consistent reading clock (forgotten s) refl,
      consistent_at_last (at_mark reading after) (sym (restarted-last reading clock (forgotten s) refl)),
    )

asked-consistent : (reading : ℕ) (request : Timex) (s s' after : SteeredClock)
    (refusal : Option Refusal) (result : Result Reply Refusal) →
    MatchOption refusal (IsRequested reading request s' result after)
    (λ r. (result ≡ Err r) × (after ≡ s)) →
    IsConsistent s → IsConsistent s' → IsConsistent (at_mark reading s') → IsConsistent after
asked-consistent reading request s s' after None result h consistent then_consistent before =
    requested-consistent reading request s' after result h then_consistent before
asked-consistent reading request s s' after (Some r) result h consistent then_consistent before =
    subst IsConsistent (sym h.1) consistent

-- after a request, for which seconds began first
pub asked_after : (reading : ℕ) (request : Timex) (s advanced after : SteeredClock)
    (result : Result Reply Refusal) → reading_refusal reading s ≡ None →
    IsAdvanced reading s advanced → IsAsked reading request advanced result after → IsConsistent s →
    IsConsistent after
asked_after reading request s advanced after result accepted chain h consistent =
    let awake = awake_at reading s accepted in
    let there = consistent-after reading s advanced chain consistent awake in
    let before =
    none_before reading advanced (none_left second_begun_at reading s advanced chain)
    (still_ahead reading s advanced chain (ahead_at reading s accepted))
    (awake-after reading s advanced chain awake) in
    let steps = step-consistent reading (step_of request) advanced there before in
    asked-consistent reading request advanced (stepped reading (step_of request) advanced) after
    (step_refusal reading (step_of request) advanced) result h there steps.0 steps.1

followed-by : (reading : ℕ) (cmd : Command) (s after : SteeredClock) (refusal : Option Refusal)
    (result : Result ⊤ Refusal) → reading_refusal reading s ≡ refusal →
    MatchOption refusal
    ((advanced : SteeredClock) × IsAdvanced reading s advanced
    × IsCommanded reading cmd advanced result after)
    (λ r. (result ≡ Err r) × (after ≡ s)) →
    IsConsistent s → IsConsistent after
followed-by reading cmd s after None result is h consistent =
    commanded-consistent reading cmd h.0 after result h.2
    (consistent-after reading s h.0 h.1 consistent (awake_at reading s is))
followed-by reading cmd s after (Some r) result is h consistent = subst IsConsistent (sym h.1) consistent

-- after a command that is no request
pub plain-consistent : (resumes : Bool) (reading : ℕ) (cmd : Command) (s after : SteeredClock)
    (result : Result ⊤ Refusal) → IsPlain resumes reading cmd s result after → IsConsistent s →
    IsConsistent after
plain-consistent true reading cmd s after result h consistent =
    commanded-consistent reading cmd s after result h consistent
plain-consistent false reading cmd s after result h consistent =
    followed-by reading cmd s after (reading_refusal reading s) result refl h consistent
