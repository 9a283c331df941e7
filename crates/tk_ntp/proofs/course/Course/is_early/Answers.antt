use Rattle.std.proofs.Common.{◌≡◌, ◌∙◌, ap, refl, sym, subst, ℕ, ◌<◌, ◌≤◌, ◌*◌, ◌^◌, arith}
use Rattle.std.specs.Prelude.{nat_lt, Bool, true, false, ◌↔◌, IsTrue, Result, Ok, Err}
use Rattle.std.proofs.lemmas.Grind.{common_steps}
use Rattle.tk_clock.specs.declared.clock_id.ClockId.TheVariants.{Realtime}
use Rattle.tk_clock.specs.declared.refusal.ReadError.{ReadError}
use Rattle.tk_clock.specs.Read.{read_of}
use Rattle.tk_clock.specs.Reach.{distance}
use Rattle.tk_clock.specs.Snapshot.{Snapshot}
use Rattle.tk_counter.specs.Counter.{Counter, gap, half}
use Rattle.tk_ntp.specs.Course.{Course, seen}
use Rattle.tk_ntp.specs.Staged.{IsEarly}
use Rattle.tk_ntp.specs.SteeredClock.{SteeredClock}
use Rattle.tk_ntp.proofs.Due.{none_due}
use Rattle.tk_ntp.proofs.course.Course.is_early.Goals as goal

never : false ≡ true → ⊥
never h = cc

not_more : (most n : ℕ) → (most < n → ⊥) → n ≤ most
not_more most n h = grind (arith, h)

less : (a b : ℕ) → nat_lt a b ≡ true → a < b
less a b h = grind (arith, common_steps)

is_less : (a b : ℕ) → a < b → nat_lt a b ≡ true
is_less a b h = grind (arith, common_steps)

-- a gap of the clocks' counter, and half its range, by other names of the counter
gap_is : (counter other : Counter) (last from reading cycles : ℕ) → other ≡ counter →
    from ≡ last → cycles ≡ gap other from reading → cycles ≡ gap counter last reading
gap_is counter other last from reading cycles is is' counted =
    counted ∙ ap (λ (c : Counter). gap c from reading) is ∙ ap (λ l. gap counter l reading) is'

at_most : (most most' n n' : ℕ) → most ≡ most' → n ≡ n' → n ≤ most → n' ≤ most'
at_most most most' n n' e f h = omega (arith, e, f, h)

too_far : (most most' n n' : ℕ) → most ≡ most' → n ≡ n' → most < n → n' ≤ most' → ⊥
too_far most most' n n' e f h k = absurd (omega (arith, e, f, h, k))

same : (a b : ℕ) (read : Result ℕ ReadError) → read ≡ Ok a → read ≡ Ok b → a ≡ b
same a b read h k = cc (sym h ∙ k)

refused : (a : ℕ) (error : ReadError) (read : Result ℕ ReadError) → read ≡ Ok a →
    read ≡ Err error → ⊥
refused a error read h k = cc (sym h ∙ k)

awake-asleep : (asleep other : Bool) → other ≡ asleep → asleep ≡ false → other ≡ true → ⊥
awake-asleep asleep other e awake sleeps = cc (sym awake ∙ sym e ∙ sleeps)

-- a read ahead
read-early : (steered : SteeredClock) (reading nanos : ℕ) →
    steered.clock.base.asleep ≡ false →
    distance steered.clock.base reading ≤ half steered.clock.base.counter →
    read_of steered.clock.base Realtime reading ≡ Ok nanos →
    IsTrue (nat_lt nanos (steered.next * 10 ^ 9)) ↔ IsEarly steered reading
read-early steered reading nanos awake ahead read = (
  λ test. record {
    awake = awake;
    ahead = ahead;
    read = (nanos, read, less nanos (steered.next * 10 ^ 9) test);
  },
  λ early. is_less nanos (steered.next * 10 ^ 9)
      (subst (λ n. n < steered.next * 10 ^ 9) (same early.read.0 nanos _ early.read.1 read)
      early.read.2),
)

pub returns-then-asleep-clause-exact : goal.returns-then-asleep-clause-exact
returns-then-asleep-clause-exact c = (
  λ h. absurd (never h),
  λ early. absurd
      (awake-asleep _ _ (ap (λ (s : Snapshot). s.base.asleep) c.snapshot-now.ensures) early.awake
      (sym c.asleep.ensures ∙ c.if-asleep.true)),
)

pub returns-then-is_behind-clause-exact : goal.returns-then-is_behind-clause-exact
returns-then-is_behind-clause-exact c =
    let base = c.args.clock.now.base in
    let counter = ap (λ (s : Snapshot). s.base.counter) c.snapshot-now.ensures in (
      λ h. absurd (never h),
      λ early. absurd
          (too_far (half c.desc.result) (half base.counter) c.gap.result
          (distance base c.args.reading) (ap half (c.desc.ensures ∙ counter))
          (gap_is base.counter c.desc-2.result base.last c.last.result c.args.reading c.gap.result
          (c.desc-2.ensures ∙ counter)
          (c.last.ensures ∙ ap (λ (s : Snapshot). s.base.last) c.snapshot-now.ensures)
          c.gap.ensures.value) (c.if-is_behind.ensures.0 refl) early.ahead),
    )

pub returns-in-Ok-clause-exact : goal.returns-in-Ok-clause-exact
returns-in-Ok-clause-exact c =
    let base = c.args.clock.now.base in
    let now = c.snapshot-now.ensures in
    let counter = ap (λ (s : Snapshot). s.base.counter) now in
    subst (λ (a : Course). IsTrue (nat_lt c.in-Ok.nanos (a.next * 1000000000))
    ↔ IsEarly (seen c.args.clock.now c.args.self.now) c.args.reading) (sym c.self.view_is)
    (read-early (seen c.args.clock.now c.args.self.now) c.args.reading c.in-Ok.nanos
    (sym (ap (λ (s : Snapshot). s.base.asleep) now) ∙ sym c.asleep.ensures ∙ c.if-asleep.false)
    (at_most (half c.desc.result) (half base.counter) c.gap.result (distance base c.args.reading)
    (ap half (c.desc.ensures ∙ counter))
    (gap_is base.counter c.desc-2.result base.last c.last.result c.args.reading c.gap.result
    (c.desc-2.ensures ∙ counter) (c.last.ensures ∙ ap (λ (s : Snapshot). s.base.last) now)
    c.gap.ensures.value)
    (not_more (half c.desc.result) c.gap.result
    (λ more. never (c.if-is_behind.ensures.1 more))))
    (sym (c.nanos.ensures ∙ ap (λ (s : Snapshot). read_of s.base Realtime c.args.reading) now)
    ∙ c.in-Ok.is))

pub returns-in-Ok-clause-none : goal.returns-in-Ok-clause-none
returns-in-Ok-clause-none c = λ test.
    none_due (seen c.args.clock.now c.args.self.now) c.args.reading ((returns-in-Ok-clause-exact c).0 test)

pub returns-in-Err-clause-exact : goal.returns-in-Err-clause-exact
returns-in-Err-clause-exact c = (
  λ h. absurd (never h),
  λ early. absurd
      (refused early.read.0 c.in-Err.field-0 _ early.read.1
      (sym (c.nanos.ensures
      ∙ ap (λ (s : Snapshot). read_of s.base Realtime c.args.reading) c.snapshot-now.ensures)
      ∙ c.in-Err.is)),
)
