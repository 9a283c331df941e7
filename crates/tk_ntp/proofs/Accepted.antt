-- What an accepted reading says of the clocks.
use Rattle.std.proofs.Common.{◌≡◌, refl, ℕ, ◌≤◌, Bool, true, false, not, ◌&&◌, Option, Some, None, arith}
use Rattle.std.specs.Prelude.{nat_lt, if◌then◌else◌}
use Rattle.std.proofs.lemmas.Grind.{common_steps}
use Rattle.tk_counter.specs.Counter.{Counter, gap, half}
use Rattle.tk_clock.specs.declared.command.Command.{Command}
use Rattle.tk_clock.specs.declared.command.Command.TheVariants.{Update, Resume}
use Rattle.tk_clock.specs.declared.refusal.Refusal.{Refusal}
use Rattle.tk_clock.specs.declared.refusal.Refusal.TheVariants.{Asleep, Awake, Behind}
use Rattle.tk_clock.specs.declared.timespec.Timespec.{Timespec}
use Rattle.tk_clock.specs.Command.{is_resume}
use Rattle.tk_clock.specs.Reach.{distance}
use Rattle.tk_clock.specs.Refusal.{first_of, sleep_refusal, number_refusal, order_refusal, early_refusal, state_value_refusal, state_refusal}
use Rattle.tk_clock.specs.State.{State}
use Rattle.tk_ntp.specs.SteeredClock.{SteeredClock, reading_refusal}

-- if neither of two refusals holds, the first one doesn't
pub first : (a b : Option Refusal) → first_of a b ≡ None → a ≡ None
first None b h = refl
first (Some refusal) b h = absurd (cc)

pub later : (a b : Option Refusal) → first_of a b ≡ None → b ≡ None
later None b h = h
later (Some refusal) b h = absurd (cc)

never : true ≡ false → ⊥
never h = cc

not_asleep : (asleep resumes : Bool) → resumes ≡ false →
    (if asleep && not resumes then Some Asleep
    else if not asleep && resumes then Some Awake
    else None)
    ≡ None →
    asleep ≡ false
not_asleep false resumes is h = refl
not_asleep true false is h = absurd (cc)
not_asleep true true is h = absurd (never is)

pub no_more : (most reading : ℕ) → nat_lt most reading ≡ false → reading ≤ most
no_more most reading h = grind (arith, common_steps)

not_behind : (resumes test : Bool) → resumes ≡ false →
    (if not resumes && test then Some Behind else None) ≡ None →
    test ≡ false
not_behind false false is h = refl
not_behind false true is h = absurd (cc)
not_behind true test is h = absurd (never is)

in_order : (counter : Counter) (last reading : ℕ) (cmd : Command) → is_resume cmd ≡ false →
    order_refusal counter last reading cmd ≡ None → gap counter last reading ≤ half counter
in_order counter last reading cmd is h =
    no_more (half counter) (gap counter last reading)
    (not_behind (is_resume cmd) (nat_lt (half counter) (gap counter last reading)) is h)

early : (clock : State) (reading : ℕ) (cmd : Command) → state_refusal clock reading cmd ≡ None →
    early_refusal clock.base.counter clock.base.asleep clock.base.last reading cmd ≡ None
early clock reading cmd h =
    first (early_refusal clock.base.counter clock.base.asleep clock.base.last reading cmd)
    (state_value_refusal clock reading cmd) h

-- clocks that accept a command other than a resume are awake
pub awake_before : (clock : State) (reading : ℕ) (cmd : Command) → is_resume cmd ≡ false →
    state_refusal clock reading cmd ≡ None → clock.base.asleep ≡ false
awake_before clock reading cmd is h =
    let base = clock.base in
    not_asleep base.asleep (is_resume cmd) is
    (first (sleep_refusal base.asleep cmd)
    (first_of (number_refusal base.counter reading cmd)
    (order_refusal base.counter base.last reading cmd)) (early clock reading cmd h))

-- and its reading is at most half the range after the last one
pub ahead_before : (clock : State) (reading : ℕ) (cmd : Command) → is_resume cmd ≡ false →
    state_refusal clock reading cmd ≡ None → distance clock.base reading ≤ half clock.base.counter
ahead_before clock reading cmd is h =
    let base = clock.base in
    in_order base.counter base.last reading cmd is
    (later (number_refusal base.counter reading cmd)
    (order_refusal base.counter base.last reading cmd)
    (later (sleep_refusal base.asleep cmd)
    (first_of (number_refusal base.counter reading cmd)
    (order_refusal base.counter base.last reading cmd)) (early clock reading cmd h)))

accepted : (reading : ℕ) (s : SteeredClock) → reading_refusal reading s ≡ None →
    state_refusal s.clock reading Update ≡ None
accepted reading s h =
    first (state_refusal s.clock reading Update)
    (order_refusal s.clock.base.counter s.last_account reading Update) h

-- the clocks are awake
pub awake_at : (reading : ℕ) (s : SteeredClock) → reading_refusal reading s ≡ None →
    s.clock.base.asleep ≡ false
awake_at reading s h = awake_before s.clock reading Update refl (accepted reading s h)

-- the reading is at most half the range after the last command
pub ahead_at : (reading : ℕ) (s : SteeredClock) → reading_refusal reading s ≡ None →
    distance s.clock.base reading ≤ half s.clock.base.counter
ahead_at reading s h = ahead_before s.clock reading Update refl (accepted reading s h)

-- the reading is at most half the range after the last account
pub after_mark : (reading : ℕ) (s : SteeredClock) → reading_refusal reading s ≡ None →
    gap s.clock.base.counter s.last_account reading ≤ half s.clock.base.counter
after_mark reading s h =
    in_order s.clock.base.counter s.last_account reading Update refl
    (later (state_refusal s.clock reading Update)
    (order_refusal s.clock.base.counter s.last_account reading Update) h)

was_asleep : (asleep : Bool) (away : Timespec) → sleep_refusal asleep (Resume away) ≡ None →
    asleep ≡ true
was_asleep true away h = refl
was_asleep false away h = absurd (cc)

-- clocks that a resume wakes were asleep
pub asleep_before : (clock : State) (reading : ℕ) (away : Timespec) →
    state_refusal clock reading (Resume away) ≡ None → clock.base.asleep ≡ true
asleep_before clock reading away h =
    let base = clock.base in
    was_asleep base.asleep away
    (first (sleep_refusal base.asleep (Resume away))
    (first_of (number_refusal base.counter reading (Resume away))
    (order_refusal base.counter base.last reading (Resume away)))
    (first (early_refusal base.counter base.asleep base.last reading (Resume away))
    (state_value_refusal clock reading (Resume away)) h))
