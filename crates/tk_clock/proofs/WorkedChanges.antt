-- Worked changes of counter: the definitions compute the values of an independent model with wide
-- integers.
use Rattle.std.proofs.Common.{◌≡◌, ℕ, ◌*◌, ◌^◌, List, [], ◌∷◌, refl}
use Rattle.std.specs.Prelude.{pos, neg_ℤ, Some, None}
use Rattle.tk_counter.specs.Counter.{Counter}
use Rattle.tk_clock.specs.declared.command.Entry.{Entry}
use Rattle.tk_clock.specs.declared.command.Command.{Command}
use Rattle.tk_clock.specs.declared.command.Command.TheVariants.{Freq, Tick, Suspend}
use Rattle.tk_clock.specs.declared.refusal.Refusal.TheVariants.{Invalid, Behind, Range}
use Rattle.tk_clock.specs.Journal.{opened}
use Rattle.tk_clock.specs.State.{State, state_of}
use Rattle.tk_clock.specs.Limits.{is_well_formed, is_past_limit, is_bad_setting}
use Rattle.tk_clock.specs.ChangeCounter.{changed, change_refusal}

-- a counter of one nanosecond a cycle, and one of about 0.698 nanoseconds with a greater shift
abbrev nanosecond_counter : Counter
nanosecond_counter = record { bits = 32; mult = 16777216; shift = 24 }

abbrev fine_counter : Counter
fine_counter = record { bits = 64; mult = 3000000000; shift = 32 }

abbrev at : ℕ → Command → Entry
at reading cmd = record { who = 0; reading = reading; cmd = cmd }

-- the state after these commands, at 1,700,000,000 seconds since 1970 at reading 0
abbrev after : List Entry → State
after entries =
    state_of (record (opened nanosecond_counter 0 (record { sec = pos 1700000000; nsec = 0 })) {
      entries = entries;
    })

-- to the greater shift, which is exact, and back
abbrev finer : State
finer = changed (after (at 0 (Freq (pos 32768000)) ∷ [])) 1000000007 fine_counter 5

finer-values : (finer.base.amount ≡ 4297114654079802368) × (finer.base.raw_amount ≡ 4294967326064771072)
    × (finer.base.mult ≡ 3001500000) × (finer.base.last ≡ 5)
finer-values = (refl, refl, refl, refl)

abbrev back : State
back = changed finer 1000005 nanosecond_counter 4294967295

back-values : (back.base.amount ≡ 16797328726874228) × (back.base.raw_amount ≡ 16788934867440512)
    × (back.base.mult ≡ 16785604)
back-values = (refl, refl, refl)

-- asleep, no cycle is counted up to the change, and the reading may be behind
abbrev asleep : State
asleep = after (at 1000 Suspend ∷ [])

asleep-change : (change_refusal asleep 5 fine_counter 77 ≡ None)
    × ((changed asleep 5 fine_counter 77).base.amount ≡ 1000 * 2 ^ 32)
asleep-change = (refl, refl)

-- MONOTONIC_RAW is further ahead than the slowest rate of the other counter allows
abbrev slowed : State
slowed = after (at 0 (Freq (neg_ℤ (pos 32768000))) ∷ at 0 (Tick (pos 9000)) ∷ [])

refused-raw : change_refusal slowed 1000 (record { bits = 64; mult = 1000000000; shift = 30 }) 0
    ≡ Some Range
unfolding is_well_formed is_past_limit is_bad_setting
refused-raw = refl

accepted-raw : change_refusal slowed 1000 (record { bits = 64; mult = 259; shift = 0 }) 0 ≡ None
unfolding is_well_formed is_past_limit is_bad_setting
accepted-raw = refl

-- the first test that fails
refused-first : change_refusal slowed 2147483648 (record { bits = 8; mult = 256; shift = 0 }) 256
    ≡ Some Invalid
refused-first = refl

refused-behind : change_refusal slowed 2147483648 (record { bits = 8; mult = 256; shift = 0 }) 255
    ≡ Some Behind
unfolding is_well_formed is_past_limit is_bad_setting
refused-behind = refl
