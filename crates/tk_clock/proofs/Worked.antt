-- Worked journals: the definitions compute the values that were worked out manually.
use Rattle.std.proofs.Common.{◌≡◌, ℕ, ◌-◌, List, [], ◌∷◌, refl, false}
use Rattle.std.specs.Prelude.{ℤ, pos, negsuc, neg_ℤ, Some, None}
use Rattle.tk_counter.specs.Counter.{Counter}
use Rattle.tk_clock.specs.declared.timespec.Timespec.{Timespec}
use Rattle.tk_clock.specs.declared.command.Entry.{Entry}
use Rattle.tk_clock.specs.declared.command.Command.{Command}
use Rattle.tk_clock.specs.declared.command.Command.TheVariants.{Update, SetTime, Step, Freq, Tick, Tai, Leap, Suspend, Resume}
use Rattle.tk_clock.specs.declared.clock_id.ClockId.TheVariants.{Realtime, Monotonic, Boottime, Tai as TaiClock, MonotonicCoarse, MonotonicRaw}
use Rattle.tk_clock.specs.declared.refusal.Refusal.TheVariants.{Asleep, Awake, Invalid, Behind, Range}
use Rattle.tk_clock.specs.declared.refusal.ReadError.TheVariants.{Invalid as InvalidReading, Range as PastLimit}
use Rattle.tk_clock.specs.Journal.{Journal, opened}
use Rattle.tk_clock.specs.Monotonic.{monotonic}
use Rattle.tk_clock.specs.Clocks.{clock_value}
use Rattle.tk_clock.specs.State.{base_of, state_of}
use Rattle.tk_clock.specs.Limits.{settable_end, clock_end, monotonic_end, is_settable, is_suspension, is_well_formed, is_past_limit, is_bad_setting}
use Rattle.tk_clock.specs.Refusal.{first_refusal, read_refusal, opening_refusal}

-- a counter of one nanosecond a cycle, with 32-bit readings
abbrev nanosecond_counter : Counter
nanosecond_counter = record { bits = 32; mult = 16777216; shift = 24 }

-- a slow counter of 4,194,304 nanoseconds a cycle, with 64-bit readings
abbrev wide_counter : Counter
wide_counter = record { bits = 64; mult = 4194304; shift = 0 }

abbrev time : ℤ → ℕ → Timespec
time sec nsec = record { sec = sec; nsec = nsec }

abbrev at : ℕ → Command → Entry
at reading cmd = record { who = 0; reading = reading; cmd = cmd }

-- opened at reading 0, at 1,700,000,000 seconds since 1970
abbrev journal_of : List Entry → Journal
journal_of entries = record (opened nanosecond_counter 0 (time (pos 1700000000) 0)) {
  entries = entries;
}

abbrev wide_journal : List Entry → Journal
wide_journal entries = record (opened wide_counter 0 (time (pos 1700000000) 0)) {
  entries = entries;
}

-- the end of the settable times is the end of the clocks minus the end of MONOTONIC
settable_until : settable_end ≡ clock_end - monotonic_end
settable_until = refl

opens : opening_refusal nanosecond_counter 0 (time (pos 1700000000) 0) ≡ None
unfolding is_settable
opens = refl

-- a gap of exactly half the mask leads forward, and one more leads back

longest_gap : first_refusal (journal_of []) (at 2147483647 Update) ≡ None
unfolding is_well_formed is_past_limit is_bad_setting
longest_gap = refl

longest_gap-monotonic : monotonic (journal_of (at 2147483647 Update ∷ [])) 2147483647 ≡ 2147483647
longest_gap-monotonic = refl

longest_gap-after : monotonic (journal_of (at 2147483647 Update ∷ [])) 2147483648 ≡ 2147483648
longest_gap-after = refl

longest_gap-back : first_refusal (journal_of (at 2147483647 Update ∷ [])) (at 0 Update)
    ≡ Some Behind
unfolding is_well_formed is_past_limit is_bad_setting
longest_gap-back = refl

longer_gap : first_refusal (journal_of []) (at 2147483648 Update) ≡ Some Behind
unfolding is_well_formed is_past_limit is_bad_setting
longer_gap = refl

longer_gap-monotonic : monotonic (journal_of []) 2147483648 ≡ 0
longer_gap-monotonic = refl

-- the counter wraps between the opening and the update

abbrev near_wrap : Journal
near_wrap = opened nanosecond_counter 4294967290 (time (pos 1700000000) 0)

wraps : first_refusal near_wrap (at 10 Update) ≡ None
unfolding is_well_formed is_past_limit is_bad_setting
wraps = refl

wraps-monotonic : monotonic (record near_wrap { entries = at 10 Update ∷ [] }) 10 ≡ 16
wraps-monotonic = refl

-- a read behind the last command returns the value at that command; a coarse clock always has that
-- value

stands-behind : monotonic (journal_of (at 100 Update ∷ [])) 99 ≡ 100
stands-behind = refl

stands-coarse : clock_value (journal_of (at 100 Update ∷ [])) MonotonicCoarse 150 ≡ pos 100
stands-coarse = refl

-- MONOTONIC stays below its limit

past_limit-read : read_refusal (base_of (wide_journal [])) Monotonic 9223372036854775807
    ≡ Some PastLimit
past_limit-read = refl

past_limit-far : first_refusal (wide_journal []) (at 9223372036854775807 Update) ≡ Some Range
unfolding is_well_formed is_past_limit is_bad_setting
past_limit-far = refl

past_limit : first_refusal (wide_journal []) (at 225563049317 Update) ≡ Some Range
unfolding is_well_formed is_past_limit is_bad_setting
past_limit = refl

below_limit : first_refusal (wide_journal []) (at 225563049316 Update) ≡ None
unfolding is_well_formed is_past_limit is_bad_setting
below_limit = refl

below_limit-monotonic : monotonic (wide_journal (at 225563049316 Update ∷ [])) 225563049316
    ≡ 946079999998296064
below_limit-monotonic = refl

above_mask : read_refusal (base_of (journal_of [])) Monotonic 4294967296 ≡ Some InvalidReading
above_mask = refl

-- a frequency takes effect at its reading, is clamped, and keeps the units below a nanosecond

abbrev faster : Journal
faster = journal_of (at 0 (Freq (pos 65536000)) ∷ [])

faster-values : ((base_of faster).mult ≡ 16785604) × (monotonic faster 1000000000 ≡ 1000499963)
faster-values = (refl, refl)

abbrev slower : Journal
slower = journal_of (at 0 (Freq (pos 65536000)) ∷ at 1000000000 (Freq (neg_ℤ (pos 32768000))) ∷ [])

slower-values : ((base_of slower).mult ≡ 16768827) × (monotonic slower 1000000000 ≡ 1000499963)
    × (monotonic slower 1000000001 ≡ 1000499964)
slower-values = (refl, refl, refl)

-- a snapshot that is used beyond its life may return more than a later one

beyond_life : monotonic (journal_of (at 0 (Freq (pos 32768000)) ∷ [])) 1000000000 ≡ 1000499963
beyond_life = refl

within_life : monotonic (journal_of (at 0 (Freq (pos 32768000))
    ∷ at 1000 (Freq (neg_ℤ (pos 32768000))) ∷ [])) 1000000000 ≡ 999499977
within_life = refl

-- REALTIME is set and stepped

set-real : clock_value (journal_of (at 2000000000 (SetTime (time (pos 2) 0)) ∷ [])) Realtime
    2000000000 ≡ pos 2000000000
set-real = refl

set-below : first_refusal (journal_of (at 2000000000 (SetTime (time (pos 2) 0)) ∷ []))
    (at 2000000000 (SetTime (time (pos 1) 999999999))) ≡ Some Invalid
unfolding is_settable is_well_formed is_past_limit is_bad_setting
set-below = refl

stepped-real : clock_value (journal_of (at 0 (Step (time (negsuc 0) 999999999)) ∷ [])) Realtime 0
    ≡ pos 1699999999999999999
stepped-real = refl

stated_tai : clock_value (journal_of (at 0 (Tai (pos 37)) ∷ [])) TaiClock 0 ≡ pos 1700000037000000000
stated_tai = refl

too_far-tai : first_refusal (journal_of []) (at 0 (Tai (pos 100001))) ≡ Some Invalid
unfolding is_well_formed is_past_limit is_bad_setting
too_far-tai = refl

negative-tai : first_refusal (journal_of []) (at 0 (Tai (negsuc 0))) ≡ Some Invalid
unfolding is_well_formed is_past_limit is_bad_setting
negative-tai = refl

-- a leap second moves REALTIME and the TAI offset at once: TAI is the same before it and after it

abbrev before_leap : Journal
before_leap = journal_of (at 0 (Tai (pos 37)) ∷ [])

before_leap-values : (clock_value before_leap Realtime 1000 ≡ pos 1700000000000001000)
    × (clock_value before_leap TaiClock 1000 ≡ pos 1700000037000001000)
before_leap-values = (refl, refl)

abbrev inserted : Journal
inserted = journal_of (at 0 (Tai (pos 37)) ∷ at 1000 (Leap (negsuc 0) (pos 38)) ∷ [])

inserted-accepted : first_refusal before_leap (at 1000 (Leap (negsuc 0) (pos 38))) ≡ None
unfolding is_well_formed is_past_limit is_bad_setting
inserted-accepted = refl

inserted-values : (clock_value inserted Monotonic 1000 ≡ pos 1000)
    × (clock_value inserted Realtime 1000 ≡ pos 1699999999000001000)
    × (clock_value inserted TaiClock 1000 ≡ pos 1700000037000001000)
inserted-values = (refl, refl, refl)

abbrev deleted : Journal
deleted = journal_of (at 0 (Tai (pos 37)) ∷ at 1000 (Leap (pos 1) (pos 36)) ∷ [])

deleted-values : (clock_value deleted Monotonic 1000 ≡ pos 1000)
    × (clock_value deleted Realtime 1000 ≡ pos 1700000001000001000)
    × (clock_value deleted TaiClock 1000 ≡ pos 1700000037000001000)
deleted-values = (refl, refl, refl)

-- it is a single second, and its TAI offset is in the range of Tai

leap_of_nothing : first_refusal before_leap (at 1000 (Leap (pos 0) (pos 37))) ≡ Some Invalid
unfolding is_well_formed is_past_limit is_bad_setting
leap_of_nothing = refl

leap_of_two : first_refusal before_leap (at 1000 (Leap (negsuc 1) (pos 39))) ≡ Some Invalid
unfolding is_well_formed is_past_limit is_bad_setting
leap_of_two = refl

leap_past_tai : first_refusal before_leap (at 1000 (Leap (negsuc 0) (pos 100001))) ≡ Some Invalid
unfolding is_well_formed is_past_limit is_bad_setting
leap_past_tai = refl

leap_below_tai : first_refusal before_leap (at 1000 (Leap (pos 1) (negsuc 0))) ≡ Some Invalid
unfolding is_well_formed is_past_limit is_bad_setting
leap_below_tai = refl

-- REALTIME stays at or above MONOTONIC, and below settable_end

leap_below : first_refusal (journal_of (at 2000000000 (SetTime (time (pos 2) 999999999)) ∷ []))
    (at 2000000000 (Leap (negsuc 0) (pos 1))) ≡ Some Invalid
unfolding is_settable is_well_formed is_past_limit is_bad_setting
leap_below = refl

leap_to_monotonic : first_refusal (journal_of (at 2000000000 (SetTime (time (pos 3) 0)) ∷ []))
    (at 2000000000 (Leap (negsuc 0) (pos 1))) ≡ None
unfolding is_settable is_well_formed is_past_limit is_bad_setting
leap_to_monotonic = refl

leap_past_end : first_refusal (journal_of (at 0 (SetTime (time (pos 8277292035) 0)) ∷ []))
    (at 0 (Leap (pos 1) (pos 0))) ≡ Some Invalid
unfolding is_settable is_well_formed is_past_limit is_bad_setting
leap_past_end = refl

leap_below_end : first_refusal (journal_of (at 0 (SetTime (time (pos 8277292034) 999999999)) ∷ []))
    (at 0 (Leap (pos 1) (pos 0))) ≡ None
unfolding is_settable is_well_formed is_past_limit is_bad_setting
leap_below_end = refl

-- while asleep, the clocks don't advance and accept only a resume

abbrev asleep : Journal
asleep = journal_of (at 1000 Suspend ∷ [])

asleep-update : first_refusal asleep (at 2000 Update) ≡ Some Asleep
unfolding is_well_formed is_past_limit is_bad_setting
asleep-update = refl

abbrev resumed : Journal
resumed = journal_of (at 1000 Suspend ∷ at 5 (Resume (time (pos 5) 500000000)) ∷ [])

asleep-leap : first_refusal asleep (at 2000 (Leap (negsuc 0) (pos 38))) ≡ Some Asleep
unfolding is_well_formed is_past_limit is_bad_setting
asleep-leap = refl

resumed-accepted : first_refusal asleep (at 5 (Resume (time (pos 5) 500000000))) ≡ None
unfolding is_suspension is_well_formed is_past_limit is_bad_setting
resumed-accepted = refl

resumed-monotonic : clock_value resumed Monotonic 15 ≡ pos 1010
resumed-monotonic = refl

resumed-real : clock_value resumed Realtime 5 ≡ pos 1700000005500001000
resumed-real = refl

resumed-boot : clock_value resumed Boottime 5 ≡ pos 5500001000
resumed-boot = refl

resumed-state : state_of resumed ≡ record {
  base = record {
    counter = nanosecond_counter;
    last = 5;
    mult = 16777216;
    amount = 16777216000;
    raw_amount = 16777216000;
    real_offset = pos 1700000005500000000;
    boot_offset = pos 5500000000;
    tai = pos 0;
    asleep = false;
  };
  frequency = pos 0;
  tick = pos 10000;
}
resumed-state = refl

awake-resume : first_refusal (journal_of []) (at 0 (Resume (time (pos 0) 0))) ≡ Some Awake
unfolding is_well_formed is_past_limit is_bad_setting
awake-resume = refl

-- a tick keeps the frequency, a frequency keeps the tick, and neither changes the rate of
-- MONOTONIC_RAW

abbrev ticked : Journal
ticked = journal_of (at 0 (Tick (pos 11000)) ∷ [])

ticked-values : ((base_of ticked).mult ≡ 18454937) × (monotonic ticked 1000000000 ≡ 1099999964)
    × (clock_value ticked MonotonicRaw 1000000000 ≡ pos 1000000000)
ticked-values = (refl, refl, refl)

abbrev ticked_faster : Journal
ticked_faster = journal_of (at 0 (Tick (pos 11000)) ∷ at 1000000000 (Freq (pos 32768000)) ∷ [])

ticked_faster-values : ((base_of ticked_faster).mult ≡ 18463326)
    × (monotonic ticked_faster 1000000001 ≡ 1099999965)
    × (clock_value ticked_faster MonotonicRaw 1000000001 ≡ pos 1000000001)
ticked_faster-values = (refl, refl, refl)

short_tick : first_refusal (journal_of []) (at 0 (Tick (pos 8999))) ≡ Some Invalid
unfolding is_well_formed is_past_limit is_bad_setting
short_tick = refl

long_tick : first_refusal (journal_of []) (at 0 (Tick (pos 11001))) ≡ Some Invalid
unfolding is_well_formed is_past_limit is_bad_setting
long_tick = refl
