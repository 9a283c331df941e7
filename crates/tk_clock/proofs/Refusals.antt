-- Which refusals report a full journal or an allocation failure, and which ones the clocks' own
-- tests return.
use Rattle.std.proofs.Common.{◌≡◌, ◌∙◌, refl, sym, ap, Bool, true, false}
use Rattle.std.specs.Prelude.{Option, Some, None, not, ◌&&◌, nat_lt, ◌||◌, if◌then◌else◌}
use Rattle.tk_counter.specs.Counter.{mask, half, gap}
use Rattle.tk_clock.specs.declared.command.Entry.{Entry}
use Rattle.tk_clock.specs.declared.refusal.Refusal.{Refusal}
use Rattle.tk_clock.specs.declared.refusal.Refusal.TheVariants.{Full, Asleep, Awake, Invalid, Behind, Range, Memory}
use Rattle.tk_clock.specs.Clocks.{clock_value}
use Rattle.tk_clock.specs.Command.{is_resume}
use Rattle.tk_clock.specs.Journal.{Journal, followed_by, is_asleep, last_reading}
use Rattle.tk_clock.specs.Limits.{is_well_formed, is_past_limit, is_bad_setting}
use Rattle.tk_clock.specs.Refusal.{first_of, clock_refusal, first_refusal, is_full, IsRefusal}

-- whether a refusal reports a full journal or an allocation failure
abbrev tells_want : Option Refusal → Bool
tells_want (Some Full) = true
tells_want (Some Memory) = true
tells_want stated = false

tests_alone : (a b c d e f : Bool) →
    tells_want (first_of (first_of (if a then Some Asleep else if b then Some Awake else None)
    (first_of (if c then Some Invalid else None) (if d then Some Behind else None)))
    (if e then Some Range else if f then Some Invalid else None))
    ≡ false
tests_alone true b c d e f = refl
tests_alone false true c d e f = refl
tests_alone false false true d e f = refl
tests_alone false false false true e f = refl
tests_alone false false false false true f = refl
tests_alone false false false false false true = refl
tests_alone false false false false false false = refl

-- the clocks' own tests return neither Full nor Memory
never_want : (journal : Journal) (entry : Entry) → tells_want (clock_refusal journal entry) ≡ false
never_want journal entry =
    tests_alone
    (is_asleep journal && not (is_resume entry.cmd))
    (not (is_asleep journal) && is_resume entry.cmd)
    (nat_lt (mask journal.opening.counter) entry.reading || not (is_well_formed entry.cmd))
    (not (is_resume entry.cmd)
    && nat_lt (half journal.opening.counter)
    (gap journal.opening.counter (last_reading journal) entry.reading))
    (is_past_limit (λ clock. clock_value (followed_by journal entry) clock entry.reading) entry.cmd)
    (is_bad_setting (λ clock. clock_value journal clock entry.reading) entry.cmd)

pub never_full : (journal : Journal) (entry : Entry) → clock_refusal journal entry ≡ Some Full → ⊥
never_full journal entry stated = cc (sym (never_want journal entry) ∙ ap tells_want stated)

pub never_memory : (journal : Journal) (entry : Entry) →
    clock_refusal journal entry ≡ Some Memory → ⊥
never_memory journal entry stated = cc (sym (never_want journal entry) ∙ ap tells_want stated)

-- a journal that isn't full refuses as the clocks' tests do
pub first_refusal-room : (journal : Journal) (entry : Entry) → is_full journal ≡ false →
    first_refusal journal entry ≡ clock_refusal journal entry
first_refusal-room journal entry room =
    ap (λ (b : Bool). if b then Some Full else clock_refusal journal entry) room

full_if : (full : Bool) (stated : Option Refusal) → (stated ≡ Some Full → ⊥) →
    (if full then Some Full else stated) ≡ Some Full → full ≡ true
full_if true stated never answered = refl
full_if false stated never answered = absurd (never answered)

room_if : (full : Bool) (stated answer : Option Refusal) → (answer ≡ Some Full → ⊥) →
    (if full then Some Full else stated) ≡ answer → full ≡ false
room_if true stated answer other answered = absurd (other (sym answered))
room_if false stated answer other answered = refl

-- if the refusal is Full, the journal is full
pub is_full-refused : (journal : Journal) (entry : Entry) →
    first_refusal journal entry ≡ Some Full → is_full journal ≡ true
is_full-refused journal entry refused =
    full_if (is_full journal) (clock_refusal journal entry) (never_full journal entry) refused

-- if the refusal isn't Full, the journal isn't full, and the refusal is the one of the clocks'
-- tests
pub has_room : (journal : Journal) (entry : Entry) (stated : Option Refusal) →
    (stated ≡ Some Full → ⊥) → first_refusal journal entry ≡ stated → is_full journal ≡ false
has_room journal entry stated other answered =
    room_if (is_full journal) (clock_refusal journal entry) stated other answered

pub clock_refusal-stated : (journal : Journal) (entry : Entry) (stated : Option Refusal) →
    (stated ≡ Some Full → ⊥) → first_refusal journal entry ≡ stated →
    clock_refusal journal entry ≡ stated
clock_refusal-stated journal entry stated other answered =
    sym (first_refusal-room journal entry (has_room journal entry stated other answered)) ∙ answered

-- if an entry isn't refused, the journal isn't full, and the entry passes the clocks' tests
pub accepts_room : (journal : Journal) (entry : Entry) → first_refusal journal entry ≡ None →
    is_full journal ≡ false
accepts_room journal entry accepted = has_room journal entry None (λ e. cc e) accepted

pub passes_clock : (journal : Journal) (entry : Entry) → first_refusal journal entry ≡ None →
    clock_refusal journal entry ≡ None
passes_clock journal entry accepted =
    clock_refusal-stated journal entry None (λ e. cc e) accepted

-- the first test that fails gives the refusal of the entry
pub IsRefusal-stated : (journal : Journal) (entry : Entry) (refusal : Refusal) →
    is_full journal ≡ false →
    first_refusal journal entry ≡ Some refusal → IsRefusal journal entry refusal
IsRefusal-stated journal entry Full room stated = stated
IsRefusal-stated journal entry Asleep room stated = stated
IsRefusal-stated journal entry Awake room stated = stated
IsRefusal-stated journal entry Invalid room stated = stated
IsRefusal-stated journal entry Behind room stated = stated
IsRefusal-stated journal entry Range room stated = stated
IsRefusal-stated journal entry Memory room stated =
    absurd (never_memory journal entry (sym (first_refusal-room journal entry room) ∙ stated))
