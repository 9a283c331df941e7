-- The clocks of a history without entries, and their first command.
use Rattle.std.proofs.Common.{◌≡◌, ◌∙◌, refl, sym, ap, subst, ℕ, ◌+◌, List, [], ◌∷◌, length, None, arith}
use Rattle.std.specs.Prelude.{⊤, ℤ, pos, unsigned_abs, Result}
use Rattle.tk_counter.specs.Counter.{Counter}
use Rattle.tk_clock.specs.declared.command.Command.TheVariants.{Update}
use Rattle.tk_clock.specs.declared.command.Entry.{Entry}
use Rattle.tk_clock.specs.declared.refusal.Refusal.{Refusal}
use Rattle.tk_clock.specs.declared.timespec.Timespec.{Timespec}
use Rattle.tk_clock.specs.Journal.{Journal, Opening, accepted_count, followed_by, opened}
use Rattle.tk_clock.specs.Legal.{IsWhole}
use Rattle.tk_clock.specs.Refusal.{state_refusal}
use Rattle.tk_clock.specs.Snapshot.{Snapshot}
use Rattle.tk_clock.specs.State.{ReadBase, State, base_of, state_of}
use Rattle.tk_clock.specs.Time.{nanoseconds, timespec_of}
use Rattle.tk_clock.proofs.Effects.{effect-last}
use Rattle.tk_clock.proofs.Ledger.{clock_refusal-state}
use Rattle.tk_clock.proofs.Legal.{opened-folded, state_of-followed_by}
use Rattle.tk_ntp.specs.Course.{Course, course_of, seen}
use Rattle.tk_ntp.specs.Followed.{HasFollowed, followed}
use Rattle.tk_ntp.specs.SteeredClock.{SteeredClock, steered_opened, steered_refusal}
use Rattle.tk_shared.specs.Callers.{HasRead, Known, entry_of}
use Rattle.tk_shared_steered.specs.Given.{IsGiven}
use Rattle.tk_shared_steered.specs.declared.fault.SteeringFault.{SteeringFault}
use Rattle.tk_shared_steered.specs.declared.fault.SteeringFault.TheVariants.{Refused, Foreign}
use Rattle.tk_shared_steered.specs.Opened.{IsNotShown, IsOpenedAs, IsShown, IsUnopened, Late, Unsound, real_shown, shown_refusal}
use Rattle.tk_shared_steered.specs.Owner.{IsInStep, owner_of}
use Rattle.tk_shared.proofs.Informed.{known_by_trans}
use Rattle.tk_shared_steered.proofs.Given.{accepted_last}
use Rattle.tk_shared_steered.proofs.KnownBy.{read_known}
use Rattle.tk_shared_steered.proofs.Steps.{accepts, follows}

-- newly opened clocks, by REALTIME in nanoseconds
abbrev opened_with : Counter → ℕ → ℤ → Journal
opened_with counter start real =
    let journal = opened counter start (timespec_of 0) in
    record journal { opening = record journal.opening { real_offset = real } }

none_listed : (entries : List Entry) → length entries ≡ 0 → entries ≡ []
none_listed [] none = refl
none_listed (entry ∷ entries) none = absurd (omega (arith, none))

-- a whole history without commands is that of newly opened clocks
is_opened : (journal : Journal) (entry : Entry) (real : Timespec) →
    IsWhole (followed_by journal entry) → accepted_count journal ≡ 0 →
    nanoseconds real ≡ (base_of journal).real_offset →
    journal ≡ opened journal.opening.counter (base_of journal).last real
is_opened journal entry real whole none same =
    let counter = journal.opening.counter in
    let start = whole.opens.0 in
    let before = whole.opens.1 in
    let few : length journal.entries ≡ 0 = omega (arith, none) in
    let empty : journal ≡ opened_with counter start (nanoseconds before) =
    ap (λ (es : List Entry). record journal { entries = es }) (none_listed journal.entries few)
    ∙ ap (λ (o : Opening). let j : Journal = record { opening = o; entries = [] } in j)
    whole.opens.3 in
    let last : (base_of journal).last ≡ start = ap (λ (j : Journal). (base_of j).last) empty in
    let offset : nanoseconds real ≡ nanoseconds before =
    same
    ∙ ap (λ (j : Journal). (base_of j).real_offset) empty
    ∙ sym (ap (λ (o : Opening). o.real_offset) (opened-folded counter start before)) in
    empty
    ∙ ap (λ (s : ℕ). opened_with counter s (nanoseconds before)) (sym last)
    ∙ ap (opened_with counter (base_of journal).last) (sym offset)

-- clocks and the course of their discipline, one by one, are those of steered clocks
same_steered : (steered : SteeredClock) (clock : State) (course : Course) →
    clock ≡ steered.clock → course ≡ course_of steered → seen clock course ≡ steered
same_steered steered clock course e f =
    ap (λ (c : State). seen c course) e ∙ ap (seen steered.clock) f

-- so what follows a command from them follows it from these
pub followed_from : (steered after : SteeredClock) (clock : State) (course : Course) (reading : ℕ)
    (result : Result ⊤ Refusal) → clock ≡ steered.clock → course ≡ course_of steered →
    HasFollowed (state_refusal clock reading Update) (followed reading Update (seen clock course))
    (seen clock course) result after →
    HasFollowed (state_refusal steered.clock reading Update) (followed reading Update steered) steered
    result after
followed_from steered after clock course reading result e f =
    subst (λ (b : SteeredClock).
    HasFollowed (state_refusal b.clock reading Update) (followed reading Update b) b result after)
    (same_steered steered clock course e f)

-- the first command of a history whose clocks a snapshot shows, and clocks that follow it
pub opened_as : (hz : ℕ) (old middle new : Known) (snapshot : Snapshot) (reading : ℕ)
    (before after : SteeredClock) (result : Result ⊤ Refusal) → HasRead old middle snapshot →
    IsShown hz snapshot before → IsGiven Update reading middle new →
    HasFollowed (state_refusal before.clock reading Update) (followed reading Update before) before
    result after →
    IsOpenedAs hz old new after
opened_as hz old middle new snapshot reading before after result r is given h =
    let base = snapshot.base in
    let real = real_shown base in
    let entry = entry_of middle reading Update in
    let journal : middle.seen ≡ opened base.counter base.last real =
    is_opened middle.seen entry real (subst IsWhole given.seen given.informed.whole)
    (sym (ap (λ (s : Snapshot). s.front) r.answer) ∙ is.none)
    (is.same ∙ ap (λ (s : Snapshot). s.base.real_offset) r.answer)
    ∙ ap (λ (s : Snapshot). opened s.base.counter s.base.last real) (sym r.answer) in
    let clock : before.clock ≡ state_of middle.seen =
    ap (λ (s : SteeredClock). s.clock) is.clock_is ∙ ap state_of (sym journal) in
    record {
      counter = base.counter;
      start = base.last;
      real = real;
      reading = reading;
      seen =
          given.seen
          ∙ ap (λ (j : Journal). followed_by j entry) journal
          ∙ ap (λ (id : ℕ). followed_by (opened base.counter base.last real)
          (record { who = id; reading = reading; cmd = Update })) r.id;
      same = ap (λ (j : Journal). j.opening) given.seen ∙ r.extends.0;
      sound = is.sound;
      clock_is =
          follows (state_refusal before.clock reading Update) (followed reading Update before)
          before after result h
          (accepts before.clock Update reading middle new clock given)
          ∙ ap (followed reading Update) is.clock_is;
      counted = given.counted ∙ ap (λ (n : ℕ). n + 1) r.accepted;
      informed = given.informed;
      known = known_by_trans old middle new (read_known old middle snapshot r) given.known;
      id = given.id ∙ r.id;
    }

-- no discipline is opened on clocks that the snapshot doesn't show
pub unshown : (hz : ℕ) (old new : Known) (snapshot : Snapshot) (fault : SteeringFault) →
    HasRead old new snapshot → IsNotShown hz snapshot fault → IsUnopened hz old new fault
unshown hz old new snapshot Foreign read h = Late snapshot read h
unshown hz old new snapshot (Refused refusal) read h =
    Unsound refusal (record { snapshot = snapshot; read = read; none = h.0 }) h.1

-- they leave the owner's clocks in step
pub open_in_step : (hz : ℕ) (old new : Known) (clock : SteeredClock) (count : ℕ) →
    IsOpenedAs hz old new clock → IsInStep (owner_of new clock count)
open_in_step hz old new clock count h =
    let journal = opened h.counter h.start h.real in
    let before = steered_opened h.counter h.start h.real hz in
    let entry = entry_of old h.reading Update in
    let accepted : state_refusal before.clock h.reading Update ≡ None =
    sym (clock_refusal-state journal old.id h.reading Update)
    ∙ accepted_last journal entry (subst IsWhole h.seen h.informed.whole) in
    record {
      clocks =
          ap (λ (s : SteeredClock). s.clock) h.clock_is
          ∙ state_of-followed_by journal before.clock old.id h.reading Update refl accepted
          ∙ ap state_of (sym h.seen);
      last_account =
          ap (λ (s : SteeredClock). s.last_account) h.clock_is
          ∙ sym (ap (λ (s : SteeredClock). s.clock.base.last) h.clock_is
          ∙ effect-last before.clock h.reading Update);
    }

-- the refusal of clocks that are opened with the numbers of a snapshot
pub shown : (base : ReadBase) (counter : Counter) (last nanos : ℕ) (real : Timespec) (hz : ℕ) →
    counter ≡ base.counter → last ≡ base.last → real ≡ timespec_of nanos →
    pos nanos ≡ base.real_offset →
    shown_refusal base hz ≡ steered_refusal counter last real hz
shown base counter last nanos real hz counted begun time offset =
    let real_at : ℤ → Timespec = λ z. timespec_of (unsigned_abs z) in
    ap (λ (c : Counter). steered_refusal c base.last (real_at base.real_offset) hz) (sym counted)
    ∙ ap (λ (l : ℕ). steered_refusal counter l (real_at base.real_offset) hz) (sym begun)
    ∙ ap (λ (z : ℤ). steered_refusal counter last (real_at z) hz) (sym offset)
    ∙ ap (λ (t : Timespec). steered_refusal counter last t hz) (sym time)
