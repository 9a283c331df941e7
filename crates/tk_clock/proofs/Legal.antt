-- An accepted entry keeps a journal legal, and leaves the state of the longer journal.
use Rattle.std.proofs.Common.{◌≡◌, ℕ, zero, suc, ◌+◌, ◌<◌, ◌≤◌, List, [], ◌∷◌, ◌++◌, length, take, take-take, refl, sym, ◌∙◌, ap, arith, false, inl, inr}
use Rattle.std.specs.Prelude.{ℤ, pos, ◌-◌, ◌*◌, Option, Some, None, slice_get}
use Rattle.std.proofs.lemmas.List.{take_at, length-take, length_push}
use Rattle.std.proofs.lemmas.Bool.{cases_lt}
use Rattle.std.proofs.lemmas.Option.{slice_get_within}
use Rattle.tk_clock.specs.declared.command.Entry.{Entry}
use Rattle.tk_clock.specs.declared.command.Command.{Command}
use Rattle.tk_clock.specs.declared.refusal.Refusal.{Refusal}
use Rattle.tk_clock.specs.Command.{is_resume}
use Rattle.tk_clock.specs.declared.timespec.Timespec.{Timespec}
use Rattle.tk_clock.specs.Journal.{Opening, Journal, opened, prefix, followed_by, is_asleep}
use Rattle.tk_clock.specs.Monotonic.{current_multiplier}
use Rattle.tk_clock.specs.Time.{nanoseconds}
use Rattle.tk_counter.specs.Counter.{Counter, IsCounter, usual_tick}
use Rattle.tk_clock.specs.State.{State, state_of, effect}
use Rattle.tk_clock.specs.Refusal.{first_of, clock_refusal, state_refusal, first_refusal, opening_refusal, is_full}
use Rattle.tk_clock.specs.Legal.{IsLegal, IsAccepted, IsWhole, Beginning, Opened, AtOpening, IsUnfolded, folded_opening}
use Rattle.tk_clock.proofs.Append.{slice_get-append, slice_get-push, prefix-followed_by}
use Rattle.tk_clock.proofs.Ledger.{ledger, fits_sleep, clock_refusal-state, no_more}
use Rattle.tk_clock.proofs.Refusals.{first_refusal-room}

-- an accepted command passes the early tests
early_none : (early later : Option Refusal) → first_of early later ≡ None → early ≡ None
early_none None later e = refl
early_none (Some refusal) later e = e

-- a journal that isn't full refuses an entry for the same reason as its state
pub first_refusal-state : (journal : Journal) (state : State) (who reading : ℕ) (cmd : Command)
    (stated : Option Refusal) →
    state ≡ state_of journal → is_full journal ≡ false → state_refusal state reading cmd ≡ stated →
    first_refusal journal (record { who = who; reading = reading; cmd = cmd }) ≡ stated
first_refusal-state journal state who reading cmd stated running room e =
    let entry : Entry = record { who = who; reading = reading; cmd = cmd } in
    first_refusal-room journal entry room
    ∙ clock_refusal-state journal who reading cmd
    ∙ ap (λ s. state_refusal s reading cmd) (sym running)
    ∙ e

-- an accepted command leaves the state of the longer journal
pub state_of-followed_by : (journal : Journal) (state : State) (who reading : ℕ) (cmd : Command) →
    state ≡ state_of journal → state_refusal state reading cmd ≡ None →
    effect state reading cmd
    ≡ state_of (followed_by journal (record { who = who; reading = reading; cmd = cmd }))
state_of-followed_by journal state who reading cmd running e =
    let accepted : clock_refusal journal (record { who = who; reading = reading; cmd = cmd })
    ≡ None =
    clock_refusal-state journal who reading cmd
    ∙ ap (λ s. state_refusal s reading cmd) (sym running) ∙ e in
    ap (λ s. effect s reading cmd) running
    ∙ sym (ledger journal who reading cmd
    (fits_sleep (is_asleep journal) (is_resume cmd) _ (early_none _ _ accepted)))

earlier_accepted : (journal : Journal) (entry : Entry) → IsAccepted journal →
    (k : ℕ) (other : Entry) → k < length journal.entries →
    slice_get (journal.entries ++ entry ∷ []) k ≡ Some other →
    clock_refusal (prefix k (followed_by journal entry)) other ≡ None
earlier_accepted journal entry all k other low found =
    let same = prefix-followed_by journal entry k (omega arith) in
    ap (λ (j : Journal). clock_refusal j other) same
    ∙ all k other (sym (slice_get-append journal.entries (entry ∷ []) k low) ∙ found)

last_accepted : (journal : Journal) (entry : Entry) → clock_refusal journal entry ≡ None →
    (k : ℕ) (other : Entry) → length journal.entries ≤ k →
    slice_get (journal.entries ++ entry ∷ []) k ≡ Some other →
    clock_refusal (prefix k (followed_by journal entry)) other ≡ None
last_accepted journal entry accepted k other high found =
    let within = slice_get_within (journal.entries ++ entry ∷ []) k other found in
    let last : length journal.entries ≡ k = omega (arith, length_push journal.entries entry) in
    let same : prefix k (followed_by journal entry) ≡ journal =
    ap (λ (es : List Entry). record journal { entries = es }) (take_at journal.entries (entry
    ∷ []) k last) in
    let stated : Some entry ≡ Some other =
    sym (slice_get-push journal.entries entry) ∙ ap (slice_get (journal.entries ++ entry ∷ [])) last
    ∙ found in
    let it : entry ≡ other = cc in
    ap (λ (j : Journal). clock_refusal j other) same ∙ ap (λ e. clock_refusal journal e) (sym it)
    ∙ accepted

-- one more accepted entry
pub IsAccepted-followed_by : (journal : Journal) (entry : Entry) → IsAccepted journal →
    clock_refusal journal entry ≡ None →
    IsAccepted (followed_by journal entry)
IsAccepted-followed_by journal entry all accepted =
    λ k (other : Entry) found.
    elim (cases_lt k (length journal.entries)) [
      | inl low ↦ earlier_accepted journal entry all k other low found
      | inr high ↦ last_accepted
          journal entry accepted k other high found
    ]

slice_get-take : {X : Type 0} (n : ℕ) (xs : List X) (k : ℕ) (x : X) →
    slice_get (take n xs) k ≡ Some x →
    slice_get xs k ≡ Some x
slice_get-take zero xs k x e = absurd (cc e)
slice_get-take (suc n) [] k x e = e
slice_get-take (suc n) (y ∷ xs) zero x e = e
slice_get-take (suc n) (y ∷ xs) (suc k) x e = slice_get-take n xs k x e

-- if all entries of a journal were accepted, so were all entries of a prefix
pub IsAccepted-prefix : (journal : Journal) (n : ℕ) → IsAccepted journal →
    IsAccepted (prefix n journal)
IsAccepted-prefix journal n all =
    λ k (entry : Entry) found.
    let within = slice_get_within (take n journal.entries) k entry found in
    let low : k < n = omega (arith, length-take n journal.entries) in
    let same : prefix k (prefix n journal) ≡ prefix k journal =
    ap (λ (es : List Entry). record journal { entries = es })
    (take-take k n journal.entries (omega arith)) in
    ap (λ (j : Journal). clock_refusal j entry) same
    ∙ all k entry (slice_get-take n journal.entries k entry found)

-- a legal journal stays legal after an accepted entry
pub IsLegal-followed_by : (began : Beginning) (journal : Journal) (entry : Entry) →
    IsLegal began journal → clock_refusal journal entry ≡ None →
    IsLegal began (followed_by journal entry)
IsLegal-followed_by began journal entry legal accepted =
    record {
      past = legal.past;
      accepted = IsAccepted-followed_by journal entry legal.accepted accepted;
    }

-- a whole journal stays whole after an accepted entry
pub IsWhole-followed_by : (journal : Journal) (entry : Entry) → IsWhole journal →
    clock_refusal journal entry ≡ None →
    IsWhole (followed_by journal entry)
IsWhole-followed_by journal entry whole accepted = record {
  described = whole.described;
  opens = whole.opens;
  accepted = IsAccepted-followed_by journal entry whole.accepted accepted;
}

-- a prefix of a whole journal is whole
pub IsWhole-prefix : (journal : Journal) (n : ℕ) → IsWhole journal → IsWhole (prefix n journal)
IsWhole-prefix journal n whole = record {
  described = whole.described;
  opens = whole.opens;
  accepted = IsAccepted-prefix journal n whole.accepted;
}

-- the state of a journal without entries is the state of its opening
nothing : (u : ℕ) → 0 + (0 - 0) * u ≡ 0
nothing u = omega arith

nothing_raw : (u : ℕ) → 0 + 0 * u ≡ 0
nothing_raw u = omega arith

pub opened-folded : (counter : Counter) (reading : ℕ) (real : Timespec) →
    (opened counter reading real).opening
    ≡ folded_opening 0 (state_of (opened counter reading real))
opened-folded counter reading real =
    let opening : ℕ → ℕ → ℤ → ℤ → Opening = λ amount raw real boot. record {
      counter = counter;
      reading = reading;
      count = 0;
      amount = amount;
      raw_amount = raw;
      frequency = pos 0;
      tick = usual_tick;
      real_offset = real;
      boot_offset = boot;
      tai = pos 0;
      asleep = false;
    } in
    ap (λ n. opening n 0 (nanoseconds real) (pos 0))
    (sym (nothing (current_multiplier (opened counter reading real))))
    ∙ ap (λ n. opening (0 + (0 - 0) * current_multiplier (opened counter reading real)) n
    (nanoseconds real) (pos 0)) (sym (nothing_raw counter.mult))
    ∙ ap (λ z. opening (0 + (0 - 0) * current_multiplier (opened counter reading real))
    (0 + 0 * counter.mult) z (pos 0)) (sym (no_more (nanoseconds real)))

none_listed : (k : ℕ) (entry : Entry) → slice_get [] k ≡ Some entry → ⊥
none_listed k entry e = cc e

pub IsWhole-opened : (counter : Counter) (reading : ℕ) (real : Timespec) → IsCounter counter →
    opening_refusal counter reading real ≡ None →
    IsWhole (opened counter reading real)
IsWhole-opened counter reading real described opens = record {
  described = described;
  opens = (reading, real, opens, refl);
  accepted = λ k entry e. absurd (none_listed k entry e);
}

-- newly opened clocks begin to run over their counter
IsUnfolded-opened : (counter : Counter) (reading : ℕ) (real : Timespec) → IsCounter counter →
    opening_refusal counter reading real ≡ None →
    IsUnfolded Opened (opened counter reading real)
IsUnfolded-opened counter reading real described opens = record {
  starts = AtOpening counter reading real described opens;
  accepted = λ k entry e. absurd (none_listed k entry e);
}

-- opened clocks begin with a legal journal
pub IsLegal-opened : (counter : Counter) (reading : ℕ) (real : Timespec) → IsCounter counter →
    opening_refusal counter reading real ≡ None →
    IsLegal Opened (opened counter reading real)
IsLegal-opened counter reading real described opens = record {
  past = (
    opened counter reading real,
    IsUnfolded-opened counter reading real described opens,
    opened-folded counter reading real,
  );
  accepted = λ k entry e. absurd (none_listed k entry e);
}

-- a whole journal is legal: before its first entry no command was accepted
pub IsLegal-whole : (journal : Journal) → IsWhole journal → IsLegal Opened journal
IsLegal-whole journal whole =
    let reading = whole.opens.0 in
    let real = whole.opens.1 in
    let counter = journal.opening.counter in
    record {
      past = (
        opened counter reading real,
        IsUnfolded-opened counter reading real whole.described whole.opens.2,
        whole.opens.3 ∙ opened-folded counter reading real,
      );
      accepted = whole.accepted;
    }
