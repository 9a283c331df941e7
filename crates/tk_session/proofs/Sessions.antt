-- What a session's clocks do is what the session does.
use Rattle.std.proofs.Common.{◌≡◌, ◌≤◌, ◌+◌, ◌∙◌, refl, sym, ap, subst, ℕ, List, [], ◌∷◌, ◌++◌, length, true, false, arith}
use Rattle.std.specs.Prelude.{Option, None, Ok, Err}
use Rattle.tk_clock.specs.Limits.{listed_most}
use Rattle.tk_clock.specs.Refusal.{first_refusal}
use Rattle.tk_clock.specs.State.{State}
use Rattle.tk_clock.proofs.Start.{state_of-begun}
use Rattle.tk_counter.specs.Counter.{multiplier}
use Rattle.tk_ntp.specs.Course.{course_of}
use Rattle.tk_ntp.specs.SteeredClock.{SteeredClock, steered_opened}
use Rattle.tk_report.specs.CountedClocks.{Counted, IsKept}
use Rattle.tk_report.specs.Report.{after, difference, differs_text}
use Rattle.tk_report.specs.SteeredReport.{continued_from, steered_from}
use Rattle.tk_script.specs.Plain.{cut_at_commas, is_plain_line}
use Rattle.tk_script.specs.Rows.{row_of}
use Rattle.tk_script.specs.Start.{journal_at}
use Rattle.tk_script.specs.declared.opening.Opening.{Opening}
use Rattle.tk_script.specs.declared.opening.Start.{Start}
use Rattle.tk_script.specs.declared.opening.Start.TheVariants as start
use Rattle.tk_script.specs.declared.row.Row.{Row}
use Rattle.tk_script.specs.declared.script_error.ScriptError.{ScriptError}
use Rattle.tk_session.specs.Session.{Alone, Clocks, IsCarriedOut, IsRefused, IsSessionOf, IsTold, Led, Session, Takes, begun, most_records}
use Rattle.tk_session.specs.Told.{IsKeptOf, IsToldPlain, IsToldSteered}
use Rattle.tk_session.specs.declared.fault.Fault.TheVariants.{NotPlain, Script}

-- counted clocks with which newly opened steered clocks begin
pub kept-opened : (opening : Opening) (hz : ℕ) (clock : SteeredClock) →
    clock ≡ steered_opened opening.desc opening.reading opening.real hz →
    IsKeptOf (record { clock = clock.clock; count = 0; since = 0; most = listed_most })
    (course_of clock) (steered_from opening hz)
kept-opened opening hz clock same = record {
  counts = record {
    clock = ap (λ (s : SteeredClock). s.clock) same;
    count = omega arith;
    since = refl;
    most = refl;
  };
  leads = ap course_of same;
}

-- counted clocks with which running steered clocks begin
pub kept-continued : (front : ℕ) (clock : SteeredClock) →
    clock.clock.base.mult
    ≡ multiplier clock.clock.base.counter clock.clock.frequency clock.clock.tick →
    IsKeptOf (record { clock = clock.clock; count = front; since = front; most = listed_most })
    (course_of clock) (continued_from clock front)
kept-continued front clock steered = record {
  counts = record {
    clock = sym (state_of-begun front clock.clock steered);
    count = omega arith;
    since = refl;
    most = refl;
  };
  leads = refl;
}

-- the counter of a session's clocks is that of the script's opening
pub counter-of : (first : Start) (session : Session) → IsSessionOf session (begun first) →
    session.clocks.clock.base.counter ≡ (journal_at first).opening.counter
counter-of (start.Opened opening) session (is, kept) = ap (λ (s : State). s.base.counter) kept.clock
counter-of (start.Running clock front) session (is, kept) =
    ap (λ (s : State). s.base.counter) kept.clock
counter-of (start.Steered opening hz) session (is, kept) =
    ap (λ (s : State). s.base.counter) kept.counts.clock
counter-of (start.Continued clock front) session (is, kept) =
    ap (λ (s : State). s.base.counter) kept.counts.clock

-- sessions with the same clocks and course
same-clocks : (a b : Session) (clocks : Clocks) → b.clocks ≡ a.clocks → b.course ≡ a.course →
    b.is_steered ≡ a.is_steered → IsSessionOf a clocks → IsSessionOf b clocks
same-clocks a b (Alone journal) counts course steered (is, kept) =
    (steered ∙ is, subst (λ (k : Counted). IsKept None k journal) (sym counts) kept)
same-clocks a b (Led keeper) counts course steered (is, kept) = (
  steered ∙ is,
  record {
    counts = subst (λ (k : Counted). IsKept None k keeper.keeper.journal) (sym counts) kept.counts;
    leads = course ∙ kept.leads;
  },
)

module _ (before told : Session) (row : Row) (line : List ℕ) (value : Option ℕ) where
  -- a session counted a row that its clocks carried out
  pub carried-out : (text : List ℕ) (next : Session) →
      ((clocks : Clocks) → IsSessionOf before clocks →
      (later : Clocks) × IsTold clocks row line value later × IsSessionOf told later) →
      text ≡ line ++ differs_text (before.records + 1) value → next.clocks ≡ told.clocks →
      next.course ≡ told.course → next.is_steered ≡ told.is_steered →
      next.records ≡ before.records + 1 →
      next.differences ≡ before.differences + difference value →
      IsCarriedOut before row text next
  carried-out text next tells whole counts course steered records differences = record {
    line = line;
    value = value;
    lines = whole;
    told = λ clocks same.
        let (later, is, still) = tells clocks same in
        (later, is, same-clocks told next later counts course steered still);
    records = records;
    differences = differences;
  }

  -- clocks that no discipline steers
  pub told-plain : before.is_steered ≡ false → told.is_steered ≡ false →
      IsToldPlain before.clocks row line value told.clocks →
      (clocks : Clocks) → IsSessionOf before clocks →
      (later : Clocks) × IsTold clocks row line value later × IsSessionOf told later
  told-plain plain plain' does (Alone journal) (is, kept) =
      let (isLine, missing, kept') = does journal kept in
      (Alone (after first_refusal journal row), (isLine, missing, refl), (plain', kept'))
  told-plain plain plain' does (Led kept) (is, keeps) = absurd (cc (plain, is))

  -- clocks that a discipline steers
  pub told-steered : before.is_steered ≡ true → told.is_steered ≡ true →
      IsToldSteered before.clocks before.course row line value told.clocks told.course →
      (clocks : Clocks) → IsSessionOf before clocks →
      (later : Clocks) × IsTold clocks row line value later × IsSessionOf told later
  told-steered steers steers' does (Alone journal) (is, kept) = absurd (cc (steers, is))
  told-steered steers steers' does (Led kept) (is, keeps) =
      let (next, isLine, missing, keeps') = does kept keeps in
      (Led next, (isLine, missing), (steers', keeps'))

-- why a line is refused
pub refused-plain : (number : ℕ) (line : List ℕ) → is_plain_line line ≡ false →
    IsRefused number line NotPlain
refused-plain number [] e = cc e
refused-plain number (byte ∷ bytes) e = e

pub refused-script : (number : ℕ) (line : List ℕ) (error : ScriptError) → (length line ≡ 0 → ⊥) →
    is_plain_line line ≡ true → number ≤ most_records →
    row_of number (cut_at_commas line) ≡ Err error → IsRefused number line (Script error)
refused-script number [] error some plain few e = absurd (some refl)
refused-script number (byte ∷ bytes) error some plain few e = (plain, few, e)

-- how a line is taken
pub takes-none : (session : Session) (line text : List ℕ) → length line ≡ 0 → text ≡ [] →
    Takes session line text session
takes-none session [] text none e = (e, refl)
takes-none session (byte ∷ bytes) text none e = absurd (omega (arith, none))

pub takes-row : (before : Session) (line text : List ℕ) (next : Session) (row : Row) →
    (length line ≡ 0 → ⊥) → is_plain_line line ≡ true →
    row_of (before.records + 1) (cut_at_commas line) ≡ Ok row → IsCarriedOut before row text next →
    Takes before line text next
takes-row before [] text next row some plain known carried = absurd (some refl)
takes-row before (byte ∷ bytes) text next row some plain known carried =
    (row, known, plain, carried)
