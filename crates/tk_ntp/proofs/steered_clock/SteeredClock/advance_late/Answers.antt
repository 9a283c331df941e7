use Rattle.std.proofs.Common.{◌≡◌, refl, subst, true}
use Rattle.std.specs.Prelude.{Ok, Err, MatchOption}
use Rattle.tk_ntp.specs.Account.{IsConsistent}
use Rattle.tk_ntp.specs.Advance.{IsNoneDue}
use Rattle.tk_ntp.specs.Course.{seen}
use Rattle.tk_ntp.specs.Late.{second_begun_late, IsAdvancedLate}
use Rattle.tk_ntp.specs.LateLaws.{IsAccountedLate, IsNumberedLate, IsOffsetKeptLate, IsTaiKeptLate}
use Rattle.tk_ntp.specs.SteeredClock.{SteeredClock, reading_refusal}
use Rattle.tk_ntp.proofs.Accepted.{ahead_at, awake_at}
use Rattle.tk_ntp.proofs.AccountLate.{accounted_late}
use Rattle.tk_ntp.proofs.Alone.{arrived}
use Rattle.tk_ntp.proofs.History.{offset_kept_late}
use Rattle.tk_ntp.proofs.Laws.{arrived_answer, arrived_holds}
use Rattle.tk_ntp.proofs.ConsistentLate.{consistent_late}
use Rattle.tk_ntp.proofs.Numbered.{numbered_late}
use Rattle.tk_ntp.proofs.Often.{none_left}
use Rattle.tk_ntp.proofs.TaiKept.{tai_kept_late}
use Rattle.tk_ntp.proofs.steered_clock.SteeredClock.advance_late.Goals as goal

-- the seconds begin, or the reading is refused
told : (c : goal.After-advance) →
    let end = seen c.advance.new.clocks c.advance.new.self in
    MatchOption (reading_refusal c.args.reading c.args.self.now)
    ((c.advance.result ≡ Ok (tt {0})) × IsAdvancedLate c.args.reading c.args.self.now end)
    (λ r. (c.advance.result ≡ Err r) × (end ≡ c.args.self.now))
told c =
    let end = seen c.advance.new.clocks c.advance.new.self in
    subst (λ (s : SteeredClock). MatchOption (reading_refusal c.args.reading s)
    ((c.advance.result ≡ Ok (tt {0})) × IsAdvancedLate c.args.reading s end)
    (λ r. (c.advance.result ≡ Err r) × (end ≡ s))) c.self.view_is
    (arrived true 0 c.args.reading c.self.inside.clock c.self.inside.course c.advance.result
    c.advance.new.clocks c.advance.new.self c.advance.ensures)

pub returns-clause-answer : goal.returns-clause-answer
returns-clause-answer c =
    arrived_answer (λ at. second_begun_late at c.args.reading) c.args.reading c.args.self.now
    (seen c.advance.new.clocks c.advance.new.self) c.advance.result
    (reading_refusal c.args.reading c.args.self.now) refl (told c)

pub returns-clause-none : goal.returns-clause-none
returns-clause-none c =
    let s = c.args.self.now in
    let end = seen c.advance.new.clocks c.advance.new.self in
    arrived_holds (λ at. second_begun_late at c.args.reading) (IsNoneDue end c.args.reading) c.args.reading s end
    c.advance.result (reading_refusal c.args.reading s) refl (told c)
    (λ accepted chain. none_left (λ at. second_begun_late at c.args.reading) c.args.reading s end chain)

pub returns-clause-consistent : goal.returns-clause-consistent
returns-clause-consistent c =
    let s = c.args.self.now in
    let end = seen c.advance.new.clocks c.advance.new.self in
    arrived_holds (λ at. second_begun_late at c.args.reading) (IsConsistent s → IsConsistent end)
    c.args.reading s end c.advance.result (reading_refusal c.args.reading s) refl (told c)
    (λ accepted chain. λ consistent.
    consistent_late c.args.reading s end chain (ahead_at c.args.reading s accepted)
    (awake_at c.args.reading s accepted) consistent)

pub returns-clause-number : goal.returns-clause-number
returns-clause-number c =
    let s = c.args.self.now in
    let end = seen c.advance.new.clocks c.advance.new.self in
    arrived_holds (λ at. second_begun_late at c.args.reading) (IsNumberedLate c.args.reading s end)
    c.args.reading s end c.advance.result (reading_refusal c.args.reading s) refl (told c)
    (λ accepted chain. numbered_late c.args.reading s end chain)

pub returns-clause-offset : goal.returns-clause-offset
returns-clause-offset c =
    let s = c.args.self.now in
    let end = seen c.advance.new.clocks c.advance.new.self in
    arrived_holds (λ at. second_begun_late at c.args.reading) (IsOffsetKeptLate c.args.reading s end)
    c.args.reading s end c.advance.result (reading_refusal c.args.reading s) refl (told c)
    (λ accepted chain. offset_kept_late c.args.reading s end chain)

pub returns-clause-tai : goal.returns-clause-tai
returns-clause-tai c =
    let s = c.args.self.now in
    let end = seen c.advance.new.clocks c.advance.new.self in
    arrived_holds (λ at. second_begun_late at c.args.reading) (IsTaiKeptLate c.args.reading s end)
    c.args.reading s end c.advance.result (reading_refusal c.args.reading s) refl (told c)
    (λ accepted chain. tai_kept_late c.args.reading s end chain)

pub returns-clause-sum : goal.returns-clause-sum
returns-clause-sum c =
    let s = c.args.self.now in
    let end = seen c.advance.new.clocks c.advance.new.self in
    arrived_holds (λ at. second_begun_late at c.args.reading) (IsConsistent s → IsAccountedLate c.args.reading s end)
    c.args.reading s end c.advance.result (reading_refusal c.args.reading s) refl (told c)
    (λ accepted chain. λ consistent. accounted_late c.args.reading s end chain accepted consistent)
