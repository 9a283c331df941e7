use Rattle.std.proofs.Common.{◌≡◌, refl, subst, false}
use Rattle.std.specs.Prelude.{Ok, Err, MatchOption}
use Rattle.tk_ntp.specs.Account.{IsAccounted, IsConsistent}
use Rattle.tk_ntp.specs.Advance.{second_begun_at, IsAdvanced, IsNoneDue}
use Rattle.tk_ntp.specs.Course.{seen}
use Rattle.tk_ntp.specs.History.{IsNumbered, IsOffsetKept, IsTaiKept}
use Rattle.tk_ntp.specs.Often.{IsAtOnce}
use Rattle.tk_ntp.specs.Steady.{StaysSmall}
use Rattle.tk_ntp.specs.SteeredClock.{SteeredClock, reading_refusal}
use Rattle.tk_ntp.proofs.Accepted.{awake_at}
use Rattle.tk_ntp.proofs.Account.{accounted_for}
use Rattle.tk_ntp.proofs.Alone.{arrived}
use Rattle.tk_ntp.proofs.History.{offset_kept}
use Rattle.tk_ntp.proofs.Laws.{arrived_answer, arrived_holds}
use Rattle.tk_ntp.proofs.Numbered.{numbered}
use Rattle.tk_ntp.proofs.Often.{at_once, none_left}
use Rattle.tk_ntp.proofs.Steady.{stays_small}
use Rattle.tk_ntp.proofs.TaiKept.{tai_kept}
use Rattle.tk_ntp.proofs.steered_clock.SteeredClock.advance.Goals as goal

-- the seconds begin, or the reading is refused
told : (c : goal.After-advance) →
    let end = seen c.advance.new.clocks c.advance.new.self in
    MatchOption (reading_refusal c.args.reading c.args.self.now)
    ((c.advance.result ≡ Ok (tt {0})) × IsAdvanced c.args.reading c.args.self.now end)
    (λ r. (c.advance.result ≡ Err r) × (end ≡ c.args.self.now))
told c =
    let end = seen c.advance.new.clocks c.advance.new.self in
    subst (λ (s : SteeredClock). MatchOption (reading_refusal c.args.reading s)
    ((c.advance.result ≡ Ok (tt {0})) × IsAdvanced c.args.reading s end)
    (λ r. (c.advance.result ≡ Err r) × (end ≡ s))) c.self.view_is
    (arrived false 0 c.args.reading c.self.inside.clock c.self.inside.course c.advance.result
    c.advance.new.clocks c.advance.new.self c.advance.ensures)

pub returns-clause-answer : goal.returns-clause-answer
returns-clause-answer c =
    arrived_answer second_begun_at c.args.reading c.args.self.now
    (seen c.advance.new.clocks c.advance.new.self) c.advance.result
    (reading_refusal c.args.reading c.args.self.now) refl (told c)

pub returns-clause-none : goal.returns-clause-none
returns-clause-none c =
    let s = c.args.self.now in
    let end = seen c.advance.new.clocks c.advance.new.self in
    arrived_holds second_begun_at (IsNoneDue end c.args.reading) c.args.reading s end
    c.advance.result (reading_refusal c.args.reading s) refl (told c)
    (λ accepted chain. none_left second_begun_at c.args.reading s end chain)

pub returns-clause-at_once : goal.returns-clause-at_once
returns-clause-at_once c =
    let s = c.args.self.now in
    let end = seen c.advance.new.clocks c.advance.new.self in
    arrived_holds second_begun_at (IsAtOnce c.args.reading s end) c.args.reading s end
    c.advance.result (reading_refusal c.args.reading s) refl (told c)
    (λ accepted chain. λ before earlier first order.
    at_once earlier c.args.reading before s end first chain order)

pub returns-clause-offset : goal.returns-clause-offset
returns-clause-offset c =
    let s = c.args.self.now in
    let end = seen c.advance.new.clocks c.advance.new.self in
    arrived_holds second_begun_at (IsOffsetKept c.args.reading s end) c.args.reading s end
    c.advance.result (reading_refusal c.args.reading s) refl (told c)
    (λ accepted chain. offset_kept c.args.reading s end chain)

pub returns-clause-number : goal.returns-clause-number
returns-clause-number c =
    let s = c.args.self.now in
    let end = seen c.advance.new.clocks c.advance.new.self in
    arrived_holds second_begun_at (IsNumbered c.args.reading s end) c.args.reading s end
    c.advance.result (reading_refusal c.args.reading s) refl (told c)
    (λ accepted chain. numbered c.args.reading s end chain)

pub returns-clause-tai : goal.returns-clause-tai
returns-clause-tai c =
    let s = c.args.self.now in
    let end = seen c.advance.new.clocks c.advance.new.self in
    arrived_holds second_begun_at (IsTaiKept c.args.reading s end) c.args.reading s end
    c.advance.result (reading_refusal c.args.reading s) refl (told c)
    (λ accepted chain. tai_kept c.args.reading s end chain)

pub returns-clause-sum : goal.returns-clause-sum
returns-clause-sum c =
    let s = c.args.self.now in
    let end = seen c.advance.new.clocks c.advance.new.self in
    arrived_holds second_begun_at (IsConsistent s → IsAccounted c.args.reading s end) c.args.reading s end
    c.advance.result (reading_refusal c.args.reading s) refl (told c)
    (λ accepted chain. λ consistent.
    accounted_for c.args.reading s end chain (awake_at c.args.reading s accepted) consistent)

pub returns-clause-small : goal.returns-clause-small
returns-clause-small c =
    let s = c.args.self.now in
    let end = seen c.advance.new.clocks c.advance.new.self in
    arrived_holds second_begun_at (StaysSmall c.args.reading s end) c.args.reading s end
    c.advance.result (reading_refusal c.args.reading s) refl (told c)
    (λ accepted chain. stays_small c.args.reading s end chain)
