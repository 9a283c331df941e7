use Rattle.std.proofs.Common.{◌≡◌, subst, true}
use Rattle.std.specs.Prelude.{IfOk, None}
use Rattle.tk_keeper.specs.Room.{HasAdded, HasRoom, IsShort, keeper_state}
use Rattle.tk_ntp.specs.Account.{IsConsistent}
use Rattle.tk_ntp.specs.Advance.{IsNoneDue}
use Rattle.tk_ntp.specs.Late.{IsAdvancedLate, second_begun_late}
use Rattle.tk_ntp.specs.LateLaws.{IsAccountedLate, IsNumberedLate, IsOffsetKeptLate, IsTaiKeptLate}
use Rattle.tk_ntp.specs.SteeredClock.{reading_refusal}
use Rattle.tk_ntp.proofs.AccountLate.{accounted_late}
use Rattle.tk_ntp.proofs.History.{offset_kept_late}
use Rattle.tk_ntp.proofs.Numbered.{numbered_late}
use Rattle.tk_ntp.proofs.Often.{none_left}
use Rattle.tk_ntp.proofs.SeenBy.{arrived, arrived_holds}
use Rattle.tk_ntp.proofs.TaiKept.{tai_kept_late}
use Rattle.tk_steered.specs.Kept.{IsAdvancedTo, SteeredKeeper, steered_of}
use Rattle.tk_steered.proofs.Continued.{continued}
use Rattle.tk_steered.proofs.Stopped.{advanced_rest}
use Rattle.tk_steered.proofs.StoppedLate.{late_consistent}
use Rattle.tk_steered.proofs.steered.Steered.advance_late.Goals as goal

abbrev end : (g : _) → goal.After-advance g → SteeredKeeper
end g c = record { keeper = c.advance.new.clocks; course = c.advance.new.self }

pub returns-clause-answer : goal.returns-clause-answer
returns-clause-answer g c =
    subst (λ (k : SteeredKeeper).
    IsAdvancedTo true c.args.who c.args.reading k c.advance.result (end g c)) c.self.view_is
    c.advance.ensures

pub returns-clause-clocks : goal.returns-clause-clocks
returns-clause-clocks g c =
    let before = c.args.self.now in
    arrived keeper_state HasAdded HasRoom IsShort true c.args.who c.args.reading before.keeper
    before.course c.advance.result c.advance.new.clocks c.advance.new.self
    (returns-clause-answer g c)

-- what holds if all seconds have begun
held : (g : _) (c : goal.After-advance g) (P : Type 0) →
    (reading_refusal c.args.reading (steered_of c.args.self.now) ≡ None →
    IsAdvancedLate c.args.reading (steered_of c.args.self.now) (steered_of (end g c)) → P) →
    IfOk c.advance.result (λ _. P)
held g c P =
    let before = c.args.self.now in
    arrived_holds keeper_state HasAdded HasRoom IsShort P true c.args.who c.args.reading
    before.keeper before.course c.advance.result c.advance.new.clocks c.advance.new.self
    (returns-clause-answer g c)

pub returns-clause-none : goal.returns-clause-none
returns-clause-none g c =
    let before = steered_of c.args.self.now in
    let after = steered_of (end g c) in
    held g c (IsNoneDue after c.args.reading)
    (λ accepted chain.
    none_left (λ at. second_begun_late at c.args.reading) c.args.reading before after chain)

pub returns-clause-number : goal.returns-clause-number
returns-clause-number g c =
    let before = steered_of c.args.self.now in
    let after = steered_of (end g c) in
    held g c (IsNumberedLate c.args.reading before after)
    (λ accepted chain. numbered_late c.args.reading before after chain)

pub returns-clause-offset : goal.returns-clause-offset
returns-clause-offset g c =
    let before = steered_of c.args.self.now in
    let after = steered_of (end g c) in
    held g c (IsOffsetKeptLate c.args.reading before after)
    (λ accepted chain. offset_kept_late c.args.reading before after chain)

pub returns-clause-tai : goal.returns-clause-tai
returns-clause-tai g c =
    let before = steered_of c.args.self.now in
    let after = steered_of (end g c) in
    held g c (IsTaiKeptLate c.args.reading before after)
    (λ accepted chain. tai_kept_late c.args.reading before after chain)

pub returns-clause-sum : goal.returns-clause-sum
returns-clause-sum g c =
    let before = steered_of c.args.self.now in
    let after = steered_of (end g c) in
    held g c (IsConsistent before → IsAccountedLate c.args.reading before after)
    (λ accepted chain. λ consistent.
    accounted_late c.args.reading before after chain accepted consistent)

pub returns-clause-consistent : goal.returns-clause-consistent
returns-clause-consistent g c =
    late_consistent c.args.who c.args.reading c.args.self.now (end g c) c.advance.result
    (returns-clause-answer g c)

pub returns-clause-rest : goal.returns-clause-rest
returns-clause-rest g c =
    advanced_rest c.args.who c.args.reading true c.args.self.now (end g c) c.advance.result
    (returns-clause-answer g c)

pub returns-clause-entries : goal.returns-clause-entries
returns-clause-entries g c =
    continued c.args.who c.args.reading c.args.self.now (end g c) c.advance.result
    (returns-clause-answer g c)
