use Rattle.std.proofs.Common.{◌≡◌, subst, false}
use Rattle.std.specs.Prelude.{IfOk, None}
use Rattle.tk_keeper.specs.Room.{HasAdded, HasRoom, IsShort, keeper_state}
use Rattle.tk_ntp.specs.Account.{IsAccounted, IsConsistent}
use Rattle.tk_ntp.specs.Advance.{IsAdvanced, IsNoneDue, second_begun_at}
use Rattle.tk_ntp.specs.History.{IsNumbered, IsOffsetKept, IsTaiKept}
use Rattle.tk_ntp.specs.Often.{IsAtOnce}
use Rattle.tk_ntp.specs.Steady.{StaysSmall}
use Rattle.tk_ntp.specs.SteeredClock.{reading_refusal}
use Rattle.tk_ntp.proofs.Accepted.{awake_at}
use Rattle.tk_ntp.proofs.Account.{accounted_for}
use Rattle.tk_ntp.proofs.History.{offset_kept}
use Rattle.tk_ntp.proofs.Numbered.{numbered}
use Rattle.tk_ntp.proofs.Often.{at_once, none_left}
use Rattle.tk_ntp.proofs.SeenBy.{arrived, arrived_holds}
use Rattle.tk_ntp.proofs.Steady.{stays_small}
use Rattle.tk_ntp.proofs.TaiKept.{tai_kept}
use Rattle.tk_steered.specs.Kept.{IsAdvancedTo, SteeredKeeper, steered_of}
use Rattle.tk_steered.proofs.Stopped.{advanced_consistent, advanced_rest}
use Rattle.tk_steered.proofs.steered.Steered.advance.Goals as goal

abbrev end : (g : _) → goal.After-advance g → SteeredKeeper
end g c = record { keeper = c.advance.new.clocks; course = c.advance.new.self }

pub returns-clause-answer : goal.returns-clause-answer
returns-clause-answer g c =
    subst (λ (k : SteeredKeeper).
    IsAdvancedTo false c.args.who c.args.reading k c.advance.result (end g c)) c.self.view_is
    c.advance.ensures

pub returns-clause-clocks : goal.returns-clause-clocks
returns-clause-clocks g c =
    let before = c.args.self.now in
    arrived keeper_state HasAdded HasRoom IsShort false c.args.who c.args.reading before.keeper
    before.course c.advance.result c.advance.new.clocks c.advance.new.self
    (returns-clause-answer g c)

-- what holds if all seconds have begun
held : (g : _) (c : goal.After-advance g) (P : Type 0) →
    (reading_refusal c.args.reading (steered_of c.args.self.now) ≡ None →
    IsAdvanced c.args.reading (steered_of c.args.self.now) (steered_of (end g c)) → P) →
    IfOk c.advance.result (λ _. P)
held g c P =
    let before = c.args.self.now in
    arrived_holds keeper_state HasAdded HasRoom IsShort P false c.args.who c.args.reading
    before.keeper before.course c.advance.result c.advance.new.clocks c.advance.new.self
    (returns-clause-answer g c)

pub returns-clause-none : goal.returns-clause-none
returns-clause-none g c =
    let before = steered_of c.args.self.now in
    let after = steered_of (end g c) in
    held g c (IsNoneDue after c.args.reading)
    (λ accepted chain. none_left second_begun_at c.args.reading before after chain)

pub returns-clause-at_once : goal.returns-clause-at_once
returns-clause-at_once g c =
    let middle = steered_of c.args.self.now in
    let after = steered_of (end g c) in
    held g c (IsAtOnce c.args.reading middle after)
    (λ accepted chain. λ before earlier first order.
    at_once earlier c.args.reading before middle after first chain order)

pub returns-clause-number : goal.returns-clause-number
returns-clause-number g c =
    let before = steered_of c.args.self.now in
    let after = steered_of (end g c) in
    held g c (IsNumbered c.args.reading before after)
    (λ accepted chain. numbered c.args.reading before after chain)

pub returns-clause-offset : goal.returns-clause-offset
returns-clause-offset g c =
    let before = steered_of c.args.self.now in
    let after = steered_of (end g c) in
    held g c (IsOffsetKept c.args.reading before after)
    (λ accepted chain. offset_kept c.args.reading before after chain)

pub returns-clause-tai : goal.returns-clause-tai
returns-clause-tai g c =
    let before = steered_of c.args.self.now in
    let after = steered_of (end g c) in
    held g c (IsTaiKept c.args.reading before after)
    (λ accepted chain. tai_kept c.args.reading before after chain)

pub returns-clause-sum : goal.returns-clause-sum
returns-clause-sum g c =
    let before = steered_of c.args.self.now in
    let after = steered_of (end g c) in
    held g c (IsConsistent before → IsAccounted c.args.reading before after)
    (λ accepted chain. λ consistent.
    accounted_for c.args.reading before after chain (awake_at c.args.reading before accepted) consistent)

pub returns-clause-small : goal.returns-clause-small
returns-clause-small g c =
    let before = steered_of c.args.self.now in
    let after = steered_of (end g c) in
    held g c (StaysSmall c.args.reading before after)
    (λ accepted chain. stays_small c.args.reading before after chain)

pub returns-clause-consistent : goal.returns-clause-consistent
returns-clause-consistent g c =
    advanced_consistent c.args.who c.args.reading c.args.self.now (end g c) c.advance.result
    (returns-clause-answer g c)

pub returns-clause-rest : goal.returns-clause-rest
returns-clause-rest g c =
    advanced_rest c.args.who c.args.reading false c.args.self.now (end g c) c.advance.result
    (returns-clause-answer g c)
