-- The later of two answers isn't smaller.
use Rattle.std.proofs.Common.{◌≡◌, ℕ, List, [], ◌∷◌, length, refl, sym, ap, ◌∙◌, subst, arith, inl, inr}
use Rattle.std.specs.Prelude.{◌≤ℤ◌}
use Rattle.std.proofs.lemmas.List.{length_push}
use Rattle.tk_clock.specs.declared.timespec.Timespec.{Timespec}
use Rattle.tk_clock.specs.Journal.{Journal}
use Rattle.tk_clock.specs.Time.{nanoseconds}
use Rattle.tk_clock.proofs.Lists.{prefix_whole}
use Rattle.tk_now.specs.declared.rule.Taken.{Taken}
use Rattle.tk_now.specs.declared.rule.Answer.{Answer}
use Rattle.tk_now.specs.Moments.{AreInLife}
use Rattle.tk_page.specs.History.{Begins}
use Rattle.tk_shared.specs.Callers.{Known, IsInformed, IsKnownBy}
use Rattle.tk_shared.specs.NeverBack.{IsHonest, OpenNowNeverFalls, answer_seen}
use Rattle.tk_shared.specs.Now.{KnowsMore}
use Rattle.tk_shared.specs.Readings.{EndsAtReading}
use Rattle.tk_shared.proofs.Between.{life_two}
use Rattle.tk_shared.proofs.Calls.{informed_within, known_within, answered_of}
use Rattle.tk_shared.proofs.Informed.{known_by_trans}
use Rattle.tk_uses.specs.InTurn.{HasCommanded, HaveAsked, IsTrusted}

module _ {S : Type 0} (answers : S → ℕ → ℕ → Type 0) (counter : S) (one two last : Known)
    (time time' : Timespec) (asked : HaveAsked answers counter one two time time')
    (informed : IsInformed last) (known_one : IsKnownBy one last) (known_two : IsKnownBy two last)
  where
    abbrev first : Answer
    first = answer_seen answers counter asked.before asked.after time asked.seen

    abbrev second : Answer
    second = answer_seen answers counter asked.before' asked.after' time' asked.seen'

    known : IsKnownBy asked.after last
    known = known_by_trans asked.after one last asked.known known_one

    known' : IsKnownBy asked.after' last
    known' = known_by_trans asked.after' two last asked.known' known_two

    pub in_life : AreInLife last.noticed.commands (first ∷ second ∷ [])
    in_life =
        let commands = last.noticed.commands in
        let log = last.noticed.log in
        let all = informed_within last informed in
        let a = answered_of answers counter last.seen commands log asked.before asked.after time
        (known_within last.seen commands log asked.after last known all) first (inl (asked.seen, refl)) in
        let b = answered_of answers counter last.seen commands log asked.before' asked.after' time'
        (known_within last.seen commands log asked.after' last known' all) second
        (inl (asked.seen', refl)) in
        life_two commands commands log first second a.position b.position (λ k t at. at) a.listed
        b.listed informed.life

    -- the first caller gave the only command
    only_command : {C : Type 0} (after : C → ℕ → ℕ → Type 0) → length last.seen.entries ≡ 1 →
        HasCommanded after one → EndsAtReading after last.seen last.noticed.commands
    only_command after all gave =
        let since = gave.since in
        let begins = known_by_trans since one last gave.known known_one in
        let ends = gave.ends in
        let some = ap (λ (j : Journal). length j.entries) ends.last
        ∙ length_push ends.before.entries ends.entry in
        let entries = prefix_whole since.seen.entries last.seen.entries begins.seen.1
        (omega (arith, all, some)) in
        let same : since.seen ≡ last.seen = λ i. record {
          opening = sym begins.seen.0 i;
          entries = entries i;
        } in
        let mine = gave.readings.count in
        let count = informed.readings.count in
        let commands = prefix_whole since.noticed.commands last.noticed.commands begins.commands
        (omega (arith, all, some, mine, count)) in
        subst (λ (p : Journal × List Taken). EndsAtReading after p.0 p.1)
        (λ i. (same i, commands i)) ends

    -- the later answer isn't smaller, if the counter was honest
    pub ordered : IsHonest last.seen last.noticed.commands first second →
        OpenNowNeverFalls answers → nanoseconds time ≤ℤ nanoseconds time'
    ordered honest law =
        law last informed counter counter asked.before asked.after asked.before' asked.after' time time'
        first second known known' (inl (asked.seen, refl)) (inl (asked.seen', refl))
        (inr (inl asked.handed.log)) honest

    pub rises : {C : Type 0} (after : C → ℕ → ℕ → Type 0) → length last.seen.entries ≡ 1 →
        HasCommanded after one → IsTrusted after answers counter last.seen.opening →
        OpenNowNeverFalls answers → nanoseconds time ≤ℤ nanoseconds time'
    rises after all gave trusted law =
        ordered
        (trusted last.seen last.noticed.commands first second refl all informed.readings
        informed.order (only_command after all gave) asked.seen.timed.given asked.seen'.timed.given
        in_life) law

-- more is known at the end
pub asked_later : {S : Type 0} (answers : S → ℕ → ℕ → Type 0) (counter : S)
    (one two one' two' : Known) (time time' : Timespec) →
    HaveAsked answers counter one two time time' → IsKnownBy one one' → IsKnownBy two two' →
    HaveAsked answers counter one' two' time time'
asked_later answers counter one two one' two' time time' asked known known' = record {
  before = asked.before;
  after = asked.after;
  before' = asked.before';
  after' = asked.after';
  seen = asked.seen;
  seen' = asked.seen';
  handed = asked.handed;
  known = known_by_trans asked.after one one' asked.known known;
  known' = known_by_trans asked.after' two two' asked.known' known';
}

-- a call of `now` leaves what the caller knows
pub now_known : (old new : Known) → Begins old.seen new.seen → KnowsMore old new →
    new.folded ≡ old.folded → IsKnownBy old new
now_known old new seen more folded = record {
  seen = seen;
  learnt = more.0;
  commands = more.1;
  log = more.2;
  folded = omega (arith, folded);
}
