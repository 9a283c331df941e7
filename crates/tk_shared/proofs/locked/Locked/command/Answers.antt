use Rattle.std.proofs.Common.{◌≡◌, ℕ, ◌+◌, ◌<◌, ◌≤◌, ◌++◌, ◌∷◌, [], sym, ap, ◌∙◌, subst, refl, arith, bit_and, List, rules}
use Rattle.std.proofs.lemmas.Option.{same_Some}
use Rattle.tk_clock.specs.declared.command.Entry.{Entry}
use Rattle.tk_clock.specs.Journal.{Journal, followed_by, accepted_count}
use Rattle.tk_clock.specs.Snapshot.{Snapshot, snapshot_of}
use Rattle.tk_page.specs.History.{History, Sight}
use Rattle.tk_latch.specs.Latch.{Learnt, Published, told_reader}
use Rattle.tk_shared.specs.Callers.{Known, known_of, entry_of, made_by, IsAccepted, IsRefused}
use Rattle.tk_now.specs.declared.rule.Taken.{Taken}
use Rattle.tk_now.specs.Moments.{AreInOrder, IsAcceptedAt}
use Rattle.tk_now.specs.Views.{Announcing, moment_of, taken}
use Rattle.tk_shared.specs.Locked.{Guarded, Held, held_of, IsAtRest, IsHeld}
use Rattle.tk_shared.specs.Readings.{EndsAtReading, IsRefusedAtReading}
use Rattle.tk_keeper.specs.Keeper.{Keeper}
use Rattle.tk_shared.proofs.Announced.{accepted_at_rest, refused_at_rest, informed_at_rest}
use Rattle.tk_shared.proofs.Counts.{own_more}
use Rattle.tk_shared.proofs.ListedFolds.{counts_on}
use Rattle.tk_shared.proofs.Held.{with_entry, held_accepted}
use Rattle.tk_shared.proofs.Kept.{kept_snapshot}
use Rattle.tk_shared.proofs.Commands.{refused, accepted, reason, low_bits}
use Rattle.tk_shared.proofs.locked.Locked.command.Given.{Over}
use Rattle.tk_shared.proofs.locked.Locked.command.Goals as goal

-- the caller and the values under the lock before a refused command
abbrev refused_caller : (g : Over) → goal.After-tell g → Known
refused_caller g c =
    let caller = c.caller.inside in
    known_of caller.id caller.accepted caller.viewer caller.reader caller.notice_reader
    caller.folds.folded

abbrev refused_by : (g : Over) → goal.After-tell g → Held
refused_by g c =
    let inside = c.self.inside in
    held_of inside.keeper.journal inside.writers.page inside.writers.latch inside.mask inside.book.total

-- the same before a command that was accepted
abbrev caller_of : (g : Over) → goal.After-caller-1 g → Known
caller_of g c =
    let caller = c.caller.inside in
    known_of caller.id caller.accepted caller.viewer caller.reader caller.notice_reader
    caller.folds.folded

abbrev held_by : (g : Over) → goal.After-caller-1 g → Held
held_by g c =
    let inside = c.self.inside in
    held_of inside.keeper.journal inside.writers.page inside.writers.latch inside.mask inside.book.total

-- the caller knew of no more folded entries
more_refused : (g : Over) (c : goal.After-tell g) →
    (refused_caller g c).folded ≤ (refused_by g c).kept.opening.count
more_refused g c =
    let low = c.show.ensures.more in
    let same = c.folded-folded.ensures in
    omega (arith, low, same)

more_accepted : (g : Over) (c : goal.After-caller-1 g) →
    (caller_of g c).folded ≤ (held_by g c).kept.opening.count
more_accepted g c =
    let low = c.show.ensures.more in
    let same = c.folded-folded.ensures in
    omega (arith, low, same)

-- the command's entry
abbrev entry_by : (g : Over) → goal.After-caller-1 g → Entry
entry_by g c =
    entry_of (caller_of g c) (bit_and c.read_after.result c.self.inside.mask) c.args.cmd

now_held : (g : Over) (c : goal.After-caller-1 g) →
    IsHeld g.L.Named.page g.L.Named.latch (with_entry (held_by g c) (entry_by g c))
now_held g c = held_accepted g.L.Named.page g.L.Named.latch (held_by g c) (entry_by g c)
    c.self.invariant.0 c.in-Ok.ensures.answer.0

next_is : (g : Over) (c : goal.After-caller-1 g) →
    c.snapshot-snapshot.result
    ≡ snapshot_of (followed_by c.self.inside.writers.page.journal (entry_by g c))
next_is g c =
    let now = now_held g c in
    c.snapshot-snapshot.ensures.value
    ∙ ap snapshot_of c.in-Ok.ensures.answer.1
    ∙ kept_snapshot _ _ now.whole now.kept

shown : (g : Over) (c : goal.After-caller-1 g) →
    c.publish_for.new.self ≡ (with_entry (held_by g c) (entry_by g c)).shown
shown g c = c.publish_for.ensures.journal

latched : (g : Over) (c : goal.After-caller-1 g) →
    c.publish.new.self ≡ (with_entry (held_by g c) (entry_by g c)).latched
latched g c =
    let pushed : Published × Snapshot → Published =
    λ p. record p.0 { publications = p.0.publications ++ p.1 ∷ [] } in
    c.publish.ensures ∙ ap pushed (λ i. (c.tell-2.ensures.writer i, next_is g c i))

at_rest : (g : Over) (c : goal.After-caller-1 g) →
    IsAtRest g.L.Named.notice.commands (followed_by c.self.inside.writers.page.journal (entry_by g c))
    c.tell-4.new.self
at_rest g c =
    let entry = entry_by g c in
    let informed = c.tell-4.ensures.same in
    informed_at_rest g.L.Named.notice.commands (followed_by c.self.inside.writers.page.journal entry)
    c.accept.new.self c.tell-4.new.self c.tell-4.new.self.log informed
    (accepted_at_rest g.L.Named.notice.commands c.self.inside.writers.page.journal c.self.inside.writers.notice
    c.accept.new.self entry c.announce.new.self.since entry.reading c.self.invariant.3
    (c.accept.ensures.notice ∙ c.announce.ensures.same.0) c.accept.ensures.idle refl
    (subst (λ (l : List Taken). IsAcceptedAt c.announce.new.self.since l entry.reading
    c.accept.new.self.commands) c.announce.ensures.same.1 c.accept.ensures.accepted)
    (subst AreInOrder (ap (λ (a : Announcing). a.commands) informed) c.tell-4.ensures.told.order))

pub returns-in-Err-clause-answer : goal.returns-in-Err-clause-answer
returns-in-Err-clause-answer g c =
    let old = refused_caller g c in
    let stated = refused g.L.Named.page g.L.Named.latch (refused_by g c) c.self.invariant.0 old
    c.read_after.result c.args.cmd c.tell.ensures.begins (more_refused g c) c.in-Err.refusal
    c.in-Err.ensures.answer.0 in
    let folded = c.show.ensures.reader.1 ∙ c.folded-folded.ensures in
    let new : Journal × ℕ × ℕ → Known =
    λ p. record old { reads = p.1; seen = p.0; folded = p.2 } in
    let sight : Sight × ℕ → Journal × ℕ × ℕ = λ p. (p.0.journal, p.0.reads, p.1) in
    let known : Sight × ℕ = (c.tell.new.viewer, c.show.new.reader.folded) in
    let seen = ap sight (λ i. (c.tell.ensures.viewer i, folded i)) in
    let history = ap (λ (h : History). h.journal) c.tell.ensures.publisher in
    let guarded : Journal × Journal → Guarded = λ p. record { history = p.0; journal = p.1 } in (
      subst (λ (k : Known). IsRefused k (new (sight known)) c.args.cmd c.in-Err.refusal)
          c.caller.view_is
          (subst (λ (p : Journal × ℕ × ℕ). IsRefused old (new p) c.args.cmd c.in-Err.refusal)
          (sym seen) stated),
      ap guarded (λ i. (history i, ap (λ (k : Keeper). k.journal) c.in-Err.ensures.answer.1 i))
          ∙ c.self.view_is,
    )

pub returns-in-Err-clause-reading : goal.returns-in-Err-clause-reading
returns-in-Err-clause-reading g c =
    let old = refused_caller g c in
    let held = refused_by g c in
    let answer = c.read_after.result in
    let stated = reason g.L.Named.page g.L.Named.latch held c.self.invariant.0 old answer c.args.cmd
    c.tell.ensures.begins (more_refused g c) c.in-Err.refusal c.in-Err.ensures.answer.0 in
    let low = low_bits g.L.Named.page g.L.Named.latch held c.self.invariant.0 old answer c.args.cmd
    c.tell.ensures.begins (more_refused g c) in
    let seen = ap (λ (s : Sight). s.journal) c.tell.ensures.viewer in
    let folded = c.show.ensures.reader.1 ∙ c.folded-folded.ensures in
    let now : Journal × ℕ → Known =
    λ p. record old { reads = c.tell.new.viewer.reads; seen = p.0; folded = p.1 } in
    let found : IsRefusedAtReading g.C.Counter.answers_after old
    (now (held.shown.journal, held.kept.opening.count)) c.args.cmd c.in-Err.refusal =
    record {
      counter = c.self.inside.counter;
      from = moment_of c.look.result.now;
      reading = bit_and answer held.mask;
      read = record { answer = answer; given = c.read_after.ensures.given; kept = low };
      reason = stated;
    } in
    subst
    (λ (p : Known × Journal × ℕ).
    IsRefusedAtReading g.C.Counter.answers_after p.0 (now (p.1, p.2)) c.args.cmd c.in-Err.refusal)
    (λ i. (c.caller.view_is i, sym seen i, sym folded i)) found

pub publish_for-requires-clause-snapshot : goal.publish_for-requires-clause-snapshot
publish_for-requires-clause-snapshot g c =
    let entry : Entry = record {
      who = c.caller.inside.id;
      reading = bit_and c.read_after.result c.self.inside.mask;
      cmd = c.args.cmd;
    } in
    let now = held_accepted g.L.Named.page g.L.Named.latch _ entry c.self.invariant.0
    c.in-Ok.ensures.answer.0 in
    c.snapshot-snapshot.ensures.value
    ∙ ap snapshot_of c.in-Ok.ensures.answer.1
    ∙ kept_snapshot _ _ now.whole now.kept

pub invariant_of-self : goal.invariant_of-self
invariant_of-self g c =
    let held : Journal × History → Held = λ t. record {
      kept = t.0;
      shown = t.1;
      latched = c.self.inside.writers.latch;
      mask = c.self.inside.mask;
      total = c.self.inside.book.total;
    } in
    let kept = ap (λ (k : Keeper). k.journal) c.in-Err.ensures.answer.1 in (
      subst (λ (t : Journal × History). IsHeld g.L.Named.page g.L.Named.latch (held t))
          (λ i. (sym kept i, sym c.tell.ensures.publisher i)) c.self.invariant.0,
      c.self.invariant.1,
      c.self.invariant.2,
      subst (λ (h : History). IsAtRest g.L.Named.notice.commands h.journal c.withdraw.new.self)
          (sym c.tell.ensures.publisher)
          (refused_at_rest g.L.Named.notice.commands c.self.inside.writers.page.journal
          c.self.inside.writers.notice c.announce.new.self c.withdraw.new.self c.self.invariant.3
          c.announce.ensures.same.0 c.announce.ensures.same.1 c.withdraw.ensures),
      counts_on g.L.Named.notice.folds c.self.inside.writers.folds c.show.new.self _ _
          c.self.invariant.4 c.show.ensures.same
          (ap (λ (j : Journal). j.opening.count) (sym kept)),
      c.in-Err.ensures.began ∙ c.self.invariant.5,
    )

pub invariant_of-self-2 : goal.invariant_of-self-2
invariant_of-self-2 g c =
    let published = shown g c in
    let stated = c.tell-3.ensures.writer ∙ latched g c in (
      subst (IsHeld g.L.Named.page g.L.Named.latch)
          (λ i. record {
            kept = sym c.in-Ok.ensures.answer.1 i;
            shown = sym published i;
            latched = sym stated i;
            mask = c.self.inside.mask;
            total = sym c.add.ensures.total i;
          })
          (now_held g c),
      c.self.invariant.1,
      c.self.invariant.2,
      subst (λ (j : Journal). IsAtRest g.L.Named.notice.commands j c.tell-4.new.self)
          (ap (λ (h : History). h.journal) (sym published)) (at_rest g c),
      counts_on g.L.Named.notice.folds c.self.inside.writers.folds c.show.new.self _ _
          c.self.invariant.4 c.show.ensures.same
          (ap (λ (j : Journal). j.opening.count) (sym c.in-Ok.ensures.answer.1)),
      c.in-Ok.ensures.began ∙ c.self.invariant.5,
    )

pub invariant_of-caller-2 : goal.invariant_of-caller-2
invariant_of-caller-2 g c =
    let old = caller_of g c in
    let history = c.self.inside.writers.page.journal in
    let seen = ap (λ (s : Sight). s.journal) c.publish_for.ensures.viewer in (
      search rules,
      search rules,
      search rules,
      search rules,
      subst (λ (j : Journal). old.accepted + 1 ≤ made_by old.id j.entries) (sym seen)
          (own_more old.id old.accepted old.seen.entries history.entries (entry_by g c) refl
          c.publish_for.ensures.begins.1 c.caller.invariant.4),
      search rules,
      search rules,
    )

pub returns-clause-answer : goal.returns-clause-answer
returns-clause-answer g c =
    let old = caller_of g c in
    let answer = c.in-Ok.ensures.answer in
    let stated = accepted g.L.Named.page g.L.Named.latch (held_by g c) c.self.invariant.0 old
    c.read_after.result c.args.cmd c.publish_for.ensures.begins (more_accepted g c) c.in-Ok.number
    c.tell-2.ensures.extends answer.0 (answer.2 ∙ ap accepted_count answer.1) g.L.Named.notice.commands c.tell-4.new.self
    c.tell-4.new.reader (at_rest g c) c.tell-4.ensures.told in
    let seen = ap (λ (s : Sight). s.journal) c.publish_for.ensures.viewer in
    let reads = ap (λ (s : Sight). s.reads) c.publish_for.ensures.viewer in
    let learnt = c.tell-3.ensures.reader ∙ ap told_reader (latched g c) in
    let folded = c.show.ensures.reader.1 ∙ c.folded-folded.ensures in
    let new : ℕ × Journal × Learnt × ℕ → Known = λ p. record {
      id = old.id;
      accepted = old.accepted + 1;
      reads = p.0;
      seen = p.1;
      learnt = p.2;
      noticed = c.tell-4.new.reader;
      folded = p.3;
    } in
    let known : ℕ × Journal × Learnt × ℕ = (
      c.publish_for.new.viewer.reads,
      c.publish_for.new.viewer.journal,
      c.tell-3.new.reader,
      c.show.new.reader.folded,
    ) in
    subst (λ (k : Known). IsAccepted k (new known) c.args.cmd c.in-Ok.number)
    c.caller.view_is
    (subst (λ (p : ℕ × Journal × Learnt × ℕ). IsAccepted old (new p) c.args.cmd c.in-Ok.number)
    (λ i. (sym reads i, sym seen i, sym learnt i, sym folded i)) stated)

pub returns-clause-reading : goal.returns-clause-reading
returns-clause-reading g c =
    let held = held_by g c in
    let answer = c.read_after.result in
    let low = low_bits g.L.Named.page g.L.Named.latch held c.self.invariant.0 (caller_of g c) answer
    c.args.cmd c.publish_for.ensures.begins (more_accepted g c) in
    let seen = ap (λ (s : Sight). s.journal) c.publish_for.ensures.viewer in
    let at = c.accept.ensures.accepted in
    let same : at.0 ≡ moment_of c.look.result.now =
    same_Some _ _ (sym at.2 ∙ c.look.ensures) in
    let found : EndsAtReading g.C.Counter.answers_after
    (followed_by held.shown.journal (entry_by g c)) c.tell-4.new.reader.commands =
    record {
      counter = c.self.inside.counter;
      from = moment_of c.look.result.now;
      before = held.shown.journal;
      entry = entry_by g c;
      last = refl;
      read = record { answer = answer; given = c.read_after.ensures.given; kept = low };
      older = c.announce.new.self.commands;
      to = at.1;
      span = subst (λ (n : ℕ). n < at.1) same at.3;
      listed = c.tell-4.ensures.told.commands
          ∙ (ap (λ (a : Announcing). a.commands) c.tell-4.ensures.same ∙ at.4
          ∙ ap (λ (n : ℕ). c.announce.new.self.commands ++ taken n at.1 (entry_by g c).reading ∷ [])
          same);
    } in
    subst (λ (j : Journal).
    EndsAtReading g.C.Counter.answers_after j c.tell-4.new.reader.commands) (sym seen) found

pub returns-in-Err-clause-folds : goal.returns-in-Err-clause-folds
returns-in-Err-clause-folds g c =
    c.show.ensures.reader.1 ∙ c.folded-folded.ensures
    ∙ ap (λ (v : Guarded). v.journal.opening.count) c.self.view_is

pub returns-clause-folds : goal.returns-clause-folds
returns-clause-folds g c =
    c.show.ensures.reader.1 ∙ c.folded-folded.ensures
    ∙ ap (λ (v : Guarded). v.journal.opening.count) c.self.view_is
