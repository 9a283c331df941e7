use Rattle.std.proofs.Common.{◌≡◌, List, [], ◌∷◌, All, refl, length, sym, ap, ◌∙◌, subst, rules, arith}
use Rattle.std.specs.Vec.Iter.{into_iter_items}
use Rattle.tk_page.specs.History.{History}
use Rattle.tk_clock.proofs.Lists.{prefix_self, prefix_trans}
use Rattle.tk_now.specs.declared.rule.Taken.{Taken}
use Rattle.tk_now.specs.Moments.{AreInLife}
use Rattle.tk_shared.specs.Closing.{HasFolded, HasListed, HasNoticed, IsPartOf, accepted_by}
use Rattle.tk_shared.proofs.Counts.{accepted-cons, all_first}
use Rattle.tk_shared.proofs.Listed.{have_listed}
use Rattle.tk_shared.proofs.closing.take_all.Goals as goal

pub loop-caller-preserved : goal.loop-caller-preserved
loop-caller-preserved g c =
    let i = c.loop-caller.invariant in
    let t = c.take_in.ensures in
    let caller = c.in-Some.caller in
    let rest = into_iter_items c.next.new.self in
    let step : into_iter_items c.loop-caller.caller-iterator ≡ caller ∷ rest = search rules in
    let longer = ap length step in
    let sum = ap accepted_by step ∙ accepted-cons caller rest in
    let history = c.args.writers.now.page.journal in
    let first : IsPartOf history caller =
    subst (λ (h : History). IsPartOf h.journal caller) i.same.0 t.seen in
    let commands = c.args.writers.now.notice.commands in
    let log = c.take_in.new.writers.notice.log in
    let known : HasNoticed commands caller =
    subst (λ (l : List Taken). HasNoticed l caller) i.same.3 t.noticed in
    let alive : AreInLife commands log = subst (λ (l : List Taken). AreInLife l log) i.same.3 t.alive
    in
    let was = i.listed in
    let more = prefix_trans was.0 c.loop-caller.writers.notice.log log was.1 t.log in
    let joined = t.parts.0 in
    let added = t.amount in
    let parts = i.parts in
    let amount = i.amount in
    record {
      same = (
        t.same.0 ∙ i.same.0,
        t.same.1 ∙ i.same.1,
        t.same.2 ∙ i.same.2,
        t.same.3 ∙ i.same.3,
        t.same.4 ∙ i.same.4,
        t.same.5 ∙ i.same.5,
      );
      parts = omega (arith, joined, longer, parts);
      within = t.parts.1;
      amount = omega (arith, added, sum, amount);
      seen = λ others. i.seen (subst (All (IsPartOf history)) (sym step)
          (all_first (IsPartOf history) caller rest first others));
      noticed = λ others. i.noticed (subst (All (HasNoticed commands)) (sym step)
          (all_first (HasNoticed commands) caller rest known others));
      folded = λ others. i.folded (subst (All (HasFolded c.args.folded)) (sym step)
          (all_first (HasFolded c.args.folded) caller rest t.folded others));
      listed = (
        log,
        prefix_self log,
        alive,
        t.turn,
        λ all longer others. was.4 all (prefix_trans was.0 log all more longer)
            (subst (All (HasListed all)) (sym step) (all_first (HasListed all) caller rest
            (prefix_trans caller.noticed.log log all t.listed longer) others)),
      );
    }

pub loop-caller-init : goal.loop-caller-init
loop-caller-init g c =
    let items : into_iter_items c.into_iter-caller-iterator.result ≡ c.args.callers.items =
    search rules in
    record {
      same = search rules;
      parts = search rules;
      within = search rules;
      amount = search rules;
      seen = λ all. subst (All (IsPartOf c.args.writers.now.page.journal)) items all;
      noticed = λ all. subst (All (HasNoticed c.args.writers.now.notice.commands)) items all;
      folded = λ all. subst (All (HasFolded c.args.folded)) items all;
      listed = (
        [],
        (c.args.writers.now.notice.log, refl),
        λ i place a t at_a at_t. absurd (cc (at_a)),
        λ i j a b less at_a at_b. absurd (cc (at_a)),
        λ all longer rest. subst (All (HasListed all)) items rest,
      );
    }

pub returns-clause-noticed : goal.returns-clause-noticed
returns-clause-noticed g c =
    let none : length (into_iter_items c.loop-caller.caller-iterator) ≡ 0 = search rules in
    c.loop-caller.invariant.noticed (λ k d low. absurd (omega (arith, none, low)))

pub returns-clause-listed : goal.returns-clause-listed
returns-clause-listed g c =
    let none : length (into_iter_items c.loop-caller.caller-iterator) ≡ 0 = search rules in
    let w = c.loop-caller.invariant.listed in
    let all = w.4 w.0 (prefix_self w.0) (λ k d low. absurd (omega (arith, none, low))) in
    have_listed c.args.writers.now.notice.commands w.0 c.args.callers.items w.2 w.3 all

pub returns-clause-folded : goal.returns-clause-folded
returns-clause-folded g c =
    let none : length (into_iter_items c.loop-caller.caller-iterator) ≡ 0 = search rules in
    c.loop-caller.invariant.folded (λ k d low. absurd (omega (arith, none, low)))
