use Rattle.std.proofs.Common.{◌≡◌, ℕ, ◌-◌, length, sym, ap, ◌∙◌, subst, arith}
use Rattle.std.specs.Prelude.{max}
use Rattle.tk_clock.specs.Journal.{Journal}
use Rattle.tk_page.specs.History.{History}
use Rattle.tk_latch.specs.Latch.{Published}
use Rattle.tk_shared.specs.Callers.{Known}
use Rattle.tk_shared.specs.Folds.{Counting}
use Rattle.tk_shared.specs.Locked.{Held, held_of, IsAtRest, IsHeld}
use Rattle.tk_shared.proofs.Announced.{informed_at_rest}
use Rattle.tk_shared.proofs.Held.{held_folded, folds_few, folds_more, folds_within}
use Rattle.tk_shared.proofs.Kept.{kept_count}
use Rattle.tk_shared.proofs.locked.Locked.fold.Goals as goal

pub invariant_of-self : goal.invariant_of-self
invariant_of-self g c =
    let inside = c.self.inside in
    let held = held_of inside.keeper.journal inside.writers.page inside.writers.latch inside.mask
    inside.book.total in
    let kept = inside.keeper.journal in
    let more = c.fold-folded.result - kept.opening.count in
    let few = folds_few kept.opening.count (length kept.entries) c.args.keep c.fold-folded.result
    c.fold-folded.ensures.answer in
    let same = c.inform.ensures.same in
    let low = folds_more kept.opening.count (length kept.entries) c.args.keep c.fold-folded.result
    c.fold-folded.ensures.answer in
    let shown = ap (λ (w : Counting). w.folded) c.show.ensures.same in
    let listed = c.list.ensures.folded in
    let before = ap (λ (w : Counting). w.folded) same.2 in
    let was = c.self.invariant.4.1 in
    let count = c.folded-before.ensures in
    let now = c.fold-folded.ensures.folded in
    let with_all : Journal × History × Published → Held =
    λ t. record held { kept = t.0; shown = t.1; latched = t.2 } in (
      subst
          (λ (t : Journal × History × Published).
          IsHeld g.L.Named.page g.L.Named.latch (with_all t))
          (λ i. (sym c.fold-folded.ensures.journal i, sym same.0 i, sym same.1 i))
          (held_folded g.L.Named.page g.L.Named.latch held more c.self.invariant.0 few),
      c.self.invariant.1,
      c.self.invariant.2,
      subst
          (λ (h : History).
          IsAtRest g.L.Named.notice.commands h.journal c.inform.new.writers.notice)
          (sym same.0)
          (informed_at_rest g.L.Named.notice.commands inside.writers.page.journal
          inside.writers.notice c.inform.new.writers.notice c.inform.new.writers.notice.log
          c.inform.ensures.notice c.self.invariant.3),
      (
        ap (λ (w : Counting). w.notice) c.show.ensures.same ∙ c.list.ensures.notice
            ∙ ap (λ (w : Counting). w.notice) same.2 ∙ c.self.invariant.4.0,
        omega (arith, low, shown, listed, before, was, count, now),
      ),
      c.fold-folded.ensures.began ∙ c.self.invariant.5,
    )

pub returns-clause-folded : goal.returns-clause-folded
returns-clause-folded g c =
    let kept = c.self.inside.keeper.journal in
    let history = c.self.inside.writers.page.journal in
    let held = c.self.invariant.0 in
    let keep = c.args.keep in
    let answer = c.fold-folded.ensures.answer in
    let seen = ap (λ (k : Known). length k.seen.entries) (c.caller.view_is ∙ c.inform.ensures.caller)
    in
    let all = kept_count history kept held.whole held.kept in
    let low = folds_more kept.opening.count (length kept.entries) keep c.fold-folded.result answer in
    let high = folds_within kept.opening.count (length kept.entries) keep c.fold-folded.result answer
    in
    let count = c.folded-before.ensures in
    let knew = c.inform.ensures.more in
    let now = c.show.ensures.reader.1 in
    record {
      before = c.folded-before.result;
      known = knew;
      answer = answer
          ∙ ap (λ (p : ℕ × ℕ). max p.0 (p.1 - keep)) (λ i. (sym count i, (all ∙ sym seen) i));
      now = now;
      folds = record {
        more = omega (arith, knew, low, count, now);
        within = omega (arith, high, now, all, seen);
      };
    }
