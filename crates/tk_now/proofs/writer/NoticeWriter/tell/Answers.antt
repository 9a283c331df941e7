use Rattle.std.proofs.Common.{rules, refl, sym, ap, ◌∙◌, subst}
use Rattle.tk_now.specs.declared.rule.View.{View}
use Rattle.tk_now.specs.Views.{IsNoting, IsResting}
use Rattle.tk_now.proofs.Announcing.{hands, idle_of}
use Rattle.tk_now.proofs.Noting.{notes, recounts, returns}
use Rattle.tk_now.proofs.writer.NoticeWriter.tell.Goals as goal

pub split_seat-vacant-requires : goal.split_seat-vacant-requires
split_seat-vacant-requires g c =
    let idle = idle_of _ c.self.invariant.0 (ap (λ p. p.since) c.self.view_is ∙ c.requires.idle) in
    (search rules, search rules, hands _ _ idle)

pub join_seat-requires : goal.join_seat-requires
join_seat-requires g c =
    let idle = idle_of _ c.self.invariant.0 (ap (λ p. p.since) c.self.view_is ∙ c.requires.idle) in
    let kept = ap (λ m. m.0) c.split_seat-vacant.ensures.2 in
    let seen = ap (λ s. s.me.0) c.replace-former.ensures.value in
    let none = ap (λ s. s.me.1) c.replace-former.ensures.value in (
      search rules,
      search rules,
      none ∙ c.reader.invariant.1,
      search rules,
      notes _ _ _ _ (ap (λ (v : View). v.role) kept ∙ idle)
          (subst IsResting (sym seen) c.reader.invariant.0),
    )

pub load-requires : goal.load-requires
load-requires g c =
    let both = ap (λ m. m.0) c.join_seat.ensures.2 in
    (search rules, search rules, recounts _ _ _ (subst IsNoting (sym both) refl))

pub split_seat-requires : goal.split_seat-requires
split_seat-requires g c = (search rules, search rules, returns _ _ c.load.ensures.2.2)
