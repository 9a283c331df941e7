use Rattle.std.proofs.Common.{◌∙◌, ap, sym, subst}
use Rattle.tk_clock.specs.Journal.{Journal}
use Rattle.tk_page.specs.History.{Begins}
use Rattle.tk_page.specs.Views.{journal_of, noted_of}
use Rattle.tk_page.proofs.Beginnings.{begins-followed_by}
use Rattle.tk_page.proofs.publisher.Publisher.publish_for.Goals as goal

pub extend-requires-clause-begins : goal.extend-requires-clause-begins
extend-requires-clause-begins g c =
    let noted = ap noted_of c.note.ensures.noted ∙ sym (ap journal_of c.note.ensures.same) in
    let longer = sym (ap journal_of c.publish_entry.ensures.view) in
    subst (λ (t : Journal × Journal). Begins t.0 t.1) (λ i. (noted i, longer i))
    (begins-followed_by _ _ c.args.entry c.publish_entry.ensures.begins)
