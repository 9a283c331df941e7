-- Words that show a journal.
use Rattle.std.proofs.Common.{◌≡◌, ℕ, List, ap, ◌∙◌, subst}
use Rattle.std.specs.Prelude.{Some}
use Rattle.tk_clock.specs.Journal.{Journal}
use Rattle.tk_clock.specs.Snapshot.{Snapshot, snapshot_of}
use Rattle.tk_clock.specs.Words.{words_of, restored}
use Rattle.tk_page.specs.Packing.{packed, unpacked}
use Rattle.tk_page.specs.Views.{Shows}

-- the words of a snapshot show the journal that the snapshot belongs to
pub shows : (words : List ℕ) (snapshot : Snapshot) (journal : Journal) →
    words ≡ packed (words_of snapshot) →
    restored snapshot.base.counter (unpacked (packed (words_of snapshot))) ≡ Some snapshot →
    snapshot ≡ snapshot_of journal → Shows words journal
shows words snapshot journal value back of = record {
  value = value ∙ ap (λ s. packed (words_of s)) of;
  back = ap (λ ws. restored journal.opening.counter (unpacked ws))
      (value ∙ ap (λ s. packed (words_of s)) of)
      ∙ subst (λ (s : Snapshot). restored s.base.counter (unpacked (packed (words_of s))) ≡ Some s) of
      back;
}
