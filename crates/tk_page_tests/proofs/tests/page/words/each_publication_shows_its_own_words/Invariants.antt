use Rattle.std.proofs.Common.{◌≡◌}
use Rattle.tk_page_tests.proofs.tests.page.words.each_publication_shows_its_own_words.Given as goal

abbrev pub invariant-loop-reading : goal.invariant-loop-reading
invariant-loop-reading g l =
    (l.desk.page ≡ l.initial.desk.page) × (l.viewer.page ≡ l.initial.viewer.page)
