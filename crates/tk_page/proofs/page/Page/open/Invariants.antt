use Rattle.tk_page.specs.History.{opened_by}
use Rattle.tk_page.proofs.page.Page.open.Given as goal

abbrev pub ghosts-take_opening : goal.ghosts-take_opening
ghosts-take_opening g a = record { journal = opened_by a.snapshot }
