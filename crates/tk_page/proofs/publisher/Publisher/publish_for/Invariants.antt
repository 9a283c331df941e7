use Rattle.tk_page.proofs.publisher.Publisher.publish_for.Given as goal

abbrev pub ghosts-publish_entry : goal.ghosts-publish_entry
ghosts-publish_entry g a = record { entry = a.entry }
