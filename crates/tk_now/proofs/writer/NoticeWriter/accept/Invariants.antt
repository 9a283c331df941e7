use Rattle.tk_now.proofs.writer.NoticeWriter.accept.Given as goal

abbrev pub ghosts-accept_reading : goal.ghosts-accept_reading
ghosts-accept_reading g a = record { reading = a.reading }
