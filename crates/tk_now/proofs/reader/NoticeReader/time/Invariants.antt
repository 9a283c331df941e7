use Rattle.tk_now.proofs.reader.NoticeReader.time.Given as goal

abbrev pub ghosts-end : goal.ghosts-end
ghosts-end g a = record { reading = a.reading }
