use Rattle.std.specs.Prelude.{take}
use Rattle.tk_c.specs.Saved.{counter_of_words, saved_frequency, saved_tick}
use Rattle.tk_c.proofs.Restoring.{loaded}
use Rattle.tk_c.proofs.saved.tkc_clock_load.Goals as goal

pub returns : goal.returns
returns c =
    let words = c.args.words.now in
    loaded (counter_of_words words) (take 10 words) (saved_frequency words) (saved_tick words)
    c.clock_of_words.result c.args.out.now c.write_clock.new.out _ c.clock_of_words.ensures
    c.write_clock.ensures
