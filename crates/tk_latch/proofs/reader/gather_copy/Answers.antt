use Rattle.std.proofs.Common.{rules, ◌∙◌}
use Rattle.tk_latch.proofs.Reading.{reads_word, gathers_one}
use Rattle.tk_latch.proofs.reader.gather_copy.Goals as goal

pub load-requires : goal.load-requires
load-requires g c =
    let held = c.loop-i.invariant.words in
    (search rules, search rules, reads_word _ _ _ _ _ _ _ _ held.1)

pub loop-i-preserved : goal.loop-i-preserved
loop-i-preserved g c =
    let held = c.loop-i.invariant in
    let s = c.load.ensures in
    let t = s.2.1 _ _ _ _ held.words.1 in
    record {
      latch = s.0 ∙ held.latch;
      carried = s.2.0 ∙ held.carried;
      words = gathers_one c.args.seat.now.me.0 c.args.first c.loop-i.words c.loop-i.seat.me.0
          c.load.new.seat.me.0 c.loop-i.i c.load.result held.words t.0 t.1 t.2 (search rules) (search rules)
          (λ still. t.3 still c.loop-i.i (search rules) (search rules) (search rules));
    }
