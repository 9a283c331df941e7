use Rattle.std.proofs.Common.{rules, arith, ◌≡◌, ◌∙◌, take, drop, ap, length, vec_len}
use Rattle.tk_report.proofs.KnownBytes.{consumes-next}
use Rattle.tk_report.proofs.source.read_to_end.Goals as goal

pub reads-preserved : goal.reads-preserved
reads-preserved g c =
    let filled = c.reads.filled in
    let room = c.read_at.new.room in
    let same : length room ≡ vec_len c.make_room.new.room = search rules in
    let front : take filled room ≡ take filled c.reads.bytes.items =
    c.in-Some.ensures.front ∙ ap (take filled) c.as_mut_slice.ensures.value
    ∙ c.in_ok-make_room.ensures.kept in
    record {
      within = omega (arith, c.in-Some.ensures.bound);
      most = c.in_ok-make_room.ensures.most;
      read = consumes-next (g.S.Read.remaining c.args.source.now)
          (g.S.Read.remaining c.reads.source)
          (g.S.Read.remaining c.read_at.new.source) c.reads.bytes.items room
          (drop (length room) c.make_room.new.room.items)
          filled c.in-Some.count (vec_len c.make_room.new.room) same front c.reads.invariant.read
          c.in-Some.ensures.bytes.0;
    }
