use Rattle.std.proofs.Common.{◌≡◌, ◌+◌, ◌≤◌, take}
use Rattle.tk_race.specs.Replies.{done_in}
use Rattle.tk_program.specs.RaceText.{refused_in}
use Rattle.tk_program.proofs.race_lines.count_orders.Given as goal

abbrev pub invariant-loop-reply : goal.invariant-loop-reply
invariant-loop-reply l = record {
  accepted : l.accepted ≡ done_in (take l.reply-index l.replies);
  refused : l.refused ≡ refused_in (take l.reply-index l.replies);
  few : l.accepted + l.refused ≤ l.reply-index;
}
