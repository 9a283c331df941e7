use Rattle.std.proofs.Common.{subst}
use Rattle.tk_shared.specs.Callers.{known_of}
use Rattle.tk_shared.specs.Closing.{HasNoticed, IsPartOf}
use Rattle.tk_now.proofs.Lists.{life_first}
use Rattle.tk_shared.proofs.Ends.{part_of}
use Rattle.tk_shared.proofs.closing.take_in.Goals as goal

pub returns-clause-seen : goal.returns-clause-seen
returns-clause-seen g c =
    let caller = c.caller.inside in
    let history = c.args.writers.now.page.journal in
    let known = known_of caller.id caller.accepted caller.viewer caller.reader caller.notice_reader
    caller.folds.folded in
    subst (IsPartOf history) c.caller.view_is
    (part_of history c.args.writers.now.latch.publications known c.requires.snapshots c.tell.ensures.begins
    c.tell-2.ensures.extends c.caller.invariant.4)

pub returns-clause-noticed : goal.returns-clause-noticed
returns-clause-noticed g c =
    let caller = c.caller.inside in
    let known = known_of caller.id caller.accepted caller.viewer caller.reader caller.notice_reader
    caller.folds.folded in
    let commands = c.args.writers.now.notice.commands in
    let log = c.take_in.new.self.log in
    let here : HasNoticed commands known =
    record {
      begins = c.take_in.ensures.begins;
      life = life_first commands known.noticed.log log c.take_in.ensures.log.1 c.take_in.ensures.life;
    } in
    subst (HasNoticed commands) c.caller.view_is here
