use Rattle.std.proofs.Common.{◌≡◌, get_or, rules}
use Rattle.tk_replay.proofs.worklist.Job.finish.Goals as goal

pub invariant_of-result : goal.invariant_of-result
invariant_of-result g c =
    let here : c.args.script.now
    ≡ get_or g.S.NamesScripts.scripts c.self.inside.piece c.args.script.now = search rules in
    (search rules, (c.args.script.now, here, c.requires.outcome))
