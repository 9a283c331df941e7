use Rattle.std.proofs.Common.{◌≡◌, ◌<◌, ◌+◌, ◌++◌, ◌∷◌, [], length, subst, sym, rules, take}
use Rattle.std.specs.Prelude.{Err}
use Rattle.tk_script.specs.declared.script_error.ScriptError.TheVariants.{Memory}
use Rattle.tk_replay.specs.Many.{AreOutcomes}
use Rattle.tk_replay.proofs.Outcomes.{outcome_waits}
use Rattle.tk_replay.proofs.worklist.Worklist.new.Goals as goal

pub loop-preserved : goal.loop-preserved
loop-preserved g c =
    let below : c.loop.counter < length g.S.NamesScripts.scripts = search rules in
    let items : c.push_reserved.new.self.items ≡ c.loop.outcomes.items ++ Err Memory ∷ [] = search rules in
    let each = outcome_waits g.S.NamesScripts.scripts c.loop.outcomes.items c.loop.counter below
    c.loop.invariant.each in
    record {
      counted = search rules;
      room = search rules;
      many = search rules;
      each = subst (AreOutcomes (take (c.loop.counter + 1) g.S.NamesScripts.scripts)) (sym items) each;
    }
