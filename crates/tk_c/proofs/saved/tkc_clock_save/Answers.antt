use Rattle.std.proofs.Common.{rules, ◌≡◌}
use Rattle.tk_c.specs.Saved.{saved}
use Rattle.tk_c.proofs.saved.tkc_clock_save.Goals as goal
use Rattle.tk_c.proofs.Loading.{loads}

pub returns-clause-back : goal.returns-clause-back
returns-clause-back c =
    let same : c.store_saved.new.words ≡ saved c.args.clock.now = search rules in
    rw same (loads c.args.clock.now (search rules) (search rules) (search rules))
