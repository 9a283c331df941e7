use Rattle.std.proofs.Common.{refl, rules}
use Rattle.std.proofs.lemmas.Result.{err_from_is_err_and}
use Rattle.tk_report.specs.Reading.{IsReadToEnd}
use Rattle.tk_replay.specs.Trace.{AreReadToEnd, IsTrace}
use Rattle.tk_replay.proofs.Traces.{stopped-before}
use Rattle.tk_replay.proofs.tracing.trace.Given.{Over}
use Rattle.tk_replay.proofs.tracing.trace.Goals.{After-as_slice-3}
use Rattle.tk_replay.proofs.tracing.trace.Goals as goal

pub returns-in_err-text : goal.returns-in_err-text
returns-in_err-text g c =
    let exit = err_from_is_err_and c.from_residual-in_err-text.result
    c.from_residual-in_err-text.ensures.1 in
    let first : IsReadToEnd (g.R.Read.remaining c.args.script.now)
    (g.R.Read.remaining c.read_to_end.new.source) c.as_slice.result.now = search rules in
    let later : IsReadToEnd (g.S.Read.remaining c.args.stamps.now)
    (g.S.Read.remaining c.read_to_end-2.new.source) c.as_slice-2.result.now = search rules in
    record {
      script_within = c.in_ok-script.ensures.within;
      stamps_within = c.in_ok-stamps.ensures.within;
      came_to = rw (exit.1, exit.2)
          (stopped-before c.args.clock _ _ _ _ _ _ _ _ c.as_slice.result.now
          c.as_slice-2.result.now c.in_err-text.field-0.0 first later c.in_err-text.ensures refl);
    }

-- both inputs were read to the end or to the limit, and the text is their trace
traced : (g : Over) (c : After-as_slice-3 g) →
    AreReadToEnd (g.R.Read.remaining c.args.script.now)
    (g.R.Read.remaining c.read_to_end.new.source)
    (g.S.Read.remaining c.args.stamps.now) (g.S.Read.remaining c.read_to_end-2.new.source)
    (λ script stamps. IsTrace c.args.clock script stamps c.as_slice-3.result.now)
traced g c =
    let script = c.as_slice.result.now in
    let stamps = c.as_slice-2.result.now in
    let first : IsReadToEnd (g.R.Read.remaining c.args.script.now)
    (g.R.Read.remaining c.read_to_end.new.source) script = search rules in
    let later : IsReadToEnd (g.S.Read.remaining c.args.stamps.now)
    (g.S.Read.remaining c.read_to_end-2.new.source) stamps = search rules in
    let whole : IsTrace c.args.clock script stamps c.as_slice-3.result.now =
    rw c.as_slice-3.ensures.value c.in_ok-text.ensures in
    (script, stamps, first, later, whole)

pub returns-in-Ok : goal.returns-in-Ok
returns-in-Ok g c =
    let came = traced g (goal.at.returns-in-Ok g c).After-as_slice-3 in
    record {
      script_within = c.in_ok-script.ensures.within;
      stamps_within = c.in_ok-stamps.ensures.within;
      came_to = ((c.as_slice-3.result.now, came, c.in-Ok.ensures.ok), c.in-Ok.ensures.flushed);
    }

pub returns : goal.returns
returns g c =
    let came = traced g (goal.at.returns g c).After-as_slice-3 in
    record {
      script_within = c.in_ok-script.ensures.within;
      stamps_within = c.in_ok-stamps.ensures.within;
      came_to = ((c.as_slice-3.result.now, came, c.in-Err.ensures.err), c.in-Err.ensures.failed);
    }
