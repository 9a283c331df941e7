use Rattle.std.proofs.Common.{◌∙◌, sym}
use Rattle.std.proofs.lemmas.Result.{err_from_is_err_and}
use Rattle.tk_script.specs.Coming.{coming, opened_with}
use Rattle.tk_script.specs.Grammar.{parse_of}
use Rattle.tk_script.specs.Stamps.{items}
use Rattle.tk_replay.proofs.Traces.{MayFault-stamps, journal-read, trace-converted, whole-journal, whole-rows}
use Rattle.tk_replay.proofs.converting.trace_of.Goals as goal

pub returns-in_err-parsed : goal.returns-in_err-parsed
returns-in_err-parsed g c =
    let exit = err_from_is_err_and c.from_residual-in_err-parsed.result
    c.from_residual-in_err-parsed.ensures.1 in
    let refused = c.in_err-parsed.ensures.gives in
    let steered = sym c.is_steered.ensures ∙ c.if-is_steered.true in
    rw (exit.1, exit.2, refused.1)
    (MayFault-stamps c.args.clock c.args.script.now c.args.stamps.now refused.0
    (whole-rows (parse_of c.args.script.now) c.in_ok-start.start (coming c.in_ok-start.rows)
    c.in_ok-start.ensures.gives.1 (c.in_ok-start.ensures.whole steered)) refused.2)

pub returns-then-is_steered : goal.returns-then-is_steered
returns-then-is_steered g c =
    let known = journal-read (opened_with c.in_ok-start.start (coming c.in_ok-start.rows))
    (parse_of c.args.script.now) c.in_ok-steered.steered.journal c.in_ok-start.ensures.gives.1
    c.in_ok-steered.ensures.answer in
    trace-converted c.args.clock c.args.script.now c.args.stamps.now c.in_ok-steered.steered.journal
    (items c.in_ok-parsed.parsed) (λ text. text.items) c.convert.result known
    c.in_ok-parsed.ensures.gives c.convert.ensures

pub returns-in_err-items : goal.returns-in_err-items
returns-in_err-items g c =
    let exit = err_from_is_err_and c.from_residual-in_err-items.result
    c.from_residual-in_err-items.ensures.1 in
    let refused = c.in_err-items.ensures.gives in
    let known = journal-read (opened_with c.in_ok-start.start (coming c.in_ok-start.rows))
    (parse_of c.args.script.now) c.in_ok-keeper.keeper.journal c.in_ok-start.ensures.gives.1
    c.in_ok-keeper.ensures.answer in
    rw (exit.1, exit.2, refused.1)
    (MayFault-stamps c.args.clock c.args.script.now c.args.stamps.now refused.0
    (whole-journal (parse_of c.args.script.now) c.in_ok-keeper.keeper.journal known) refused.2)

pub returns : goal.returns
returns g c =
    let known = journal-read (opened_with c.in_ok-start.start (coming c.in_ok-start.rows))
    (parse_of c.args.script.now) c.in_ok-keeper.keeper.journal c.in_ok-start.ensures.gives.1
    c.in_ok-keeper.ensures.answer in
    trace-converted c.args.clock c.args.script.now c.args.stamps.now c.in_ok-keeper.keeper.journal
    (items c.in_ok-items.items) (λ text. text.items) c.convert-2.result known
    c.in_ok-items.ensures.gives c.convert-2.ensures
