use Rattle.std.proofs.Common.{◌∙◌, Ok, ap, inl, inr, refl, sym}
use Rattle.tk_script.specs.Grammar.{Parse, parse_of}
use Rattle.tk_script.specs.declared.opening.Start.{Start}
use Rattle.tk_program.specs.declared.racer.Racer.{Racer}
use Rattle.tk_program.proofs.scripts.read_script.Goals as goal

pub returns-in-Running-clause-err : goal.returns-in-Running-clause-err
returns-in-Running-clause-err g c =
    let script = c.in-Ok-from_bytes.script in
    let parsed =
    ap parse_of (sym c.as_slice.ensures.value) ∙ c.in-Ok-from_bytes.ensures.gives
    ∙ ap (λ (start : Start). let p : Parse = record { start = start; rows = script.rows.items } in
    Ok p) c.in-Running.is in
    inr (inr (inl (_, _, script.rows.items, refl, (c.in-Ok.text.items, c.in-Ok.ensures.ok, parsed))))

pub returns-then-has_change-clause-err : goal.returns-then-has_change-clause-err
returns-then-has_change-clause-err g c =
    let script = c.in-Ok-from_bytes.script in
    let racer : Racer = record { opening = c.in-Opened.opening; rows = script.rows } in
    let parsed =
    ap parse_of (sym c.as_slice.ensures.value) ∙ c.in-Ok-from_bytes.ensures.gives
    ∙ ap (λ (start : Start). let p : Parse = record { start = start; rows = script.rows.items } in
    Ok p) c.in-Opened.is in
    inr (inr (inr (inl (
      racer,
      refl,
      (c.in-Ok.text.items, c.in-Ok.ensures.ok, parsed),
      sym c.has_change.ensures ∙ c.if-has_change.true,
    ))))

pub returns-in-Steered-clause-err : goal.returns-in-Steered-clause-err
returns-in-Steered-clause-err g c =
    let script = c.in-Ok-from_bytes.script in
    let parsed =
    ap parse_of (sym c.as_slice.ensures.value) ∙ c.in-Ok-from_bytes.ensures.gives
    ∙ ap (λ (start : Start). let p : Parse = record { start = start; rows = script.rows.items } in
    Ok p) c.in-Steered.is in
    inr (inr (inr (inr (inl (
      _,
      _,
      script.rows.items,
      refl,
      (c.in-Ok.text.items, c.in-Ok.ensures.ok, parsed),
    )))))

pub returns-in-Continued-clause-err : goal.returns-in-Continued-clause-err
returns-in-Continued-clause-err g c =
    let script = c.in-Ok-from_bytes.script in
    let parsed =
    ap parse_of (sym c.as_slice.ensures.value) ∙ c.in-Ok-from_bytes.ensures.gives
    ∙ ap (λ (start : Start). let p : Parse = record { start = start; rows = script.rows.items } in
    Ok p) c.in-Continued.is in
    inr (inr (inr (inr (inr (inl (
      _,
      _,
      script.rows.items,
      refl,
      (c.in-Ok.text.items, c.in-Ok.ensures.ok, parsed),
    ))))))

pub returns-then-has_request-clause-err : goal.returns-then-has_request-clause-err
returns-then-has_request-clause-err g c =
    let script = c.in-Ok-from_bytes.script in
    let racer : Racer = record { opening = c.in-Opened.opening; rows = script.rows } in
    let parsed =
    ap parse_of (sym c.as_slice.ensures.value) ∙ c.in-Ok-from_bytes.ensures.gives
    ∙ ap (λ (start : Start). let p : Parse = record { start = start; rows = script.rows.items } in
    Ok p) c.in-Opened.is in
    inr (inr (inr (inr (inr (inr (
      racer,
      refl,
      (c.in-Ok.text.items, c.in-Ok.ensures.ok, parsed),
      sym c.has_change.ensures ∙ c.if-has_change.false,
      sym c.has_request.ensures ∙ c.if-has_request.true,
    ))))))
