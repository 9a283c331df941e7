use Rattle.std.proofs.Common.{◌∙◌, sym, w64, FitsSigned}
use Rattle.std.proofs.lemmas.Int.{to_z-of_z}
use Rattle.tk_script.proofs.RunningClocks.{clocks-read}
use Rattle.tk_script.proofs.running_clocks.read_clocks.Goals as goal

pub returns-clause-value : goal.returns-clause-value
returns-clause-value g c =
    let frequency = c.in_ok-frequency.frequency in
    let tick = c.in_ok-tick.tick in
    let known = rw c.in_ok-frequency.was at c.signed_at.type_inv in
    let known_tick = rw c.in_ok-tick.was at c.signed_at-2.type_inv in
    let fit : FitsSigned w64 frequency = record { sfits = known.1.1.1.1.0.1 } in
    let fit_tick : FitsSigned w64 tick = record { sfits = known_tick.1.1.1.1.0.1 } in
    let made = rw (to_z-of_z w64 frequency fit, to_z-of_z w64 tick fit_tick) at
    c.clocks_from.ensures.value in
    made
    ∙ sym (clocks-read (g.R.Record.fields c.args.fields.now) c.in_ok-bits.bits c.in_ok-mult.mult
    c.in_ok-shift.shift c.in_ok-words.words frequency tick
    c.in_ok-desc.desc
    (sym c.number32_at.ensures ∙ c.in_ok-bits.was)
    (sym c.number32_at-2.ensures ∙ c.in_ok-mult.was)
    (sym c.number32_at-3.ensures ∙ c.in_ok-shift.was)
    (sym c.words_in.ensures ∙ c.in_ok-words.was)
    (sym c.signed_at.ensures ∙ c.in_ok-frequency.was)
    (sym c.signed_at-2.ensures ∙ c.in_ok-tick.was)
    (sym c.counter_of.ensures ∙ c.in_ok-desc.was))
