use Rattle.std.proofs.Common.{◌≡◌, ◌∙◌, ◌++◌, ℕ, List, refl, ap, unsigned_abs, rules, inl, inr, codes}
use Rattle.std.specs.Prelude.{◌⊎◌}
use Rattle.std.proofs.lemmas.Result.{on_ok_weaker}
use Rattle.tk_clock.specs.declared.clock_id.ClockId.{ClockId}
use Rattle.tk_clock.specs.declared.clock_id.ClockId.TheVariants.{Realtime, RealtimeCoarse}
use Rattle.tk_clock.specs.declared.timespec.Timespec.{Timespec}
use Rattle.tk_script.specs.Lines.{IsAtLine, at_text}
use Rattle.tk_script.specs.Utc.{IsUtcText}
use Rattle.tk_script.proofs.UtcLemmas.{grouped, joined}
use Rattle.tk_script.proofs.calendar.Calendar.line_at.Goals as goal
use Rattle.tk_script.proofs.calendar.Calendar.line_at.Goals.{in-Realtime+in_ok-date_of, in_default}

-- the clocks that count from 1970 have a line with UTC text
with_utc : (clock : ClockId) (time : Timespec) (old new line utc : List ℕ)
    → (clock ≡ Realtime) ⊎ (clock ≡ RealtimeCoarse)
    → IsUtcText (unsigned_abs time.sec) time.nsec utc
    → line ≡ at_text clock time ++ codes "," ++ utc ++ codes "\n"
    → new ≡ old ++ line
    → (text : List ℕ) × (new ≡ old ++ text) × IsAtLine clock time text
with_utc clock time old new line utc (inl e) dated whole written =
    let known = written ∙ ap (λ (l : List ℕ). old ++ l) whole in
    rw e (_, rw e at known, (utc, dated, refl))
with_utc clock time old new line utc (inr e) dated whole written =
    let known = written ∙ ap (λ (l : List ℕ). old ++ l) whole in
    rw e (_, rw e at known, (utc, dated, refl))

pub returns-clause-ok : goal.returns-clause-ok
returns-clause-ok g c =
    let at = at_text c.args.clock c.args.time in
    elim c.match-clock.branch [
      | in-Realtime+in_ok-date_of w ↦
          let n : w.unsigned_abs.result ≡ unsigned_abs c.args.time.sec = search rules in
          let bytes = w.as_bytes.result.now in
          let time = w.time_of_day.result in
          let text = joined (unsigned_abs c.args.time.sec) c.args.time.nsec w.unsigned_abs.result
          w.day_and_second-day.result.0 w.day_and_second-day.result.1
          w.in_ok-date_of.field-0.now bytes time w.in_ok-date_of.ensures.ok
          w.as_bytes.ensures.value w.time_of_day.ensures n w.day_and_second-day.ensures.day
          w.day_and_second-day.ensures.second in
          let line : c.put_at.new.line
          ≡ at ++ (codes "," ++ (bytes ++ (time ++ codes "\n"))) =
          c.put_at.ensures ∙ ap (λ (l : List ℕ). at ++ l)
          (w.line-is ∙ w.put-in-Realtime-2.ensures.text
          ∙ ap (λ (l : List ℕ). codes "," ++ l) (w.put-in-Realtime.ensures.text
          ∙ ap (λ (l : List ℕ). bytes ++ l) (w.put.ensures.text
          ∙ ap (λ (l : List ℕ). time ++ l) c.end-line.ensures))) in
          on_ok_weaker c.add_to.result
          (with_utc c.args.clock c.args.time c.args.out.now.items c.add_to.new.out.items
          c.put_at.new.line (bytes ++ time) w.in-Realtime.is text
          (grouped at bytes time c.put_at.new.line line))
          c.add_to.ensures.ok
      | in_default w ↦
          let whole : c.put_at.new.line ≡ at ++ codes "\n" =
          c.put_at.ensures ∙ ap (λ (l : List ℕ). at ++ l) (w.line-is ∙ c.end-line.ensures) in
          search rules
    ]
