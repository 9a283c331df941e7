use Rattle.std.proofs.Common.{◌≡◌, ◌∙◌, ◌++◌, List, ℕ, refl, ap, unsigned_abs, rules, codes}
use Rattle.jiff.specs.Words.{date_text}
use Rattle.tk_script.specs.Lines.{at_text}
use Rattle.tk_script.specs.Utc.{IsDateText}
use Rattle.tk_script.proofs.UtcLemmas.{grouped, joined, utc-line}
use Rattle.tk_script.proofs.line.Line.at.Goals as goal
use Rattle.tk_script.proofs.line.Line.at.Goals.{in-RealtimeCoarse, in_default}

pub returns : goal.returns
returns c =
    let at = at_text c.args.clock c.args.time in
    elim c.match-clock.branch [
      | in-RealtimeCoarse w ↦
          let n : w.unsigned_abs.result ≡ unsigned_abs c.args.time.sec = search rules in
          let date = date_text w.date_at.result in
          let time = w.time_of_day.result in
          let dated : IsDateText w.day_and_second-day.result.0 date =
          (w.date_at.result, w.date_at.ensures, refl) in
          let text = joined (unsigned_abs c.args.time.sec) c.args.time.nsec w.unsigned_abs.result
          w.day_and_second-day.result.0 w.day_and_second-day.result.1 date date time dated refl
          w.time_of_day.ensures n w.day_and_second-day.ensures.day
          w.day_and_second-day.ensures.second in
          let line : c.put_at.new.line ≡ at ++ (codes "," ++ (date ++ (time ++ codes "\n"))) =
          c.put_at.ensures ∙ ap (λ (l : List ℕ). at ++ l)
          (w.line-is ∙ w.put-in-RealtimeCoarse.ensures.text
          ∙ ap (λ (l : List ℕ). codes "," ++ l) (w.put_date.ensures.text
          ∙ ap (λ (l : List ℕ). date ++ l) (w.put.ensures.text
          ∙ ap (λ (l : List ℕ). time ++ l) c.end-line.ensures))) in
          utc-line c.args.clock c.args.time c.put_at.new.line (date ++ time) w.in-RealtimeCoarse.is text
          (grouped at date time c.put_at.new.line line)
      | in_default w ↦
          let whole : c.put_at.new.line ≡ at ++ codes "\n" =
          c.put_at.ensures ∙ ap (λ (l : List ℕ). at ++ l) (w.line-is ∙ c.end-line.ensures) in
          search rules
    ]
