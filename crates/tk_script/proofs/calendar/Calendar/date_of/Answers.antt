use Rattle.std.proofs.Common.{◌∙◌}
use Rattle.tk_script.proofs.calendar.Calendar.date_of.Goals as goal

pub returns : goal.returns
returns g c =
    let known = rw c.if-open-day.true at (rw c.in-Some.is at c.self.invariant) in
    record { ok = (known.0, known.1, c.as_str.ensures.value ∙ known.2); memory = tt }

pub returns-2 : goal.returns-2
returns-2 g c = record {
  ok = (
    c.date_of_day.result,
    c.date_of_day.ensures,
    c.as_str-2.ensures.value
        ∙ c.in_ok-self-inside.ensures.ok,
  );
  memory = tt;
}
