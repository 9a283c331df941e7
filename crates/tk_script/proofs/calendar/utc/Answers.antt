use Rattle.std.proofs.Common.{◌≡◌, ◌∙◌, ◌/◌, ◌%◌, ◌<◌, ◌++◌, ap, arith, pos, rules, string_bytes, unsigned_abs}
use Rattle.jiff.specs.Words.{date_text}
use Rattle.tk_script.specs.Utc.{time_part}
use Rattle.tk_script.proofs.TextLemmas.{IsUtf8-time_part, IsOk-from_match}
use Rattle.tk_script.proofs.calendar.utc.Goals as goal

pub unwrap-requires : goal.unwrap-requires
unwrap-requires g c =
    let second = c.day_and_second-day.result.1 in
    let within : second < 86400 = omega (arith, c.day_and_second-day.ensures.second) in
    let utf8 = rw (← c.time_of_day-time.ensures) at
    (IsUtf8-time_part second c.args.nsec within c.requires.2) in
    IsOk-from_match c.from_utf8.result _ _ (λ e q. q.0 utf8) c.from_utf8.ensures.cases

pub returns-clause-ok : goal.returns-clause-ok
returns-clause-ok g c =
    let n : c.unsigned_abs.result ≡ unsigned_abs c.args.sec = search rules in
    let day : c.day_and_second-day.result.0 ≡ unsigned_abs c.args.sec / 86400 =
    rw n at c.day_and_second-day.ensures.day in
    let second : c.day_and_second-day.result.1 ≡ unsigned_abs c.args.sec % 86400 =
    rw n at c.day_and_second-day.ensures.second in
    let text : string_bytes c.push_str.new.self
    ≡ date_text c.date_of_day.result ++ time_part c.day_and_second-day.result.1 c.args.nsec =
    search rules in
    (c.date_of_day.result, c.date_of_day.ensures ∙ ap pos day, rw (← second) text)
