use Rattle.std.proofs.Common.{◌≡◌, ap, sym, ◌∙◌, ℕ, ℤ, arith}
use Rattle.std.specs.Prelude.{unsigned_abs}
use Rattle.tk_counter.specs.Counter.{Counter}
use Rattle.tk_clock.specs.declared.timespec.Timespec.{Timespec}
use Rattle.tk_clock.specs.Time.{nanoseconds, timespec_of}
use Rattle.tk_ntp.specs.SteeredClock.{steered_opened}
use Rattle.tk_shared_steered.specs.Opened.{real_shown}
use Rattle.tk_shared_steered.proofs.Opened.{shown}
use Rattle.tk_shared_steered.proofs.shared_steering.opening.shown.Goals as goal

pub returns-then-front-ne0 : goal.returns-then-front-ne0
returns-then-front-ne0 c =
    let front = c.front.ensures in
    let other = c.if-front-ne0.true in
    record { answer = omega (arith, front, other) }

pub returns-in-Err : goal.returns-in-Err
returns-in-Err c = record {
  answer = (
    sym c.front.ensures ∙ c.if-front-ne0.false,
    shown c.args.now.now.base c.desc.result c.last.result c.real_offset.result
        c.time_of-real.result c.args.hz c.desc.ensures c.last.ensures
        c.time_of-real.ensures.value c.real_offset.ensures
        ∙ c.in-Err.ensures.answer,
  );
}

pub returns-in-Ok : goal.returns-in-Ok
returns-in-Ok c =
    let base = c.args.now.now.base in
    let real = c.time_of-real.result in
    let hz = c.args.hz in
    let real_is : real ≡ real_shown base =
    c.time_of-real.ensures.value
    ∙ ap (λ (z : ℤ). timespec_of (unsigned_abs z)) c.real_offset.ensures in
    record {
      answer = record {
        none = sym c.front.ensures ∙ c.if-front-ne0.false;
        same = ap nanoseconds (sym real_is) ∙ c.time_of-real.ensures.same ∙ c.real_offset.ensures;
        sound =
            shown base c.desc.result c.last.result c.real_offset.result real hz c.desc.ensures
            c.last.ensures c.time_of-real.ensures.value c.real_offset.ensures
            ∙ c.in-Ok.ensures.answer.0;
        clock_is =
            c.in-Ok.ensures.answer.1
            ∙ ap (λ (d : Counter). steered_opened d c.last.result real hz) c.desc.ensures
            ∙ ap (λ (l : ℕ). steered_opened base.counter l real hz) c.last.ensures
            ∙ ap (λ (t : Timespec). steered_opened base.counter base.last t hz) real_is;
      };
    }
