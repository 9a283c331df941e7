use Rattle.std.proofs.Common.{◌*◌, ◌<◌, ◌≤◌, ◌∙◌, sym, ap, subst}
use Rattle.tk_counter.specs.Counter.{second}
use Rattle.tk_clock.specs.Amount.{units_of}
use Rattle.tk_clock.specs.State.{ReadBase, forwarded}
use Rattle.tk_clock.specs.Running.{IsRated}
use Rattle.tk_clock.specs.Limits.{monotonic_end, raw_end}
use Rattle.tk_clock.specs.contracts.read_base.ReadBase.{the_view}
use Rattle.tk_clock.proofs.Units.{end_nanos}
use Rattle.tk_clock.proofs.Rates.{IsRated-forwarded, raw_low, fewer_seconds, below_seconds, at_least_seconds}
use Rattle.tk_clock.proofs.read_base.ReadBase.with_amounts.Goals as goal

pub returns-then-monotonic-ge-MONOTONIC_END : goal.returns-then-monotonic-ge-MONOTONIC_END
returns-then-monotonic-ge-MONOTONIC_END c =
    let counter = c.args.self.now.counter in
    let monotonic = c.args.monotonic in
    let many = at_least_seconds monotonic.sec monotonic.frac monotonic_end
    (second counter) c.if-monotonic-ge-MONOTONIC_END.true in
    end_nanos monotonic_end _ counter.shift
    (subst (λ n. monotonic_end * second counter ≤ n) c.requires.monotonic.0 many)

pub invariant_of-result : goal.invariant_of-result
invariant_of-result c =
    let base = c.self.inside in
    let held = c.self.invariant in
    let before = the_view base in
    let after = forwarded before c.args.reading in
    let monotonic = c.args.monotonic in
    let raw = c.args.raw in
    let steered = rw (← c.self.view_is) at c.requires.steered in
    let rated = rw (← c.self.view_is) at c.requires.rated in
    let amount = rw (← c.self.view_is) at c.requires.monotonic in
    let raw_amount = rw (← c.self.view_is) at c.requires.raw in
    let low = subst (λ n. n < monotonic_end * second base.desc) amount.0
    (below_seconds monotonic.sec monotonic.frac monotonic_end
    (second base.desc) c.if-monotonic-ge-MONOTONIC_END.false amount.1) in
    let below = raw_low after held.described
    (IsRated-forwarded before c.args.reading steered rated) low in
    record {
      described = held.described;
      last_low = rw (← c.self.view_is) at c.requires.reading;
      mult_some = held.mult_some;
      mult_low = held.mult_low;
      frac_low = amount.1;
      sec_low = c.if-monotonic-ge-MONOTONIC_END.false;
      raw_frac_low = raw_amount.1;
      raw_sec_low = fewer_seconds raw.sec raw.frac raw_end (second base.desc)
          (subst (λ n. n < raw_end * second base.desc) (sym raw_amount.0) below);
      tai_low = held.tai_low;
    }

pub returns : goal.returns
returns c =
    let base = c.self.inside in
    let before = the_view base in
    let after = forwarded before c.args.reading in
    let steered = rw (← c.self.view_is) at c.requires.steered in
    let rated = rw (← c.self.view_is) at c.requires.rated in
    let amount = rw (← c.self.view_is) at c.requires.monotonic in
    let raw_amount = rw (← c.self.view_is) at c.requires.raw in
    let stated = ap (λ m. record after {
      amount = m;
      raw_amount = units_of base.desc c.args.raw;
    }) amount.0
    ∙ ap (λ r. record after { raw_amount = r }) raw_amount.0 in
    rw (← c.self.view_is) (
      stated,
      subst (λ (b : ReadBase). IsRated b) (sym stated)
          (IsRated-forwarded before c.args.reading steered rated),
    )
