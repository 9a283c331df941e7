use Rattle.std.proofs.Common.{◌≡◌, ◌∙◌, ap, sym, ℕ, Bool, true}
use Rattle.tk_ntp.specs.Pps.{is_lost_in}
use Rattle.tk_ntp.specs.SteeredClock.{SteeredClock}
use Rattle.tk_c.specs.declared.counted_ntp.SteeredCount.{SteeredCount}
use Rattle.tk_c.specs.CountedNtp.{whole}
use Rattle.tk_c.specs.Pps.{lost_if}
use Rattle.tk_c.proofs.pps.tkc_pps_seconds.Goals as goal

abbrev counted : ℕ → SteeredClock → SteeredCount
counted front steered = record { steered = steered; front = front }

pub returns-then-seconds-clause-clocks : goal.returns-then-seconds-clause-clocks
returns-then-seconds-clause-clocks c =
    let now = c.args.ntp.now in
    let is : is_lost_in c.args.count c.args.pps.now ≡ true =
    sym c.seconds.ensures.lost ∙ c.if-seconds.true in
    ap (counted now.clocks.front) (c.lose_signal.ensures now.clocks.clock)
    ∙ sym (ap (λ (b : Bool). lost_if b (whole now)) is)
