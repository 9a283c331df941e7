use Rattle.std.proofs.Common.{◌≡◌, ◌∙◌, ap, ◌*◌, ◌/◌, w64}
use Rattle.std.proofs.lemmas.Int.{to_z-of_z}
use Rattle.tk_ntp.specs.Rate.{rate_of}
use Rattle.tk_ntp.proofs.Multipliers.{rate-steered, rate_of-in_range, is_given, near_usual}
use Rattle.tk_ntp.proofs.rate.Rate.of_length.Goals as goal

-- the multiplier at the two numbers that are returned
pub returns-clause-multiplier : goal.returns-clause-multiplier
returns-clause-multiplier c = λ counter.
    let r = c.rate_of-rate.result in
    let n = c.tick_for-tick.result in
    let f = c.frequency_for.result in
    let t = c.from.result in
    let tick = to_z-of_z w64 t (record { sfits = c.from.type_inv }) ∙ c.from.ensures in
    let frequency = to_z-of_z w64 f (record { sfits = c.frequency_for.type_inv }) ∙ c.frequency_for.ensures in
    let asked : r ≡ rate_of c.args.length =
    rw (to_z-of_z w64 c.args.length c.ranges.length) at c.rate_of-rate.ensures.value in
    rw (frequency, tick)
    (ap (λ x. counter.mult * x / 65536000000)
    (rate-steered r n c.tick_for-tick.ensures.above c.tick_for-tick.ensures.below ∙ asked))

pub returns-clause-given : goal.returns-clause-given
returns-clause-given c = λ counter range.
    is_given counter c.args.length (rate_of c.args.length) _ (returns-clause-multiplier c counter)
    (rate_of-in_range c.args.length range)

pub returns-clause-near : goal.returns-clause-near
returns-clause-near c = λ counter.
    let asked : c.rate_of-rate.result ≡ rate_of c.args.length =
    rw (to_z-of_z w64 c.args.length c.ranges.length) at c.rate_of-rate.ensures.value in
    near_usual counter (rate_of c.args.length) _ (returns-clause-multiplier c counter)
    (rw asked at c.rate_of-rate.ensures.least) (rw asked at c.rate_of-rate.ensures.most)
