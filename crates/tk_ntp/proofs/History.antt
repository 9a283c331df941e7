-- What the seconds that begin leave of the discipline and of its offset.
use Rattle.std.proofs.Common.{◌≡◌, ◌∙◌, ap, refl, ℕ, ◌+ℤ◌}
use Rattle.tk_ntp.specs.Advance.{IsAdvanced, IsAdvancedBy, Arrived, Begins, second_begun_at, seconds_by, with_next_second}
use Rattle.tk_ntp.specs.Given.{after as after_seconds, given as given_of_offset}
use Rattle.tk_ntp.specs.History.{IsOffsetKept, IsOffsetKeptBy}
use Rattle.tk_ntp.specs.Late.{second_begun_late, with_late_second, IsAdvancedLate}
use Rattle.tk_ntp.specs.LateLaws.{IsOffsetKeptLate}
use Rattle.tk_ntp.specs.Ntp.{Ntp}
use Rattle.tk_ntp.specs.Second.{begun, leap_at}
use Rattle.tk_ntp.specs.Steering.{Steered}
use Rattle.tk_ntp.specs.SteeredClock.{SteeredClock}
use Rattle.tk_ntp.proofs.Kept.{kept}
use Rattle.tk_ntp.proofs.Seconds.{leapt-steering}

late-ntp : (at reading : ℕ) (steered : SteeredClock) →
    (second_begun_late at reading steered).steering.ntp
    ≡ begun steered.steering.ntp steered.next
late-ntp at reading steered =
    ap (λ (s : Steered). s.ntp)
    (leapt-steering reading (leap_at steered.steering.ntp steered.next)
    (with_late_second at reading steered))

pub second-ntp : (at : ℕ) (steered : SteeredClock) →
    (second_begun_at at steered).steering.ntp ≡ begun steered.steering.ntp steered.next
second-ntp at steered =
    ap (λ (s : Steered). s.ntp)
    (leapt-steering at (leap_at steered.steering.ntp steered.next) (with_next_second at steered))

module _ (starts : ℕ → SteeredClock → SteeredClock)
    (starts-ntp : (at : ℕ) (steered : SteeredClock) →
    (starts at steered).steering.ntp ≡ begun steered.steering.ntp steered.next) where
  after-ntp : (reading : ℕ) (before after : SteeredClock)
      (h : IsAdvancedBy starts reading before after) →
      after.steering.ntp
      ≡ after_seconds (seconds_by starts reading before after h) before.steering.ntp
  after-ntp reading before after (Arrived steered none) = refl
  after-ntp reading before after (Begins steered end at due rest) =
      let next = starts at steered in
      after-ntp reading next end rest
      ∙ ap (λ (ntp : Ntp). after_seconds (seconds_by starts reading next end rest) ntp)
      (starts-ntp at steered)

  kept-by : (reading : ℕ) (before after : SteeredClock) →
      IsAdvancedBy starts reading before after → IsOffsetKeptBy starts reading before after
  kept-by reading before after h =
      let secs = seconds_by starts reading before after h in
      let ntp = after-ntp reading before after h in
      record {
        begun = h;
        ntp = ntp;
        kept =
            ap (λ (n : Ntp). given_of_offset secs before.steering.ntp +ℤ n.offset) ntp
            ∙ kept before.steering.ntp secs;
      }

pub offset_kept : (reading : ℕ) (before after : SteeredClock) → IsAdvanced reading before after →
    IsOffsetKept reading before after
offset_kept = kept-by second_begun_at second-ntp

pub offset_kept_late : (reading : ℕ) (before after : SteeredClock) →
    IsAdvancedLate reading before after → IsOffsetKeptLate reading before after
offset_kept_late reading before after h =
    kept-by (λ at. second_begun_late at reading) (λ at steered. late-ntp at reading steered) reading
    before after h
