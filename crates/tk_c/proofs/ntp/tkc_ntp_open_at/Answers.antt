use Rattle.std.proofs.Common.{◌≡◌, ◌∙◌, ap, subst, ℕ, Option, Some, None, w64, to_z, of_z}
use Rattle.std.specs.Prelude.{Result, Ok, Err, MatchOption, MatchResult}
use Rattle.std.proofs.lemmas.Int.{to_z-of_z}
use Rattle.tk_clock.specs.declared.timespec.Timespec.{Timespec}
use Rattle.tk_clock.specs.declared.refusal.Refusal.{Refusal}
use Rattle.tk_ntp.specs.SteeredClock.{SteeredClock}
use Rattle.tk_ntp.specs.Uptime.{steered_running, steered_running_refusal}
use Rattle.tk_c.specs.declared.ntp_storage.NtpStorage.{NtpStorage}
use Rattle.tk_c.specs.Codes.{code_of_refusal, number_of}
use Rattle.tk_c.specs.NtpStorage.{ntp_storage}
use Rattle.tk_c.proofs.ntp.tkc_ntp_open_at.Goals as goal

-- what is written and returned, by the first test that fails
written : (refusal : Option Refusal) (result : Result SteeredClock Refusal)
    (running : SteeredClock) (code : ℕ) (out old : NtpStorage) →
    MatchResult result (λ steered. (refusal ≡ None) × (steered ≡ running))
    (λ reason. refusal ≡ Some reason) →
    MatchResult result (λ steered. (code ≡ 0) × (out ≡ ntp_storage 0 steered))
    (λ reason. (code ≡ number_of (code_of_refusal reason)) × (out ≡ old)) →
    MatchOption refusal ((code ≡ 0) × (out ≡ ntp_storage 0 running))
    (λ reason. (code ≡ number_of (code_of_refusal reason)) × (out ≡ old))
written refusal (Ok steered) running code out old opened done =
    rw opened.0 (done.0, done.1 ∙ ap (ntp_storage 0) opened.1)
written refusal (Err reason) running code out old refused done = rw refused done

pub returns : goal.returns
returns c =
    let real : Timespec = record { sec = to_z w64 (of_z w64 c.args.sec); nsec = c.args.nsec } in
    let uptime : Timespec = record {
      sec = to_z w64 (of_z w64 c.args.uptime_sec);
      nsec = c.args.uptime_nsec;
    } in
    let refusal : Timespec → Timespec → Option Refusal = λ t u.
    steered_running_refusal c.args.counter.now c.args.reading t u c.args.hz in
    let running : Timespec → Timespec → SteeredClock = λ t u.
    steered_running c.args.counter.now c.args.reading t u c.args.hz in
    let by : Timespec → Timespec → Type 0 = λ t u.
    MatchOption (refusal t u)
    ((c.write_opened.result ≡ 0) × (c.write_opened.new.out ≡ ntp_storage 0 (running t u)))
    (λ reason. (c.write_opened.result ≡ number_of (code_of_refusal reason))
    × (c.write_opened.new.out ≡ c.args.out.now)) in
    subst (λ z. by (record { sec = z; nsec = c.args.nsec })
    (record { sec = c.args.uptime_sec; nsec = c.args.uptime_nsec }))
    (to_z-of_z w64 c.args.sec c.ranges.sec)
    (subst (λ z. by real (record { sec = z; nsec = c.args.uptime_nsec }))
    (to_z-of_z w64 c.args.uptime_sec c.ranges.uptime_sec)
    (written (refusal real uptime) c.open_at-opened.result (running real uptime)
    c.write_opened.result c.write_opened.new.out c.args.out.now
    c.open_at-opened.ensures.answer c.write_opened.ensures))
