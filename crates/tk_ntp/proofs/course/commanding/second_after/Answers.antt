use Rattle.std.proofs.Common.{◌≡◌, ◌∙◌, ap, sym, subst, ℕ, ◌+◌, ◌/◌, ◌^◌, ◌≤◌}
use Rattle.std.specs.Prelude.{Result, Ok, Err, unsigned_abs}
use Rattle.tk_clock.specs.declared.clock_id.ClockId.TheVariants.{Realtime, RealtimeCoarse}
use Rattle.tk_clock.specs.declared.refusal.ReadError.{ReadError}
use Rattle.tk_clock.specs.Limits.{clock_end}
use Rattle.tk_clock.specs.Read.{read_of}
use Rattle.tk_clock.specs.Snapshot.{Snapshot}
use Rattle.tk_clock.specs.State.{base_value, base_monotonic}
use Rattle.tk_ntp.proofs.Restart.{real_read, next_low}
use Rattle.tk_ntp.proofs.course.commanding.second_after.Goals as goal

never : (nanos : ℕ) (error : ReadError) (result : Result ℕ ReadError) → result ≡ Ok nanos →
    result ≡ Err error → ⊥
never nanos error result is is' = cc

same : (nanos nanos' : ℕ) (result : Result ℕ ReadError) → result ≡ Ok nanos →
    result ≡ Ok nanos' → nanos' ≡ nanos
same nanos nanos' result is is' = cc

pub unreachable-requires : goal.unreachable-requires
unreachable-requires c =
    let base = c.args.clock.now.base in
    never (unsigned_abs (base_value base Realtime base.last)) c.in-Err.field-0 c.nanos.result
    (c.nanos.ensures
    ∙ ap (λ (s : Snapshot). read_of s.base RealtimeCoarse c.args.reading) c.snapshot-now.ensures
    ∙ real_read base c.args.reading c.requires c.tick.ensures.running.within.real_low)
    c.in-Err.is

pub returns-clause-value : goal.returns-clause-value
returns-clause-value c =
    let base = c.args.clock.now.base in
    ap (λ nanos. nanos / 10 ^ 9 + 1)
    (same (unsigned_abs (base_value base Realtime base.last)) c.in-Ok.nanos c.nanos.result
    (c.nanos.ensures
    ∙ ap (λ (s : Snapshot). read_of s.base RealtimeCoarse c.args.reading) c.snapshot-now.ensures
    ∙ real_read base c.args.reading c.requires c.tick.ensures.running.within.real_low)
    c.in-Ok.is)

pub returns-clause-low : goal.returns-clause-low
returns-clause-low c =
    let base = c.args.clock.now.base in
    subst (λ n. n ≤ clock_end) (sym (returns-clause-value c))
    (next_low (base_monotonic base base.last) c.real_offset.result base.real_offset
    (c.real_offset.ensures
    ∙ ap (λ (s : Snapshot). s.base.real_offset) c.snapshot-now.ensures)
    c.tick.ensures.running.within.real_low)
