-- The numbers of the finest counter have no fault, so that it is made.
use Rattle.std.proofs.Common.{◌≡◌, ◌≤◌, ◌<◌, ℕ, ◌*◌, ◌^◌, refl, true, false, Result, Ok, Err, Some, None, MatchResult}
use Rattle.tk_counter.specs.Counter.{Counter, IsCounter}
use Rattle.tk_counter.specs.Description.{first_fault}
use Rattle.tk_counter.specs.Frequency.{rounded_mult}
use Rattle.tk_counter.specs.declared.desc_error.DescError.{DescError}
use Rattle.tk_c.specs.Finest.{counter_at, is_exact, finest_fault, IsFinest, IsFinestDesc}
use Rattle.tk_c.proofs.FinestShift.{exact_short}
use Rattle.tk_c.proofs.Loading.{no_fault}

-- the test doesn't depend on the bits
same_exact : (bits hz shift cycles : ℕ) →
    is_exact (counter_at bits hz shift) cycles ≡ is_exact (counter_at 64 hz shift) cycles
unfolding is_exact
same_exact bits hz shift cycles = refl

pub finest_at : (bits hz maxsec shift cycles : ℕ) → cycles ≡ maxsec * hz → 1 ≤ shift →
    shift ≤ 32 → is_exact (counter_at 64 hz shift) cycles ≡ true →
    ((above : ℕ) → shift < above → above ≤ 32 →
    is_exact (counter_at 64 hz above) cycles ≡ false) →
    IsFinest bits hz maxsec shift
finest_at bits hz maxsec shift cycles same least most exact greatest = record {
  least = least;
  most = most;
  exact = rw (same_exact bits hz shift (maxsec * hz)) (rw same at exact);
  greatest = λ above high low.
      rw (same_exact bits hz above (maxsec * hz)) (rw same at (greatest above high low));
}

is_counter : (bits hz maxsec shift : ℕ) → 8 ≤ bits → bits ≤ 64 →
    IsFinest bits hz maxsec shift → 256 ≤ rounded_mult (10 ^ 9) hz shift →
    IsCounter (counter_at bits hz shift)
is_counter bits hz maxsec shift few many finest ample = record {
  bits_low = few;
  bits_high = many;
  shift_high = finest.most;
  mult_low = ample;
  adjustable = exact_short (counter_at bits hz shift) (maxsec * hz) finest.exact;
}

pub made : (bits hz maxsec shift mult : ℕ) (result : Result Counter DescError) → 8 ≤ bits →
    bits ≤ 64 → finest_fault bits hz maxsec ≡ None → IsFinest bits hz maxsec shift →
    256 ≤ rounded_mult (10 ^ 9) hz shift → mult ≡ rounded_mult (10 ^ 9) hz shift →
    (let counter : Counter = record { bits = bits; mult = mult; shift = shift } in
    MatchResult result
    (λ desc. (desc ≡ counter) × (first_fault counter ≡ None))
    (λ fault. first_fault counter ≡ Some fault)) →
    MatchResult result
    (λ desc. (finest_fault bits hz maxsec ≡ None) × IsFinestDesc bits hz maxsec desc)
    (λ fault. finest_fault bits hz maxsec ≡ Some fault)
made bits hz maxsec shift mult (Ok desc) few many none finest ample cast stated =
    (none, record { shift = shift; finest = finest; stated = (rw cast at stated).0 })
made bits hz maxsec shift mult (Err fault) few many none finest ample cast stated =
    let faultless = no_fault (counter_at bits hz shift)
    (is_counter bits hz maxsec shift few many finest ample) in
    let faulty : first_fault (counter_at bits hz shift) ≡ Some fault = rw cast at stated in
    absurd (cc (faulty, faultless))
