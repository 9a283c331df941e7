-- The rate of a counter as C passes it, in 64 bits.
use Rattle.std.specs.Prelude.{◌≡◌, ℕ, ◌-◌, ◌^◌, nat_lt, if◌then◌else◌, MatchOption}
use Rattle.tk_counter.specs.Frequency.{frequency_fault, from_frequency}
use Rattle.tk_c.specs.Codes.{number_of, code_of_fault}
use Rattle.tk_c.specs.Storage.{counter_storage}
use Rattle.tk_c.specs.declared.code.Code.TheVariants.{Done}
use Rattle.tk_c.specs.declared.storage.CounterStorage.{CounterStorage}

-- the rate in Hz or kHz of a request: one above 2^32 - 1 counts as 0, at which no counter runs
abbrev pub requested_rate : ℕ → ℕ
requested_rate rate = if nat_lt (2 ^ 32 - 1) rate then 0 else rate

-- the code of a call that makes a counter from its rate in Hz or kHz, and what the call writes: the
-- counter, or nothing if the rate has a fault
abbrev pub IsMadeAtRate : ℕ → ℕ → ℕ → ℕ → CounterStorage → ℕ → CounterStorage → Type 0
IsMadeAtRate scale bits rate maxsec old code new =
    MatchOption (frequency_fault bits (requested_rate rate) maxsec)
    ((code ≡ number_of Done) × MatchOption (from_frequency scale bits rate maxsec) ⊥
    (λ counter. new ≡ counter_storage counter))
    (λ fault. (code ≡ number_of (code_of_fault fault)) × (new ≡ old))
