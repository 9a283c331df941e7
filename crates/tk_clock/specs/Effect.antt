-- The results of a command that passed the tests which don't depend on a clock's value.
use Rattle.std.specs.Prelude.{◌≡◌, ℕ, Bool, true, false, Result, None, Some, MatchResult}
use Rattle.tk_clock.specs.declared.command.Command.{Command}
use Rattle.tk_clock.specs.declared.refusal.Refusal.{Refusal}
use Rattle.tk_clock.specs.declared.refusal.Refusal.TheVariants.{Range}
use Rattle.tk_clock.specs.Limits.{is_past_limit}
use Rattle.tk_clock.specs.State.{ReadBase, State, base_value, forwarded, effect}
use Rattle.tk_clock.specs.Running.{IsRated}
use Rattle.tk_clock.specs.Refusal.{early_refusal, state_value_refusal}

-- the base is the state's base, forwarded to the base's own last reading
pub record IsForwarded (state : State) (base : ReadBase) : Type 0 where
  pub stated : base ≡ forwarded state.base base.last
  pub rated : IsRated base

-- the command passes the tests that don't depend on a clock's value
abbrev pub IsEarly : State → ℕ → Command → Type 0
IsEarly state reading cmd =
    early_refusal state.base.counter state.base.asleep state.base.last reading cmd ≡ None

-- the result is the state after the command, or the first of the later tests that fails
abbrev pub IsEffect : State → ℕ → Command → Result State Refusal → Type 0
IsEffect state reading cmd result =
    MatchResult result
    (λ after. (state_value_refusal state reading cmd ≡ None) × (after ≡ effect state reading cmd))
    (λ refusal. state_value_refusal state reading cmd ≡ Some refusal)

-- whether a clock of the state is at its limit or past it, at the last reading
abbrev pub is_settled_past : State → Command → Bool
is_settled_past state cmd = is_past_limit (λ clock. base_value state.base clock state.base.last) cmd

-- the result is the state itself, or `Range` if a clock is at its limit
abbrev pub IsSettled : State → Command → Result State Refusal → Type 0
IsSettled state cmd result =
    MatchResult result
    (λ after. (is_settled_past state cmd ≡ false) × (after ≡ state))
    (λ refusal. (is_settled_past state cmd ≡ true) × (refusal ≡ Range))
