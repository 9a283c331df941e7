-- Statements about a call's input.
use Rattle.std.specs.Prelude.{ℕ, List}
use Rattle.tk_clock.specs.declared.clock_id.ClockId.{ClockId}
use Rattle.tk_clock.specs.Journal.{Journal}
use Rattle.tk_pieces.specs.declared.input.Input.{Input}

-- a statement about journal, clock, fronts and stamps, made about an input
abbrev pub of_input : {A : Type 1} {H : Type 0} →
    (Journal → ClockId → List ℕ → List ℕ → A) → Input H → A
of_input statement input =
    statement input.keeper.now.journal input.clock input.fronts.now input.stamps.now
