-- A clock's line, as a C caller gets it.
use Rattle.std.specs.Prelude.{◌≡◌, ℕ, MatchOption}
use Rattle.tk_line.specs.declared.line.Line.{Line}
use Rattle.tk_line.specs.Line.{IsLine}
use Rattle.tk_clock.specs.State.{ReadBase}
use Rattle.tk_c.specs.Codes.{number_of}
use Rattle.tk_c.specs.Named.{clock_named}
use Rattle.tk_c.specs.declared.code.Code.TheVariants.{Done, BadClock}

-- the line of the clock with a number is written, or no clock has the number, and nothing is
-- written
abbrev pub IsLineBy : ReadBase → ℕ → Line → Line → ℕ → Type 0
IsLineBy base clock old new code = MatchOption (clock_named clock)
    ((code ≡ number_of BadClock) × (new ≡ old))
    (λ named. (code ≡ number_of Done) × IsLine base named new)
