-- Which openings are the same.
use Rattle.std.specs.Prelude.{◌≡◌}
use Rattle.tk_script.specs.declared.opening.Opening.{Opening}

-- with the same counter, at the same reading, with the same REALTIME
abbrev pub AreSameOpenings : Opening → Opening → Type 0
AreSameOpenings one other =
    (one.desc ≡ other.desc) × (one.reading ≡ other.reading) × (one.real ≡ other.real)
