-- A request that gives nothing changes nothing.
use Rattle.std.proofs.Common.{◌≡◌, ℕ, refl}
use Rattle.tk_ntp.specs.declared.timex.Timex.{Timex}
use Rattle.tk_ntp.specs.Ntp.{Ntp}
use Rattle.tk_ntp.specs.Modes.{asked}

pub asked-nothing : (request : Timex) (now : ℕ) (ntp : Ntp) → request.modes ≡ 0 →
    asked request now ntp ≡ ntp
asked-nothing request now ntp is = rw is refl
