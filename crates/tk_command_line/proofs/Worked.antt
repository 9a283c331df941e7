-- Requests of worked command lines, computed from the definitions only.
use Rattle.std.proofs.Common.{◌≡◌, List, [], ◌∷◌, codes, refl}
use Rattle.std.specs.Prelude.{Option, Some, None}
use Rattle.clap.specs.Words.{Text}
use Rattle.clap.proofs.OnLiterals.{clap_on_literals}
use Rattle.tk_clock.specs.declared.clock_id.ClockId.TheVariants.{MonotonicRaw, Tai}
use Rattle.tk_command_line.specs.Request.{Task, Replay, Trace, Many, Race}
use Rattle.tk_command_line.specs.CommandLine.{asked_by}

-- the request of the arguments after the program's name
abbrev ask_for : List Text → Option Task
unfolding asked_by
ask_for words = asked_by (codes "tkcore" ∷ words)

-- `replay`, and the number of entries to keep
kept : (ask_for [] ≡ Some (Replay None))
    × (ask_for (codes "replay" ∷ []) ≡ Some (Replay None))
    × (ask_for (codes "replay" ∷ codes "--keep" ∷ codes "7" ∷ []) ≡ Some (Replay (Some 7)))
    × (ask_for (codes "replay" ∷ codes "--keep=007" ∷ []) ≡ Some (Replay (Some 7)))
    × (ask_for (codes "replay" ∷ codes "--keep" ∷ codes "524288" ∷ [])
    ≡ Some (Replay (Some 524288)))
unfolding asked_by clap_on_literals
kept = (refl, refl, refl, refl, refl)

-- a number to keep is from 1 to 524,288, without a sign, and given once
not_kept : (ask_for (codes "replay" ∷ codes "--keep" ∷ codes "524289" ∷ []) ≡ None)
    × (ask_for (codes "replay" ∷ codes "--keep" ∷ codes "0" ∷ []) ≡ None)
    × (ask_for (codes "replay" ∷ codes "--keep" ∷ codes "+1" ∷ []) ≡ None)
    × (ask_for (codes "replay" ∷ codes "--keep" ∷ []) ≡ None)
    × (ask_for (codes "replay" ∷ codes "--keep" ∷ codes "1" ∷ codes "--keep" ∷ codes "1" ∷ []) ≡ None)
unfolding asked_by clap_on_literals
not_kept = (refl, refl, refl, refl, refl)

-- `--keep` follows `replay`, which takes no file, and there is no help
other_words : (ask_for (codes "--keep" ∷ codes "1" ∷ []) ≡ None)
    × (ask_for (codes "replay" ∷ codes "1" ∷ []) ≡ None)
    × (ask_for (codes "--help" ∷ []) ≡ None)
    × (ask_for (codes "help" ∷ []) ≡ None)
unfolding asked_by clap_on_literals
other_words = (refl, refl, refl, refl)

-- `trace`, a clock and two files, whose names may begin with dashes after `--`
traced : (ask_for (codes "trace" ∷ codes "tai" ∷ codes "a" ∷ codes "b" ∷ [])
    ≡ Some (Trace Tai (codes "a") (codes "b")))
    × (ask_for (codes "trace" ∷ codes "monotonic_raw" ∷ codes "a" ∷ codes "a" ∷ [])
    ≡ Some (Trace MonotonicRaw (codes "a") (codes "a")))
    × (ask_for (codes "trace" ∷ codes "tai" ∷ codes "--" ∷ codes "-a" ∷ codes "--b" ∷ [])
    ≡ Some (Trace Tai (codes "-a") (codes "--b")))
unfolding asked_by clap_on_literals
traced = (refl, refl, refl)

-- `trace` takes the name of a clock and exactly two files
not_traced : (ask_for (codes "trace" ∷ codes "time" ∷ codes "a" ∷ codes "b" ∷ []) ≡ None)
    × (ask_for (codes "trace" ∷ codes "tai" ∷ codes "a" ∷ []) ≡ None)
    × (ask_for (codes "trace" ∷ codes "tai" ∷ codes "a" ∷ codes "b" ∷ codes "c" ∷ []) ≡ None)
unfolding asked_by clap_on_literals
not_traced = (refl, refl, refl)

-- `many`, 1 to 64 workers and at least one file
many : (ask_for (codes "many" ∷ codes "4" ∷ codes "a" ∷ codes "b" ∷ codes "a" ∷ [])
    ≡ Some (Many 4 (codes "a" ∷ codes "b" ∷ codes "a" ∷ [])))
    × (ask_for (codes "many" ∷ codes "064" ∷ codes "a" ∷ []) ≡ Some (Many 64 (codes "a" ∷ [])))
    × (ask_for (codes "many" ∷ codes "65" ∷ codes "a" ∷ []) ≡ None)
    × (ask_for (codes "many" ∷ codes "0" ∷ codes "a" ∷ []) ≡ None)
    × (ask_for (codes "many" ∷ codes "1" ∷ []) ≡ None)
unfolding asked_by clap_on_literals
many = (refl, refl, refl, refl, refl)

-- `race`, a step and at least one file
race : (ask_for (codes "race" ∷ codes "18446744073709551615" ∷ codes "a" ∷ codes "b" ∷ [])
    ≡ Some (Race 18446744073709551615 (codes "a" ∷ codes "b" ∷ [])))
    × (ask_for (codes "race" ∷ codes "0" ∷ codes "a" ∷ []) ≡ Some (Race 0 (codes "a" ∷ [])))
    × (ask_for (codes "race" ∷ codes "18446744073709551616" ∷ codes "a" ∷ []) ≡ None)
    × (ask_for (codes "race" ∷ codes "1" ∷ []) ≡ None)
unfolding asked_by clap_on_literals
race = (refl, refl, refl, refl)
