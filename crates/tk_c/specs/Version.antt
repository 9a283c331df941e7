-- The version of the library, as in include/tkcore.h.
use Rattle.std.specs.Prelude.{ℕ, ◌+◌, ◌*◌, ◌^◌}

-- major, minor and patch: 0.3.0
abbrev pub version : ℕ
version = 0 * 2 ^ 16 + 3 * 2 ^ 8 + 0
