-- Workers that do pieces of work in threads.
use Rattle.std.specs.Prelude.{ℕ}

-- the greatest number of workers
abbrev pub most_workers : ℕ
most_workers = 64
