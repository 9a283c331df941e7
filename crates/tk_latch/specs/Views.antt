-- The possible knowledge of a latch's seat.
use Rattle.std.specs.Prelude.{ℕ, List, []}
use Rattle.tk_latch.specs.declared.rule.History.{History}
use Rattle.tk_latch.specs.declared.rule.View.{View}
use Rattle.tk_latch.specs.declared.rule.Role.{Role}
use Rattle.tk_latch.specs.declared.rule.Role.TheVariants.{Spent, Resting, Reading, Making, Copying, Noting}

-- a reader at rest, which has found these sequence numbers
abbrev pub resting : History → List ℕ → View
resting history found = record { history = history; role = Resting found }

-- a reader that began at one sequence number, and knows that the sequence has reached another
abbrev pub reading : History → List ℕ → ℕ → ℕ → View
reading history found first now = record { history = history; role = Reading found first now }

-- the writer with these words of the publication being made in copy 0
abbrev pub making : History → List ℕ → View
making history written = record { history = history; role = Making written }

-- the writer with the first `count` words of the latest publication in copy 1
abbrev pub copying : History → ℕ → View
copying history count = record { history = history; role = Copying count }

-- the writer at rest with a note
abbrev pub noting : History → History → View
noting history note = record { history = history; role = Noting note }

-- a seat that was joined to another one
abbrev pub spent : View
spent = record {
  history = record { counter = record { bits = 0; mult = 0; shift = 0 }; list = [] };
  role = Spent;
}

-- the sequence numbers that a reader's loads have found, in order
abbrev pub found_by : Role → List ℕ
found_by (Resting found) = found
found_by (Reading found first now) = found
found_by _ = []
