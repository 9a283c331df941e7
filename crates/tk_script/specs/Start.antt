-- The clocks with which a script begins.
use Rattle.std.specs.Prelude.{◌≡◌, ℕ, ◌^◌, ◌≤◌, [], None, Bool, true, false}
use Rattle.tk_clock.specs.Folding.{journal_from}
use Rattle.tk_clock.specs.Journal.{Journal, opened}
use Rattle.tk_clock.specs.Refusal.{opening_refusal}
use Rattle.tk_ntp.specs.SteeredClock.{steered_refusal}
use Rattle.tk_script.specs.declared.opening.Start.{Start}
use Rattle.tk_script.specs.declared.opening.Start.TheVariants.{Opened, Steered, Running, Continued}

-- the most commands that running clocks may have accepted before a script, so that all of its
-- commands can be counted too
abbrev pub most_front : ℕ
most_front = 2 ^ 62

-- whether a discipline steers the clocks
abbrev pub is_steered : Start → Bool
is_steered (Opened opening) = false
is_steered (Steered opening hz) = true
is_steered (Running clock front) = false
is_steered (Continued clock front) = true

-- clocks can begin in this way
abbrev pub IsOpenable : Start → Type 0
IsOpenable (Opened opening) = opening_refusal opening.desc opening.reading opening.real ≡ None
IsOpenable (Steered opening hz) =
    steered_refusal opening.desc opening.reading opening.real hz ≡ None
IsOpenable (Running clock front) = front ≤ most_front
IsOpenable (Continued clock front) = front ≤ most_front

-- the journal with which they begin: the journal of newly opened clocks, or one into which all
-- commands that the clocks have accepted are folded
abbrev pub journal_at : Start → Journal
journal_at (Opened opening) = opened opening.desc opening.reading opening.real
journal_at (Steered opening hz) = opened opening.desc opening.reading opening.real
journal_at (Running clock front) = journal_from front clock []
journal_at (Continued clock front) = journal_from front clock.clock []
