-- The report by a journal that is folded when it is full. No line shows what a journal lists, so it
-- is the report by a journal that lists every command over its counter and is never full.
use Rattle.std.specs.Prelude.{ℕ, Option, Some, None}
use Rattle.tk_clock.specs.Refusal.{clock_refusal, first_refusal}
use Rattle.tk_report.specs.Report.{Rule}

-- the rule by which a command is refused: `None` means that a full journal refuses it too; `Some
-- keep` means that a full journal is folded to its last `keep` entries instead
abbrev pub rule_of : Option ℕ → Rule
rule_of None = first_refusal
rule_of (Some keep) = clock_refusal
