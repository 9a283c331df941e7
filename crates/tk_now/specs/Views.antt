-- The possible knowledge of a notice's seats.
use Rattle.std.specs.Prelude.{◌≡◌, ℕ, List, [], ◌∷◌, Option, Some, None}
use Rattle.atomic_table.specs.Seated.{TableId}
use Rattle.tk_now.specs.declared.rule.Taken.{Taken}
use Rattle.tk_now.specs.declared.rule.Answer.{Answer}
use Rattle.tk_now.specs.declared.counter.Look.{Look}
use Rattle.tk_now.specs.declared.rule.View.{View}
use Rattle.tk_now.specs.declared.rule.Role.{Role}
use Rattle.tk_now.specs.declared.rule.Role.TheVariants.{Spent, Resting, Timing, Idle, Announced, Noting}

abbrev pub view_of : List Taken → List Answer → Role → View
view_of commands log role = record { commands = commands; log = log; role = role }

abbrev pub taken : ℕ → ℕ → ℕ → Taken
taken from to reading = record { from = from; to = to; reading = reading }

-- the words that a reader's loads have found, in order
abbrev pub found_by : Role → List ℕ
found_by (Resting found) = found
found_by (Timing found first from) = found
found_by _ = []

-- the word that the first load found
abbrev pub first_by : Role → ℕ
first_by (Timing found first from) = first
first_by _ = 0

-- the moment of the first look, or of the announcement
abbrev pub from_by : Role → ℕ
from_by (Timing found first from) = from
from_by (Announced from) = from
from_by _ = 0

-- the moment of a look
abbrev pub moment_of : Look → ℕ
moment_of look = from_by look.seat.me.0.role

-- the moment of the announcement, if a command is in progress
abbrev pub since_by : Role → Option ℕ
since_by (Announced from) = Some from
since_by _ = None

-- the writer's role
abbrev pub announcing : Option ℕ → Role
announcing None = Idle
announcing (Some from) = Announced from

-- the writer with a note of a reader's knowledge
abbrev pub noting : View → View → View
noting writer reader =
    view_of writer.commands writer.log (Noting reader.commands reader.log)

-- a seat that was joined to the writer's
abbrev pub spent : View
spent = view_of [] [] Spent

-- the note's commands and answers
abbrev pub noted_commands : Role → List Taken
noted_commands (Noting commands log) = commands
noted_commands _ = []

abbrev pub noted_log : Role → List Answer
noted_log (Noting commands log) = log
noted_log _ = []

abbrev pub IsNoting : View → Type 0
IsNoting view = view.role ≡ Noting (noted_commands view.role) (noted_log view.role)

abbrev pub IsResting : View → Type 0
IsResting view = view.role ≡ Resting (found_by view.role)

abbrev pub IsTiming : View → Type 0
IsTiming view =
    view.role ≡ Timing (found_by view.role) (first_by view.role) (from_by view.role)

abbrev pub IsIdle : View → Type 0
IsIdle view = view.role ≡ Idle

abbrev pub IsAnnounced : View → Type 0
IsAnnounced view = view.role ≡ Announced (from_by view.role)

-- a writer: its notice, the readings of the accepted commands, the opening's first, the answers
-- that it knows of, the first of all readers' answers, and the moment of the announcement if a
-- command is in progress
pub record Announcing : Type 0 where
  pub notice : TableId
  pub commands : List Taken
  pub log : List Answer
  pub since : Option ℕ

-- a reader: its notice, the readings of commands and of readers that it knows of, and the words
-- that its loads have found, in order
pub record Noticed : Type 0 where
  pub notice : TableId
  pub commands : List Taken
  pub log : List Answer
  pub found : List ℕ

-- the writer of a notice that was just opened; the opening's reading is of moment 0
abbrev pub opened_notice_writer : TableId → ℕ → Announcing
opened_notice_writer notice reading = record {
  notice = notice;
  commands = taken 0 0 reading ∷ [];
  log = [];
  since = None;
}

-- a new reader
abbrev pub opened_notice_reader : Announcing → Noticed
opened_notice_reader writer = record {
  notice = writer.notice;
  commands = writer.commands;
  log = [];
  found = [];
}
