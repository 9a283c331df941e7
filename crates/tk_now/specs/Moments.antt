-- Readings by the moments around them.
use Rattle.std.specs.Prelude.{◌≡◌, ℕ, ◌+◌, ◌*◌, ◌%◌, ◌<◌, ◌≤◌, List, [], ◌∷◌, ◌++◌, length, Option, Some, slice_get}
use mathlib.Core.List.{IsPrefix}
use Rattle.tk_now.specs.declared.rule.Taken.{Taken}
use Rattle.tk_now.specs.declared.rule.Answer.{Answer}
use Rattle.tk_now.specs.Views.{Announcing, Noticed, taken}

-- each of these commands had its reading between its two moments, and by this moment
abbrev pub AreBefore : ℕ → List Taken → Type 0
AreBefore moment commands =
    (place : ℕ) (t : Taken) → slice_get commands place ≡ Some t → (t.from ≤ t.to) × (t.to ≤ moment)

-- all these answers follow one of the first `count` commands, and their readings were over by this
-- moment
abbrev pub AreAnswered : ℕ → ℕ → List Answer → Type 0
AreAnswered count moment log =
    (i : ℕ) (a : Answer) → slice_get log i ≡ Some a → (a.place < count) × (a.taken.to ≤ moment)

-- the answers of this list after its first `count` were over after this moment
abbrev pub AreLater : ℕ → ℕ → List Answer → Type 0
AreLater moment count log =
    (i : ℕ) (a : Answer) → slice_get log i ≡ Some a → count ≤ i → moment < a.taken.to

-- each answer was over before those that are listed after it
abbrev pub AreInTurn : List Answer → Type 0
AreInTurn log =
    (i j : ℕ) (a b : Answer) → i < j → slice_get log i ≡ Some a → slice_get log j ≡ Some b →
    a.taken.to < b.taken.to

-- the reading of a command was over before the next command's was begun
abbrev pub AreInOrder : List Taken → Type 0
AreInOrder commands =
    (i j : ℕ) (t u : Taken) → i < j → slice_get commands i ≡ Some t →
    slice_get commands j ≡ Some u → t.to ≤ u.from

-- an answer's reading was over before the reading of any later command was begun, and was begun
-- after the readings of its command and of all earlier ones were over
abbrev pub AreInLife : List Taken → List Answer → Type 0
AreInLife commands log =
    (i place : ℕ) (a : Answer) (t : Taken) → slice_get log i ≡ Some a →
    slice_get commands place ≡ Some t →
    (a.place < place → a.taken.to ≤ t.from) × (place ≤ a.place → t.to ≤ a.taken.from)

-- a counter answered a read that followed the announcement
abbrev pub IsReadAt : {C : Type 0} → (C → ℕ → ℕ → Type 0) → C → Option ℕ → ℕ → Type 0
IsReadAt answers counter since reading =
    (from : ℕ) × (since ≡ Some from) × answers counter from reading

-- one more command was accepted, at a reading that was taken since its announcement
abbrev pub IsAcceptedAt : Option ℕ → List Taken → ℕ → List Taken → Type 0
IsAcceptedAt since commands reading commands' =
    (from to : ℕ) × (since ≡ Some from) × (from < to)
    × (commands' ≡ commands ++ taken from to reading ∷ [])

-- a reader's answer: the counter returned the reading to a read after this call's first load. It
-- follows the latest accepted command. The answers in `begun` are those that any thread had by the
-- first look: they are of no later command, and had their readings by then, and no other answer was
-- over by then. It is listed after them
pub record IsTimed {C : Type 0} (answers : C → ℕ → ℕ → Type 0) (counter : C) (old new : Noticed)
    (place reading : ℕ) : Type 0 where
  pub word : ℕ
  pub found : new.found ≡ old.found ++ word ∷ word ∷ []
  pub even : word ≡ 2 * place
  pub latest : place + 1 ≡ length new.commands
  pub from : ℕ
  pub given : answers counter from reading
  pub begun : List Answer
  pub known : IsPrefix old.log begun
  pub above : AreAnswered (length new.commands) from begun
  pub later : AreLater from (length begun) new.log
  pub after : AreBefore from new.commands
  pub to : ℕ
  pub span : from < to
  pub between : List Answer
  pub extends : IsPrefix begun between
  pub listed : new.log
      ≡ between ++ (record { place = place; taken = taken from to reading }) ∷ []

-- no answer: the two loads found these words, which differ or are odd. The first is no earlier than
-- the known commands
pub record IsBusy (old new : Noticed) (first last : ℕ) : Type 0 where
  pub found : new.found ≡ old.found ++ first ∷ last ∷ []
  pub from : 2 * length old.commands ≤ first + 2
  pub busy : first ≡ last → first % 2 ≡ 1

-- a reader got all knowledge: it knows the writer's commands, of which it knew the first, and
-- the answers of all readers, of which it knew the first. The writer knows the same answers
-- now. Its loads are counted anew
pub record IsTold (writer : Announcing) (old new : Noticed) : Type 0 where
  pub notice : new.notice ≡ old.notice
  pub commands : new.commands ≡ writer.commands
  pub begins : IsPrefix old.commands writer.commands
  pub log : IsPrefix old.log new.log
  pub all : new.log ≡ writer.log
  pub found : new.found ≡ []
  pub order : AreInOrder writer.commands
  pub life : AreInLife writer.commands new.log
  pub turn : AreInTurn new.log
