-- A caller that was informed of everything under the lock.
use Rattle.std.proofs.Common.{◌≡◌, ◌≤◌, List, sym, ap, ◌∙◌, subst, arith}
use Rattle.atomic_table.specs.Seated.{TableId}
use mathlib.Core.List.{IsPrefix}
use Rattle.tk_clock.specs.Journal.{Journal}
use Rattle.tk_clock.proofs.Lists.{prefix_self, prefix_trans}
use Rattle.tk_latch.specs.Latch.{LatchId, Learnt, told_reader}
use Rattle.tk_now.specs.declared.rule.Taken.{Taken}
use Rattle.tk_now.specs.Life.{AreReadings}
use Rattle.tk_now.specs.Moments.{AreInLife, AreInOrder, IsTold}
use Rattle.tk_now.specs.Views.{Announcing, Noticed}
use Rattle.tk_shared.specs.Callers.{Known, IsInformed, IsKnownBy}
use Rattle.tk_shared.specs.Locked.{Held, IsAtRest, IsHeld}

-- a caller knows this after page, latch and notice informed it while the lock was held
pub informed_by : (page : TableId) (latch : LatchId) (held : Held) → IsHeld page latch held →
    (notice : TableId) (notice_writer : Announcing) → IsAtRest notice held.shown.journal notice_writer →
    (old noticed : Noticed) → IsTold notice_writer old noticed → (caller : Known) →
    IsInformed (record caller {
      seen = held.shown.journal;
      learnt = told_reader held.latched;
      noticed = noticed;
    })
informed_by page latch held is notice notice_writer rest old noticed informed caller = record {
  whole = is.whole;
  mark = let latest = is.latest in omega (arith, latest);
  snapshots = is.snapshots;
  readings = subst (AreReadings held.shown.journal) (sym informed.commands) rest.readings;
  order = subst AreInOrder (sym informed.commands) informed.order;
  life = subst (λ (l : List Taken). AreInLife l noticed.log) (sym informed.commands) informed.life;
  turn = informed.turn;
}

pub known_by_trans : (one two three : Known) → IsKnownBy one two → IsKnownBy two three →
    IsKnownBy one three
known_by_trans one two three p q = record {
  seen = (q.seen.0 ∙ p.seen.0, prefix_trans _ _ _ p.seen.1 q.seen.1);
  learnt = prefix_trans _ _ _ p.learnt q.learnt;
  commands = prefix_trans _ _ _ p.commands q.commands;
  log = prefix_trans _ _ _ p.log q.log;
  folded = let one_two = p.folded in let two_three = q.folded in omega (arith, one_two, two_three);
}

-- one caller that knows as much as another one, and maybe more answers
pub knows_as_much : (one other : Known) → other.seen ≡ one.seen → other.learnt ≡ one.learnt →
    other.noticed.commands ≡ one.noticed.commands → IsPrefix one.noticed.log other.noticed.log →
    one.folded ≤ other.folded → IsKnownBy one other
knows_as_much one other seen learnt commands log folded = record {
  seen = (ap (λ (j : Journal). j.opening) seen, as_prefix (ap (λ (j : Journal). j.entries) (sym seen)));
  learnt = as_prefix (ap (λ (l : Learnt). l.publications) (sym learnt));
  commands = as_prefix (sym commands);
  log = log;
  folded = folded;
}
  where
    as_prefix : {X : Type 0} {xs ys : List X} → xs ≡ ys → IsPrefix xs ys
    as_prefix {X} {xs} same = subst (IsPrefix xs) same (prefix_self xs)
