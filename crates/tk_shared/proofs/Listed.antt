-- The longest list of readings that a caller knows of.
use Rattle.std.proofs.Common.{zero, suc, List, [], ◌∷◌, All, length, refl, arith, inl, inr}
use Rattle.std.proofs.lemmas.Bool.{cases_lt}
use mathlib.Core.List.{IsPrefix}
use Rattle.tk_clock.proofs.Lists.{prefix_self, prefix_trans}
use Rattle.tk_now.specs.declared.rule.Taken.{Taken}
use Rattle.tk_now.specs.declared.rule.Answer.{Answer}
use Rattle.tk_now.specs.Moments.{AreInLife, AreInTurn}
use Rattle.tk_now.proofs.Lists.{get_first, life_first}
use Rattle.tk_shared.specs.Callers.{Known}
use Rattle.tk_shared.specs.Closing.{HasListed, HaveListed, IsKnownLog}
use Rattle.tk_shared.proofs.Counts.{Each, all_of, each_of}
use Rattle.tk_shared.proofs.Cut.{prefix_shorter}

-- the longest of the lists that these callers know
record Longest (all : List Answer) (callers : List Known) : Type 0 where
  pub log : List Answer
  pub within : IsPrefix log all
  pub known : IsKnownLog log callers
  pub each : Each (HasListed log) callers

-- one more caller in front knows no more
one_more : (log : List Answer) (caller : Known) (callers : List Known) → IsKnownLog log callers →
    IsKnownLog log (caller ∷ callers)
one_more log caller callers (inl none) = inl none
one_more log caller callers (inr known) = inr (suc known.0, known.1, known.2, known.3)

-- what callers know begins a longer list too
each_longer : (log more : List Answer) (callers : List Known) → IsPrefix log more →
    Each (HasListed log) callers → Each (HasListed more) callers
each_longer log more [] p each = tt
each_longer log more (caller ∷ callers) p each = (
  prefix_trans caller.noticed.log log more each.0 p,
  each_longer log more callers p each.1,
)

longest : (all : List Answer) (callers : List Known) → Each (HasListed all) callers →
    Longest all callers
longest all [] each = record { log = []; within = (all, refl); known = inl refl; each = tt }
longest all (caller ∷ callers) each =
    let rest = longest all callers each.1 in
    let mine = caller.noticed.log in
    elim (cases_lt (length rest.log) (length mine)) [
      | inl less ↦
          let p = prefix_shorter rest.log mine all rest.within each.0 (omega (arith, less)) in
          record {
            log = mine;
            within = each.0;
            known = inr (zero, caller, refl, refl);
            each = (prefix_self mine, each_longer rest.log mine callers p rest.each);
          }
      | inr no_less ↦ record {
        log = rest.log;
        within = rest.within;
        known = one_more rest.log caller callers rest.known;
        each = (
          prefix_shorter mine rest.log all each.0 rest.within (omega (arith, no_less)),
          rest.each,
        );
      }
    ]

-- the first of these answers
turn_first : (log log' : List Answer) → IsPrefix log log' → AreInTurn log' → AreInTurn log
turn_first log log' p all i j a b less at_a at_b =
    all i j a b less (get_first log log' p i a at_a) (get_first log log' p j b at_b)

-- the callers' readings, of which this list has all
pub have_listed : (commands : List Taken) (all : List Answer) (callers : List Known) →
    AreInLife commands all → AreInTurn all → All (HasListed all) callers →
    HaveListed commands callers
have_listed commands all callers alive turn each =
    let most = longest all callers (each_of (HasListed all) callers each) in
    record {
      log = most.log;
      alive = life_first commands most.log all most.within alive;
      turn = turn_first most.log all most.within turn;
      each = all_of (HasListed most.log) callers most.each;
      known = most.known;
    }
