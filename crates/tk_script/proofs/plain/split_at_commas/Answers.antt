use Rattle.std.proofs.Common.{◌≡◌, ◌∙◌, ◌++◌, ◌∷◌, ◌+◌, [], ℕ, List, arith, take, drop, ap, length-drop, refl, subst, sym}
use Rattle.memchr.specs.Find.{is_byte}
use Rattle.tk_script.specs.Plain.{HasFields, cut_at_commas}
use Rattle.tk_script.specs.declared.plain.Fields.{Fields}
use Rattle.tk_script.proofs.CountLemmas.{HasFields-more, count-most}
use Rattle.tk_script.proofs.PlainLemmas.{cut-more, cut-whole, found-at, found-none, range-to_end}
use Rattle.tk_script.proofs.plain.split_at_commas.Goals as goal

pub commas-preserved : goal.commas-preserved
commas-preserved c =
    let rest = c.commas.rest.now in
    let comma = c.in-Some.comma in
    let found = found-at 44 rest comma c.in-Some.ensures in
    let tail = drop (comma + 1) rest in
    let inv = c.commas.invariant in
    let fields = inv.1 in
    let shorter = length-drop (comma + 1) rest in
    rw (range-to_end (comma + 1) rest) (
      omega (arith, inv.0, found.0, c.push.ensures.count, shorter),
      fields ++ take comma rest ∷ [],
      c.push.ensures.fields fields inv.2,
      cut-more fields rest (take comma rest) tail found.1 found.2 ∙ inv.3,
    )

pub overflow_add-fields : goal.overflow_add-fields
overflow_add-fields c =
    let few = count-most [] c.commas.rest.now in
    let counted = c.count_fields.ensures in
    omega (arith, few, counted, c.commas.invariant.0)

pub returns-then-fields-ge-MOST_FIELDS : goal.returns-then-fields-ge-MOST_FIELDS
returns-then-fields-ge-MOST_FIELDS c =
    let inv = c.commas.invariant in
    let old = c.commas.fields in
    let new : Fields = record { first = old.first; count = old.count + c.count_fields.result } in
    subst (λ (fs : List (List ℕ)). HasFields fs new) inv.3
    (HasFields-more inv.1 (cut_at_commas c.commas.rest.now) old new inv.2
    (ap (λ (n : ℕ). old.count + n) c.count_fields.ensures) c.if-fields-ge-MOST_FIELDS.true refl)

pub returns : goal.returns
returns c =
    let rest = c.commas.rest.now in
    let inv = c.commas.invariant in
    let fields = inv.1 in
    let last = cut-whole [] rest (found-none (is_byte 44) rest c.in_default.ensures) in
    let whole : fields ++ rest ∷ [] ≡ cut_at_commas c.args.line.now =
    ap (λ (fs : List (List ℕ)). fields ++ fs) (sym last) ∙ inv.3 in
    subst (λ (fs : List (List ℕ)). HasFields fs c.push-2.new.self) whole
    (c.push-2.ensures.fields fields inv.2)
