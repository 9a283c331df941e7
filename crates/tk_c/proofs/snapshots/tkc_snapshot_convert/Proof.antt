-- `tkc_snapshot_convert` meets its contract. The proof follows its code step by step and is
-- hand-written, because the call makes lists from addresses. Without stamps, or without an item in
-- the output list, no address is read. Otherwise the output list is lent for a lifetime of this
-- call, and is given back when that lifetime ends. The stamps are lent already. `ends` is the
-- common state of all three branches at the return. A comment in brackets lists the facts and
-- tokens that the proof holds at that step.
use Rattle.std.proofs.Common.{◌≡◌, MatchOption, ℕ, ◌*◌, ◌^◌, ◌<◌, List, [], ◌∷◌, length, refl, sym, subst, arith, w32, w64, T, not, eqb, ◌∙◌, zero, suc, eqb→eq}
use Rattle.std.proofs.raw_atomic.Walks.{proved}
use seplogic.Ra.Ura.{Ura}
use base.Fraction.{full_share}
use base.Logic.{ent, sep, emp, ex, ex_i, mono_r, via, id⊢}
use base.Fml.{flent, fat, Lft, Share, ftrue, feq, fsep, flft, fbor, fres}
use mir.Syntax.{named, ty_ptr}
use mir.Val.{Val}
use types.Logic.{Logic, sem}
use contract.Monad.{fact, fact_i}
use contract.Running.{tables}
use types.Kit.{‵, raw, ◌⊛◌, some, later, prop, at_ret, Sq, ◌$◌, ◌∵◌, !, qed, done, move, keep, drop, use0, use1, use2, use3, split, split3, join, fsplit, fsplit3, fjoin, feq_i, feq_l, pick, await, rewrite, suffices, group}
use types.Run.{enter, lit, bin, addr, stop, no_more, and_then, first, branches, skips, exec, returns, returns_within}
use types.ByLocal.{alloc_all, pass_all, free_all, look_at, take_at, give_at, get, through, sets, lands_as, env}
use types.Part.{agg}
use types.SemTy.{Body, Arr, cells}
use denote.Builtin.{u64, usize, u32}
use denote.Exit.{yes}
use denote.Array.{Array}
use denote.ArrayMemory.{Array-apart, Array-whole}
use denote.Index.{row, whole_in, whole_out}
use denote.Lend.{Held, lends_slice, slice_back}
use denote.Slice.{MutSlice, ShrSlice, slice_val, shr_slice_copy}
use types.Tokens.{lft_new, lft_end}
use denote.Plain.{uint_vals, uint_Tells, uint_Makes, uint_Lawful, uint_row_laws}
use denote.RawPtr.{Ptr, RawPtr, block_ptr, lies_at, in_a_block, ptr_val, rawptr_vals, rawptr_Tells, rawptr_Lawful}
use denote.Ref.{MutRef, ShrRef, mut_vals, mut_Tells, shr_vals, shr_Tells}
use denote.RattleType.{owns}
use denote.Memory.{mem}
use denote.Signature.{plain, shr_ref_to}
use denote.Laws.{Is, shows}
use denote.Steps.{nothing, owned, peeks, heard}
use denote.Triple.Call.{calls_at}
use denote.Triple.Clauses.{lasts}
use denote.Triple.Spec.{triple_of}
use denote.Triple.Table.{framed}
use denote.Triple.Walked.{Stays, walk_of, on_exit, stay_dropped, gave_ref, Goes-dropped, Goes-gave_ref, ends_at}
use Rattle.tk_c.specs.Lists.{owned_at, shared_at, lent_at}
use Rattle.tk_c.specs.Converted.{IsAnswered}
use Rattle.tk_c.specs.Codes.{number_of}
use Rattle.tk_c.specs.Named.{clock_named}
use Rattle.tk_c.specs.declared.code.Code.TheVariants.{Done, BadClock}
use Rattle.tk_clock.specs.State.{ReadBase}
use Rattle.tk_clock.specs.contracts.snapshot.Snapshot.{the_row as R}
use Rattle.tk_c.proofs.NoStamps.{none_answered}
use Rattle.tk_c.specs.contracts.snapshots.tkc_snapshot_convert as f
use Rattle.tk_c.proofs.snapshots.tkc_snapshot_convert.Statement.{statement}
use Rattle.tk_c.proofs.snapshots.tkc_snapshot_convert.Code as code
use Rattle.tk_c.specs.contracts.snapshots.convert_none as g
use Rattle.tk_c.proofs.snapshots.convert_none.Met as g_met
use Rattle.tk_c.specs.contracts.snapshots.convert_into_none as h
use Rattle.tk_c.proofs.snapshots.convert_into_none.Met as h_met
use Rattle.tk_c.specs.contracts.snapshots.convert as k
use Rattle.tk_c.proofs.snapshots.convert.Met as k_met

-- if the count isn't 0, there are stamps
some_stamps : (stamps : List ℕ) (count : ℕ) → length stamps ≡ count → T (not (eqb count 0)) → 0 < length stamps
some_stamps stamps zero counted given = absurd given
some_stamps stamps (suc n) counted given = omega (arith, counted)

module _ {M : Type 1} {𝓤 : Ura M} (𝓛 : Logic 𝓤) where
  numbers_out : (p : Ptr) (n : ℕ) (xs : List ℕ) → T (not (eqb n 0)) → ent 𝓤 (sem 𝓛 (owned_at p n xs)) (sem 𝓛 (lies_at (Array u64 n) full_share p xs))
  numbers_out p zero xs given = absurd given
  numbers_out p (suc n) xs given = id⊢ 𝓤 _

  numbers_in : (p : Ptr) (n : ℕ) (xs : List ℕ) → T (not (eqb n 0)) → ent 𝓤 (sem 𝓛 (lies_at (Array u64 n) full_share p xs)) (sem 𝓛 (owned_at p n xs))
  numbers_in p zero xs given = absurd given
  numbers_in p (suc n) xs given = id⊢ 𝓤 _

  shared_out : (p : Ptr) (n : ℕ) (κ : Lft) (q : Share) (xs : List ℕ) → T (not (eqb n 0)) → ent 𝓤 (sem 𝓛 (shared_at p n κ q xs)) (sem 𝓛 (lent_at p κ q xs))
  shared_out p zero κ q xs given = absurd given
  shared_out p (suc n) κ q xs given = id⊢ 𝓤 _

  shared_in : (p : Ptr) (n : ℕ) (κ : Lft) (q : Share) (xs : List ℕ) → T (not (eqb n 0)) → ent 𝓤 (sem 𝓛 (lent_at p κ q xs)) (sem 𝓛 (shared_at p n κ q xs))
  shared_in p zero κ q xs given = absurd given
  shared_in p (suc n) κ q xs given = id⊢ 𝓤 _

abbrev stayed : Stays f.ended.signature.params f.ended.kept
stayed = (stay_dropped _ yes, (stay_dropped _ yes, (gave_ref (0 ∷ []) tt (plain (λ _. usize)), (stay_dropped _ yes, (stay_dropped _ yes, (stay_dropped _ yes, (stay_dropped _ yes, tt)))))))

pub tkc_snapshot_convert_spec : {M : Type 1} → statement M
tkc_snapshot_convert_spec 𝓤 𝓛 𝓜 𝓡 wired =
    let c = f.clauses 𝓛 𝓜.mem 𝓡.returns in let W = walk_of 𝓛 f.ended stayed c in let 𝓣 = tables 𝓤 𝓛.H 𝓜 𝓡 𝓡.env in
    let pointer = Goes-dropped 𝓛 2 (plain (λ _. RawPtr)) yes (λ κs x w. refl) in
    let size = Goes-dropped 𝓛 2 (plain (λ _. usize)) yes (λ κs x w. refl) in
    proved 𝓛 f.ended stayed c 𝓜 𝓡
    (pointer, (size, (Goes-gave_ref 𝓛 2 0 tt (plain (λ _. usize)), (Goes-dropped 𝓛 2 (shr_ref_to (1 ∷ []) tt (plain (λ _. R))) yes (λ κs x w. refl), (Goes-dropped 𝓛 2 (plain (λ _. u32)) yes (λ κs x w. refl), (pointer, (size, tt)))))))
    f.Key.name code.function (code.unfolded 𝓤 𝓛.H 𝓜 𝓡 wired)
    (λ κs. (rawptr_vals, (uint_vals w64, (mut_vals, (shr_vals, (uint_vals w32, (rawptr_vals, (uint_vals w64, tt))))))))
    (λ κs. (rawptr_Tells, (uint_Tells w64, (mut_Tells (named 0) κs.0 usize, (shr_Tells (named 1) κs.1.0 R, (uint_Tells w32, (rawptr_Tells, (uint_Tells w64, tt))))))))
    (λ κs qs bounds a lists are.
    let κ = κs.0 in let q = qs.0 in let out = a.0 in let room = a.1.0 in let base = a.1.1.1.0.now.base in let d = a.1.1.0 in let clock = a.1.1.1.1.0 in let at = a.1.1.1.1.1.0 in let count = a.1.1.1.1.1.1.0 in
    let y : W.Ghost = ((κs, qs, bounds, a, (rawptr_vals out, (uint_vals w64 room, (mut_vals d, (shr_vals a.1.1.1.0, (uint_vals w32 clock, (rawptr_vals at, (uint_vals w64 count, tt)))))))), lists) in
    let ends : (v : Val) (r w : ℕ) (new : List ℕ) → IsAnswered base clock lists.stamps lists.old new d.now w r
    → Sq 𝓛 (‵ (fsep (fres d.ghost_name (usize.coded.code w)) (fbor κ (Body (mem usize) d.ref_ptr.0 d.ref_ptr.1 d.ghost_name))) ∷ ‵ (u32.own_val r (v ∷ [])) ∷ ‵ (flft κ q) ∷ ‵ (flft κs.1.0 qs.1.0)
    ∷ ‵ (owned_at out room new) ∷ ‵ (shared_at at count lists.alive lists.share lists.stamps) ∷ []) (prop (W.post y v)) = λ v r w new stated.
    let exit = on_exit 𝓛 f.ended stayed κs qs y.0.4 v r a (tt, (tt, (w, (tt, (tt, (tt, (tt, tt))))))) in
    let Left = λ (zs : List ℕ). sep 𝓤 (sem 𝓛 (owned_at out room zs)) (sep 𝓤 (sem 𝓛 (shared_at at count lists.alive lists.share lists.stamps)) (fact 𝓤 (IsAnswered base clock lists.stamps lists.old zs d.now w r))) in
    suffices ! (sep 𝓤 exit (Left new)) (via 𝓤 (sep 𝓤 exit (ex 𝓤 Left)) (mono_r 𝓤 exit (ex_i 𝓤 Left new))
    (ends_at 𝓛 f.ended stayed c y v r (tt, (tt, (w, (tt, (tt, (tt, (tt, tt))))))) (tt, (tt, (tt, (tt, (tt, (tt, (tt, tt))))))))) $
    use0 𝓛 (raw (fact 𝓤 (IsAnswered base clock lists.stamps lists.old new d.now w r))) (fact_i 𝓤 (IsAnswered base clock lists.stamps lists.old new d.now w r) (emp 𝓤) stated) $
    move ! (1 ∷ []) $ nothing ! $ nothing ! $ join ! $ nothing ! $ join ! $ nothing ! $ join ! $ nothing ! $ join ! $ move ! (1 ∷ 0 ∷ []) $ join ! $
    nothing ! $ join ! $ nothing ! $ join ! $
    -- [the parameters; the fact; the result; the tokens; the numbers; the stamps]
    move ! (4 ∷ []) $ nothing ! $ move ! (1 ∷ 0 ∷ []) $ join ! $ move ! (4 ∷ 0 ∷ []) $ join ! $ move ! (0 ∷ 1 ∷ 3 ∷ []) $ group ! 3 $
    move ! (0 ∷ 2 ∷ 3 ∷ 1 ∷ []) $ done ! in
    let Stamps = λ (b o n : ℕ). (ShrSlice (named 0) lists.alive u64).own_val (record { ref_ptr = (b, o); now = lists.stamps }) (slice_val (b, o) n ∷ []) in
    qed 𝓛 (((‵ (flft κ q) ⊛ ‵ (flft κs.1.0 qs.1.0) ⊛ ‵ ftrue)
    ⊛ ‵ (owns (RawPtr ∷ usize ∷ MutRef (named 0) κ usize ∷ ShrRef (named 1) κs.1.0 R ∷ u32 ∷ RawPtr ∷ usize ∷ []) a y.0.4))
    ∷ ‵ (owned_at out room lists.old) ∷ ‵ (shared_at at count lists.alive lists.share lists.stamps) ∷ raw (fact 𝓤 ((length lists.stamps ≡ count) × (room * 8 < 2 ^ 63))) ∷ []) ∵
    split ! $ split3 ! $ move ! (3 ∷ []) $ fsplit ! $ drop ! $ fsplit ! $ drop ! $ fsplit ! $ move ! (1 ∷ []) $ fsplit ! $ move ! (1 ∷ []) $ drop ! $
    -- [the snapshot; done; the token of done; the token of the snapshot; nothing; the numbers; the
    -- stamps; the fact]
    move ! (4 ∷ []) $ drop ! $ move ! (6 ∷ []) $ heard ! _ (λ sizes.
    enter ! _ _ _ _ _ $ alloc_all ! (λ l. pass_all ! refl (((rawptr_Lawful 𝓛).typed out _ refl).0, ((tt, record { fits = are.1.0.1 }), ((tt, tt), ((tt, tt), ((tt, record { fits = are.1.1.1.1.0.1 }), (((rawptr_Lawful 𝓛).typed at _ refl).0, ((tt, record { fits = are.1.1.1.1.1.1.0.1 }), tt))))))) $
    sets ! (bin ! (get ! refl) (lit ! tt) tt) refl (tt, tt) $
    first ! $ branches ! (get ! refl)
    -- no stamps
    (λ none. drop ! $ sets ! (addr ! (through ! refl (stop !))) refl (tt, tt) $
    let G = triple_of 𝓛 g.signature (g.spec 𝓛 𝓜.mem 𝓡.returns) in
    let z : G.Ghost = (((κ, tt), (q, tt), tt, (d, (clock, tt)), (mut_vals d, (uint_vals w32 clock, tt))), tt) in
    nothing ! $ owned ! u32 _ (uint_Makes 𝓛 w32) clock _ (refl, are.1.1.1.1.0.1) $ join ! $ move ! (1 ∷ 0 ∷ []) $ join ! $
    nothing ! $ move ! (2 ∷ 0 ∷ []) $ join ! $ join ! $ nothing ! $ move ! (1 ∷ 0 ∷ []) $ use2 𝓛 (raw (G.pre z)) (id⊢ 𝓤 _) $
    calls_at ! (framed 𝓤 𝓛.H 𝓜 (tables 𝓤 𝓛.H 𝓜 𝓡 𝓡.env)) G (g_met.met 𝓤 𝓛 𝓜 𝓡 (code.calls-tk_c::snapshots::convert_none 𝓡.env wired)) z
    (and_then ! (get ! refl) (and_then ! (get ! refl) (no_more !))) (λ v.
    use1 𝓛 (later (some (λ (r : ℕ). ((‵ (flft κ q) ⊛ ‵ ftrue) ⊛ ‵ (u32.own_val r (v ∷ []))) ⊛
    some (λ (ws : ℕ × (Unit {0} × Unit {0})). ‵ (lasts g.ended z.0.0 z.0.3 ws) ⊛ raw (fact 𝓤 (MatchOption (clock_named clock) ((r ≡ number_of BadClock) × (ws.0 ≡ d.now)) (λ named. (r ≡ number_of Done) × (ws.0 ≡ 0)))))))) (id⊢ 𝓤 _) $
    await ! tt $ pick ! (λ r. split ! $ split ! $ split ! $ move ! (3 ∷ []) $ pick ! (λ ws. split ! $ move ! (1 ∷ []) $ heard ! _ (λ stated. fsplit ! $
    -- [the final value of done; nothing; its token; nothing; the result; the other token; the
    -- numbers; the stamps]
    move ! (7 ∷ []) $ rewrite ! 0 (λ (n : ℕ). ‵ (shared_at at n lists.alive lists.share lists.stamps)) (eqb→eq count 0 none) refl $
    feq_l ! (λ empty. feq_i ! (List ℕ) lists.stamps [] empty $ rewrite ! 0 (λ (n : ℕ). ‵ (shared_at at n lists.alive lists.share lists.stamps)) (sym (eqb→eq count 0 none)) refl $
    move ! (5 ∷ []) $ peeks ! u32 (Is u32) (shows 𝓛 u32) r (v ∷ []) (λ is. lands_as ! refl refl ((uint_Lawful 𝓛 w32).typed r _ is).0 $
    returns_within ! (W.post y) refl (look_at ! 0 refl) $ free_all ! refl $ keep ! (2 ∷ 0 ∷ 4 ∷ 6 ∷ 7 ∷ 1 ∷ []) $ ends v r ws.0 lists.old (subst (λ (s : List ℕ). IsAnswered base clock s lists.old lists.old d.now ws.0 r) (sym empty) (none_answered base clock lists.old d.now ws.0 r stated)))))))))
    -- some stamps
    (λ given. skips ! $ exec ! 𝓣.C 𝓣.Λ (env code.Mir.locals l) code.Mir.t-3 (at_ret (env code.Mir.locals l) (W.post y)) $
    sets ! (bin ! (get ! refl) (lit ! tt) tt) refl (tt, tt) $
    first ! $ branches ! (get ! refl)
    -- the output list has no items
    (λ no_room. drop ! $
    let G = triple_of 𝓛 h.signature (h.spec 𝓛 𝓜.mem 𝓡.returns) in
    let z : G.Ghost = ((tt, tt, tt, (clock, tt), (uint_vals w32 clock, tt)), tt) in
    nothing ! $ owned ! u32 _ (uint_Makes 𝓛 w32) clock _ (refl, are.1.1.1.1.0.1) $ join ! $ nothing ! $ join ! $ nothing ! $ move ! (1 ∷ 0 ∷ []) $ use2 𝓛 (raw (G.pre z)) (id⊢ 𝓤 _) $
    calls_at ! (framed 𝓤 𝓛.H 𝓜 (tables 𝓤 𝓛.H 𝓜 𝓡 𝓡.env)) G (h_met.met 𝓤 𝓛 𝓜 𝓡 (code.calls-tk_c::snapshots::convert_into_none 𝓡.env wired)) z
    (and_then ! (get ! refl) (no_more !)) (λ v.
    use1 𝓛 (later (some (λ (r : ℕ). (‵ ftrue ⊛ ‵ (u32.own_val r (v ∷ []))) ⊛
    some (λ (ws : Unit {0} × Unit {0}). ‵ (lasts h.ended z.0.0 z.0.3 ws) ⊛ raw (fact 𝓤 ((base' : ReadBase) (s : List ℕ) (n : ℕ) → 0 < length s → IsAnswered base' clock s [] [] n n r)))))) (id⊢ 𝓤 _) $
    await ! tt $ pick ! (λ r. split ! $ split ! $ move ! (2 ∷ []) $ pick ! (λ ws. split ! $ move ! (1 ∷ []) $ heard ! _ (λ stated.
    -- [nothing; nothing; the result; done; its token; the other token; the numbers; the stamps]
    move ! (6 ∷ []) $ rewrite ! 0 (λ (n : ℕ). ‵ (owned_at out n lists.old)) (eqb→eq room 0 no_room) refl $
    feq_l ! (λ empty. feq_i ! (List ℕ) lists.old [] empty $ rewrite ! 0 (λ (n : ℕ). ‵ (owned_at out n lists.old)) (sym (eqb→eq room 0 no_room)) refl $
    move ! (4 ∷ []) $ fsplit3 ! $ move ! (1 ∷ []) $ use1 𝓛 (‵ (fres d.ghost_name (usize.coded.code d.now))) (𝓛.names.obs-res d.ghost_name (usize.coded.code d.now)) $
    move ! (0 ∷ 2 ∷ []) $ fjoin ! $
    -- [the final value of done; nothing; the numbers; nothing; nothing; the result; its token; the
    -- other token; the stamps]
    move ! (5 ∷ []) $ peeks ! u32 (Is u32) (shows 𝓛 u32) r (v ∷ []) (λ is. lands_as ! refl refl ((uint_Lawful 𝓛 w32).typed r _ is).0 $
    returns_within ! (W.post y) refl (look_at ! 0 refl) $ free_all ! refl $ keep ! (1 ∷ 0 ∷ 6 ∷ 7 ∷ 3 ∷ 8 ∷ []) $ ends v r d.now lists.old (subst (λ (o : List ℕ). IsAnswered base clock lists.stamps o o d.now d.now r) (sym empty) (stated base lists.stamps d.now (some_stamps lists.stamps count sizes.0 given))))))))))
    -- both lists are at an address
    (λ roomy. skips ! $ exec ! 𝓣.C 𝓣.Λ (env code.Mir.locals l) code.Mir.t-5 (at_ret (env code.Mir.locals l) (W.post y)) $
    move ! (4 ∷ []) $ use1 𝓛 (‵ (lies_at (Array u64 room) full_share out lists.old)) (numbers_out 𝓛 out room lists.old roomy) $
    in_a_block ! out (λ p. lies_at (Array u64 room) full_share p lists.old) (id⊢ 𝓤 _) (λ b o is_out.
    use1 𝓛 (‵ (fsep (feq ℕ (length lists.old) room) (row u64 full_share lists.old b o))) (Array-apart 𝓛 u64 full_share tt room lists.old b o) $ fsplit ! $ feq_l ! (λ long.
    use1 𝓛 (‵ (cells (mem u64) lists.old b o)) (whole_in 𝓛 u64 lists.old b o) $
    lft_new ! tt (λ α.
    move ! (1 ∷ []) $ use1 𝓛 (later (some (λ (γ : ℕ). ‵ ((MutSlice (named 0) (α ∷ []) u64).own_val (record { ref_ptr = (b, o); ghost_name = γ; now = lists.old }) (slice_val (b, o) (length lists.old) ∷ []))
    ⊛ ‵ (flent (α ∷ []) (Held u64 (length lists.old) b o γ))))) (lends_slice 𝓛 u64 (named 0) (α ∷ []) lists.old b o (omega (arith, long, sizes.1), omega (arith, long, sizes.1))) $ await ! tt $ pick ! (λ γ. split ! $
    rewrite ! 0 (λ (n : ℕ). ‵ ((MutSlice (named 0) (α ∷ []) u64).own_val (record { ref_ptr = (b, o); ghost_name = γ; now = lists.old }) (slice_val (b, o) n ∷ []))) long refl $
    -- [the list; the loan; its token; the snapshot; done; the token of done; that of the
    -- snapshot; the stamps]
    move ! (7 ∷ []) $ use1 𝓛 (‵ (lent_at at lists.alive lists.share lists.stamps)) (shared_out 𝓛 at count lists.alive lists.share lists.stamps given) $
    in_a_block ! at (λ p. lent_at p lists.alive lists.share lists.stamps) (id⊢ 𝓤 _) (λ b' o' is_at. fsplit ! $
    -- [the token of the stamps; the stamps; the list; the loan; its token; the snapshot; done;
    -- the token of done; the token of the snapshot]
    move ! (1 ∷ []) $ use1 𝓛 (‵ (Stamps b' o' (length lists.stamps)) ⊛ ‵ (Stamps b' o' (length lists.stamps))) ((shr_slice_copy 𝓛 (named 0) lists.alive u64 (uint_row_laws w64)).twice _ _) $ split ! $
    rewrite ! 0 (λ (n : ℕ). ‵ (Stamps b' o' n)) sizes.0 refl $
    -- [the stamps; the stamps to keep; their token; the list; the loan; its token; the
    -- snapshot; done; the token of done; the token of the snapshot]
    take_at ! 1 $ rewrite ! 0 (λ (p : Ptr). ‵ (fat full_share ty_ptr (l 1) 0 (ptr_val p))) is_out refl $ give_at ! 1 $
    take_at ! 6 $ rewrite ! 0 (λ (p : Ptr). ‵ (fat full_share ty_ptr (l 6) 0 (ptr_val p))) is_at refl $ give_at ! 6 $
    sets ! (agg ! (and_then ! (get ! refl) (and_then ! (get ! refl) (no_more !)))) refl (tt, (tt, (record { fits = are.1.0.1 }, tt))) $
    sets ! (addr ! (through ! refl (stop !))) refl (tt, tt) $
    sets ! (agg ! (and_then ! (get ! refl) (and_then ! (get ! refl) (no_more !)))) refl (tt, (tt, (record { fits = are.1.1.1.1.1.1.0.1 }, tt))) $
    let G = triple_of 𝓛 k.signature (k.spec 𝓛 𝓜.mem 𝓡.returns) in
    let z : G.Ghost = (
      (
        (α ∷ [], (κ, (κs.1.0, (lists.alive, tt)))),
        (full_share, (q, (qs.1.0, (lists.share, tt)))),
        tt,
        (record { ref_ptr = (b, o); ghost_name = γ; now = lists.old }, (d, (a.1.1.1.0, (clock, (record { ref_ptr = (b', o'); now = lists.stamps }, tt))))),
        (slice_val (b, o) room ∷ [], (mut_vals d, (shr_vals a.1.1.1.0, (uint_vals w32 clock, (slice_val (b', o') count ∷ [], tt))))),
      ),
      tt,
    ) in
    nothing ! $ move ! (1 ∷ 0 ∷ []) $ join ! $ owned ! u32 _ (uint_Makes 𝓛 w32) clock _ (refl, are.1.1.1.1.0.1) $ join ! $
    -- [the last two arguments; the stamps to keep; their token; the list; the loan; its token;
    -- the snapshot; done; the token of done; the token of the snapshot]
    move ! (6 ∷ 0 ∷ []) $ join ! $ move ! (6 ∷ 0 ∷ []) $ join ! $ move ! (3 ∷ 0 ∷ []) $ join ! $
    -- [the arguments; the stamps to keep; their token; the loan; its token; the token of done;
    -- the token of the snapshot]
    nothing ! $ move ! (3 ∷ 0 ∷ []) $ join ! $ move ! (6 ∷ 0 ∷ []) $ join ! $ move ! (5 ∷ 0 ∷ []) $ join ! $ move ! (4 ∷ 0 ∷ []) $ join ! $ join ! $
    nothing ! $ move ! (1 ∷ 0 ∷ []) $ use2 𝓛 (raw (G.pre z)) (id⊢ 𝓤 _) $
    calls_at ! (framed 𝓤 𝓛.H 𝓜 (tables 𝓤 𝓛.H 𝓜 𝓡 𝓡.env)) G (k_met.met 𝓤 𝓛 𝓜 𝓡 (code.calls-tk_c::snapshots::convert 𝓡.env wired)) z
    (and_then ! (get ! refl) (and_then ! (get ! refl) (and_then ! (get ! refl) (and_then ! (get ! refl) (and_then ! (get ! refl) (no_more !)))))) (λ v.
    use1 𝓛 (later (some (λ (r : ℕ). ((‵ (flft (α ∷ []) full_share) ⊛ ‵ (flft κ q) ⊛ ‵ (flft κs.1.0 qs.1.0) ⊛ ‵ (flft lists.alive lists.share) ⊛ ‵ ftrue) ⊛ ‵ (u32.own_val r (v ∷ []))) ⊛
    some (λ (ws : List ℕ × (ℕ × (Unit {0} × (Unit {0} × (Unit {0} × Unit {0}))))). ‵ (lasts k.ended z.0.0 z.0.3 ws) ⊛ raw (fact 𝓤 (IsAnswered base clock lists.stamps lists.old ws.0 d.now ws.1.0 r)))))) (id⊢ 𝓤 _) $
    await ! tt $ pick ! (λ r. split ! $ split ! $ move ! (2 ∷ []) $ pick ! (λ ws. split ! $ move ! (1 ∷ []) $ heard ! _ (λ stated.
    fsplit ! $ fsplit ! $ fsplit ! $ move ! (1 ∷ []) $ feq_l ! (λ same. move ! (2 ∷ []) $ fsplit ! $ move ! (4 ∷ []) $ split ! $
    -- [the token of the list; the other tokens; the final value of done; nothing; the list's end;
    -- its borrow; the result; the stamps; the loan]
    lft_end ! tt $ move ! (0 ∷ 8 ∷ 4 ∷ []) $ use3 𝓛 (later (‵ ((Arr (mem u64) (length lists.old)).own_at ws.0 b o))) (slice_back 𝓛 u64 (α ∷ []) γ ws.0 (length lists.old) b o) $ await ! tt $
    fsplit ! $ feq_l ! (λ kept. use1 𝓛 (‵ (row u64 full_share ws.0 b o)) (whole_out 𝓛 u64 ws.0 b o) $ feq_i ! ℕ (length ws.0) room (kept ∙ long) $ fjoin ! $
    use1 𝓛 (‵ (lies_at (Array u64 room) full_share (block_ptr b o) ws.0)) (Array-whole 𝓛 u64 full_share room ws.0 b o) $
    rewrite ! 0 (λ (p : Ptr). ‵ (lies_at (Array u64 room) full_share p ws.0)) (sym is_out) refl $
    use1 𝓛 (‵ (owned_at out room ws.0)) (numbers_in 𝓛 out room ws.0 roomy) $
    -- [the numbers; the tokens; the final value of done; nothing; the borrow; the result; the
    -- stamps]
    move ! (1 ∷ []) $ split ! $ move ! (1 ∷ []) $ split ! $ move ! (1 ∷ []) $ split ! $
    -- [the token of the stamps; nothing; of the snapshot; of done; the numbers; the final value of
    -- done; nothing; the borrow; the result; the stamps]
    move ! (0 ∷ 9 ∷ []) $ fjoin ! $ rewrite ! 0 (λ (p : Ptr). ‵ (lent_at p lists.alive lists.share lists.stamps)) (sym is_at) refl $
    use1 𝓛 (‵ (shared_at at count lists.alive lists.share lists.stamps)) (shared_in 𝓛 at count lists.alive lists.share lists.stamps given) $
    -- [the stamps; nothing; the token of the snapshot; of done; the numbers; the final value of
    -- done; nothing; the borrow; the result]
    move ! (8 ∷ []) $ peeks ! u32 (Is u32) (shows 𝓛 u32) r (v ∷ []) (λ is. lands_as ! refl refl ((uint_Lawful 𝓛 w32).typed r _ is).0 $
    returns ! (look_at ! 0 refl) $ free_all ! refl $ keep ! (6 ∷ 0 ∷ 4 ∷ 3 ∷ 5 ∷ 1 ∷ []) $ ends v r ws.1.0 ws.0 stated)))))))))))))))))
