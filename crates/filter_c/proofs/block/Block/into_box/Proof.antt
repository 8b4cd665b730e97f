-- `into_box` hands the pointer to `from_raw`, with what the block owned.
use Rattle.std.proofs.Common.{◌≡◌, List, [], ◌∷◌, ◌++◌, refl, sym, subst, ap, ◌∙◌}
use seplogic.Ra.Ura.{Ura}
use base.Fraction.{full_share}
use mir.Syntax.{Fn, Args, Body, a_type, dcons, dnil, place, copy, assign, rv_opd, seq, return}
use mir.MapTy.{inst_fn}
use mir.Raw.{raw as bare}
use lib.Dec.{T}
use mir.Val.{Val, vptr, has_ty, WT}
use base.Logic.{SProp, ent, emp, id⊢, never, fst∗}
use base.Fml.{ftrue, fsep, flft}
use contract.BorrowLft.{◌⊑◌, ⊑_static}
use prog.Memory.{Memory}
use prog.Routine.{Routine}
use prog.Wp.{WpFn, Tables}
use types.Logic.{Logic, sem}
use contract.Monad.{Fun, fact, fact_i}
use contract.Running.{tables, tables_of}
use sound.WpLaws.{fm_of, WpFn-mono}
use types.Kit.{Item, at_ret, ‵, raw, prop, ◌⊛◌, some, later, ◌$◌, ◌∵◌, !, qed, move, keep, drop, use0, use1, join, split, split3, pick, regoal, rewrite, fsplit3, fjoin, feq_i, suffices, await, done}
use types.Part.{whole, sub}
use types.Run.{stop, fld, no_more, and_then, of_opd, returns, enter, first, blocks, exec}
use types.ByLocal.{alloc_all, pass_all, free_all, look_at, get, get_in, sets, lands_last, env}
use denote.Exit.{yes, no}
use denote.Param.{bounded, layouts, param}
use denote.Param.Laws.{Laws}
use denote.Param.NoDrop.{glues}
use denote.RattleType.{RattleType}
use denote.RawPtr.{Ptr, block_ptr, null_ptr, in_a_block}
use denote.Signature.{plain}
use denote.Steps.{heard, nothing, only}
use denote.Triple.Call.{calls_at_last}
use denote.Triple.Clauses.{Ended, Clauses}
use denote.Triple.Spec.{triple_of}
use denote.Triple.Statement.{Triple, Contract}
use denote.Triple.Table.{entered}
use denote.Triple.Walked.{says, Stays, stay_dropped, walk_of, ends_at, Goes-dropped, walk_Meets}
use Rattle.std.proofs.alloc.Calls.{token, handle_tells, Goes-blank}
use Rattle.std_alloc.specs.Box.Ownership.{box_owns}
use Rattle.std_alloc.proofs.BoxSteps.Form.{Bx, D, τ, R, B, box_ty, box_typed}
use Rattle.std_alloc.proofs.BoxSteps.Steps.{box_out, box_in}
use Rattle.std_alloc.specs.contracts.boxed.Box.from_raw as Raw
use Rattle.std_alloc.proofs.boxed.Box.from_raw.Symbol as raw_name
use Rattle.std_alloc.proofs.boxed.Box.from_raw.Met as raw_met
use Rattle.std_heap.specs.contracts.Global as Heap
use Rattle.std_heap.specs.contracts.GlobalAllocator.TheImpl.{ghosts, dict}
use Rattle.std_heap.proofs.GlobalAllocator.TheImpl.Met.{passed}
use Rattle.filter_c.proofs.Destruct++none.drop.Code as heap_drop
use Rattle.filter_c.proofs.AsBox.{boxes, heap_row, heap_laws, heap_drops, pointer_word, block_out}
use Rattle.filter_c.specs.contracts.block.Block as Block
use Rattle.filter_c.specs.contracts.block.Block.into_box as into_box
use Rattle.filter_c.specs.contracts.block.Block.into_box.Key.{name as #self}
use Rattle.filter_c.proofs.block.Block.into_box.Statement as stated
use Rattle.filter_c.proofs.block.Block.into_box.Code as code

module _ (X : RattleType) (L : Laws X) where
  abbrev E : Bx
  E = boxes X L

  -- what the call of `from_raw` is passed
  abbrev passes : Args
  passes = bounded (a_type ∷ a_type ∷ []) (X, (heap_row, tt)) (dcons dict (dcons heap_drops dnil))

  abbrev own : Args
  own = layouts (a_type ∷ []) (X, tt)

  abbrev fn : Fn
  fn = inst_fn own code.function

  abbrev ended : Ended
  ended = into_box.ended X

  -- the row of the parameter
  abbrev From : RattleType
  From = Block.the_row (param 0 X)

  abbrev stayed : Stays ended.signature.params ended.kept
  stayed = (stay_dropped (plain (λ _. From)) no, (stay_dropped (plain (λ _. Heap.the_row)) yes, tt))

  -- what is done after the call
  abbrev rest : Body
  rest = seq (assign (place 0 []) (rv_opd (copy (place 4 [])))) return

  module _ {M : Type 1} {𝓤 : Ura M} (𝓛 : Logic 𝓤) (at_mem : Memory → SProp 𝓤) (run : Routine → Fun 𝓤) (𝓣 : Tables 𝓤 𝓛.H) where
    open 𝓛 use {H}

    abbrev held : Clauses 𝓤 ended
    held = into_box.clauses X 𝓛 at_mem run

    abbrev Shuts : Contract 𝓤
    Shuts = triple_of 𝓛 (Raw.signature X heap_row ghosts dict heap_drops) (Raw.spec X heap_row ghosts dict heap_drops 𝓛 at_mem run)

    walk : Triple 𝓤 (𝓣.C (raw_name.name passes)) Shuts
        → (z : (walk_of 𝓛 ended stayed held).Ghost) → ent 𝓤 ((walk_of 𝓛 ended stayed held).pre z) (WpFn 𝓤 H 𝓣.C 𝓣.Λ fn (z.0.4.0 ++ (z.0.4.1.0 ++ [])) ((walk_of 𝓛 ended stayed held).post z))
    walk shuts z =
        let κ = z.0.0.0 in let q = z.0.1.0 in let Post = (walk_of 𝓛 ended stayed held).post z in
        let block = z.0.3.0 in let x = block.value in let a = z.0.3.1.0 in
        let lives : Item 𝓤 = ‵ (flft κ q) ⊛ ‵ (flft [] full_share) ⊛ ‵ ftrue in
        qed 𝓛 (((‵ (flft κ q) ⊛ ‵ ftrue) ⊛ ‵ (fsep (From.own_val block z.0.4.0) (fsep ((Heap.the_row).own_val a z.0.4.1.0) ftrue))) ∷ (raw (fact 𝓤 (κ ⊑ X.lives)) ⊛ ‵ ftrue) ∷ []) ∵
        split ! $ split ! $ move ! (3 ∷ []) $ split ! $ keep ! (4 ∷ 2 ∷ 0 ∷ []) $ fsplit3 ! $
        block_out ! (R E) block z.0.4.0 (λ at.
        in_a_block ! block.at (λ p. box_owns (token E.al a) (R E) p x) (fst∗ 𝓤 (never 𝓤) (sem 𝓛 (token E.al a (bare (τ E)) null_ptr))) (λ n o is.
        move ! (1 ∷ []) $ handle_tells E.al ! a z.0.4.1.0 (λ hv hs fits.
        -- [the heap's handle; what the block owns; true; the token; that the value lives]
        regoal ! (λ (us : List Val). prop (WpFn 𝓤 H 𝓣.C 𝓣.Λ fn (us ++ (z.0.4.1.0 ++ [])) Post)) (at ∙ ap (λ (p : Ptr). pointer_word p ∷ []) is) refl $
        regoal ! (λ (us : List Val). prop (WpFn 𝓤 H 𝓣.C 𝓣.Λ fn (pointer_word (block_ptr n o) ∷ (us ++ [])) Post)) hs refl $
        enter ! 𝓣.C 𝓣.Λ fn (pointer_word (block_ptr n o) ∷ hv ∷ []) _ $ alloc_all ! (λ ls. pass_all ! refl ((tt, (tt, tt)), (fits, tt)) $
        sets ! (of_opd ! (get_in ! (fld ! refl (stop !)) (sub ! 0 refl (whole !)))) refl (tt, tt) $
        first ! $ blocks ! $
        -- what the call requires: that the value and the heap live, and the block
        use0 𝓛 (raw (fact 𝓤 ([] ⊑ []))) (fact_i 𝓤 ([] ⊑ []) (emp 𝓤) (⊑_static [])) $ move ! (0 ∷ 2 ∷ []) $ join ! $ move ! (4 ∷ 0 ∷ []) $ join ! $
        -- its arguments, the handle and the pointer
        move ! (2 ∷ []) $ feq_i ! (List Val) (vptr n o ∷ []) (vptr n o ∷ []) refl $ fjoin ! $ move ! (2 ∷ 0 ∷ []) $ fjoin ! $
        nothing ! $ use0 𝓛 (‵ (flft [] full_share)) (𝓛.lfts.lft-nil full_share) $ join ! $ move ! (3 ∷ 0 ∷ []) $ join ! $ join ! $ join ! $
        let y : Shuts.Ghost = (((κ, ([], tt)), (q, (full_share, tt)), tt, (a, (block_ptr n o, tt)), (hv ∷ [], (vptr n o ∷ [], tt))), x) in
        use1 𝓛 (raw (Shuts.pre y)) (id⊢ 𝓤 _) $
        calls_at_last ! (fm_of 𝓤 H 𝓛.laws 𝓣) Shuts shuts y (and_then ! (get ! refl) (and_then ! (get ! refl) (no_more !))) (λ u.
        use1 𝓛 (later (some (λ (b : D E). (lives ⊛ ‵ ((B E).own_val b (u ∷ [])))
        ⊛ some (λ (_ : Unit {0} × (Unit {0} × Unit {0})). ‵ (fsep ftrue (fsep ftrue ftrue)) ⊛ (raw (fact 𝓤 (b.value ≡ x)) ⊛ raw (fact 𝓤 (b.alloc ≡ a))))))) (id⊢ 𝓤 _) $
        await ! tt $ pick ! (λ b. split ! $ move ! (1 ∷ []) $ pick ! (λ _. split3 ! $ drop ! $ heard ! (b.value ≡ x) (λ same. drop ! $ split ! $ move ! (1 ∷ []) $
        box_out E ! b (u ∷ []) (λ n' o' hw is' ws fits'. box_in E ! b n' o' b.value is' refl $ rewrite ! 0 (λ (us : List Val). ‵ ((B E).own_val b us)) (sym ws) refl $
        let typed : T (has_ty (box_ty E) u) × WT u = subst (λ (v : Val). T (has_ty (box_ty E) v) × WT v) (sym (ap only ws)) (box_typed E hw n' o' fits') in
        lands_last ! refl typed $ exec ! 𝓣.C 𝓣.Λ (env fn.locals ls) rest (at_ret (env fn.locals ls) Post) $
        sets ! (of_opd ! (get ! refl)) refl typed $ returns ! (look_at ! 0 refl) $ free_all ! refl $
        -- [the box; the tokens]
        move ! (1 ∷ []) $ split3 ! $ move ! (1 ∷ []) $ drop ! $ join ! $
        suffices ! _ (ends_at 𝓛 ended stayed held z u b (tt, (tt, tt)) (tt, (tt, tt))) $ says ! same $
        nothing ! $ nothing ! $ fjoin ! $ nothing ! $ fjoin ! $ move ! (0 ∷ 2 ∷ []) $ join ! $ move ! (1 ∷ 0 ∷ []) $ join ! $ done !)))))))))

pub into_box_spec : {M : Type 1} → stated.statement M
unfolding tables_of heap_drop.code
into_box_spec {M} 𝓤 𝓛 𝓜 𝓡 wired X L =
    let 𝓣 : Tables 𝓤 𝓛.H = tables_of 𝓤 𝓛.H 𝓜 (tables 𝓤 𝓛.H 𝓜 𝓡 𝓡.env) in
    let heap_met = passed 𝓡.env (code.calls-std_heap::GlobalAllocator::allocate 𝓡.env wired) (code.calls-std_heap::GlobalAllocator::deallocate 𝓡.env wired)
    (code.calls-std_heap::GlobalAllocator::grow 𝓡.env wired) (code.calls-std_heap::GlobalAllocator::shrink 𝓡.env wired) M 𝓤 𝓛 𝓜 𝓡 in
    let heap_glue = glues "filter_c::Destruct++none::drop" 𝓡.env (code.calls-filter_c::Destruct++none::drop 𝓡.env wired) heap_row heap_laws M 𝓤 𝓛 𝓜 𝓡 in
    entered 𝓤 𝓛.H (triple_of 𝓛 (ended X L).signature (into_box.spec X 𝓛 𝓜.mem 𝓡.returns)) 𝓣.C 𝓣.Λ (#self (own X L)) (fn X L) (code.unfolded 𝓤 𝓛.H 𝓜 𝓡 wired (X, tt))
    (walk_Meets 𝓛 (ended X L) (stayed X L) (Goes-blank 𝓛 1 (plain (λ _. From X L)) no (λ κs x f. tt), (Goes-dropped 𝓛 1 (plain (λ _. Heap.the_row)) yes (λ κs x f. refl), tt)) (held X L 𝓛 𝓜.mem 𝓡.returns 𝓣) (WpFn 𝓤 𝓛.H 𝓣.C 𝓣.Λ (fn X L)) (WpFn-mono 𝓤 𝓛.H 𝓛.laws 𝓣 (fn X L))
    (walk X L 𝓛 𝓜.mem 𝓡.returns 𝓣 (raw_met.met 𝓤 𝓛 𝓜 𝓡 (code.calls-std_alloc::boxed::Box::from_raw 𝓡.env wired) X heap_row L heap_laws ghosts dict heap_drops heap_met heap_glue)))
