-- `of` asks for the pointer of the box, and has with it what the box owned.
use Rattle.std.proofs.Common.{List, [], ◌∷◌, ◌++◌, refl, ap, ◌∙◌}
use seplogic.Ra.Ura.{Ura}
use base.Fraction.{full_share}
use mir.Syntax.{Fn, Args, Dict, a_type, dcons, dnil}
use mir.MapTy.{inst_fn}
use mir.Raw.{raw as bare}
use mir.Val.{Val}
use base.Logic.{SProp, ent, emp, id⊢, never, fst∗}
use base.Fml.{ftrue, fsep, flft}
use contract.BorrowLft.{◌⊑◌, ⊑_static}
use prog.Memory.{Memory}
use prog.Routine.{Routine}
use prog.Wp.{WpFn, Tables}
use types.Logic.{Logic, sem}
use contract.Monad.{Fun, fact, fact_i}
use contract.Running.{tables, tables_of}
use sound.WpLaws.{fm_of, WpFn-mono}
use types.Kit.{Item, ‵, raw, prop, ◌⊛◌, some, later, ◌$◌, ◌∵◌, !, qed, move, keep, drop, use0, use1, join, split, split3, pick, regoal, fsplit, fjoin, feq_l, suffices, await, done}
use types.Part.{agg}
use types.Run.{no_more, and_then, of_opd, returns, enter}
use types.ByLocal.{alloc_all, pass_all, free_all, look_at, get, sets, lands_as}
use denote.Exit.{no}
use denote.Param.{bounded, param}
use denote.Param.Laws.{Laws}
use denote.Param.NoDrop.{glues}
use denote.RattleType.{RattleType}
use denote.RawPtr.{Ptr, RawPtr, block_ptr, null_ptr, ptr_val, in_a_block}
use denote.Signature.{plain}
use denote.Steps.{nothing, only}
use denote.Triple.Call.{calls_at}
use denote.Triple.Clauses.{Ended, Clauses}
use denote.Triple.Spec.{triple_of}
use denote.Triple.Statement.{Triple, Contract}
use denote.Triple.Table.{entered}
use denote.Triple.Walked.{says, Stays, stay_dropped, walk_of, ends_at, walk_Meets}
use Rattle.std.proofs.alloc.Calls.{token, Goes-blank}
use Rattle.std_alloc.specs.Box.Ownership.{box_owns}
use Rattle.std_alloc.proofs.BoxSteps.Form.{Bx, D, τ, R, B, word, box_typed}
use Rattle.std_alloc.proofs.BoxSteps.Steps.{box_out, box_in}
use Rattle.std_alloc.specs.contracts.boxed.Box as Box
use Rattle.std_alloc.specs.contracts.boxed.Box.into_raw as Raw
use Rattle.std_alloc.proofs.boxed.Box.into_raw.Symbol as raw_name
use Rattle.std_alloc.proofs.boxed.Box.into_raw.Met as raw_met
use Rattle.std_heap.specs.contracts.Global as Heap
use Rattle.std_heap.specs.contracts.GlobalAllocator.TheImpl.{ghosts, dict}
use Rattle.std_heap.proofs.GlobalAllocator.TheImpl.Met.{passed}
use Rattle.filter_c.proofs.Destruct++none.drop.Code as heap_drop
use Rattle.filter_c.proofs.AsBox.{boxes, heap_row, heap_laws, heap_drops, pointer_word, block_in}
use Rattle.filter_c.specs.contracts.block.Block.of as of
use Rattle.filter_c.specs.contracts.block.Block.of.Key.{name as #self}
use Rattle.filter_c.proofs.block.Block.of.Statement as stated
use Rattle.filter_c.proofs.block.Block.of.Code as code

module _ (X : RattleType) (L : Laws X) (drops : Dict) where
  abbrev E : Bx
  E = boxes X L

  -- what the call of `into_raw` is passed
  abbrev passes : Args
  passes = bounded (a_type ∷ a_type ∷ []) (X, (heap_row, tt)) (dcons dict (dcons heap_drops (dcons drops dnil)))

  abbrev fn : Fn
  fn = inst_fn (bounded (a_type ∷ []) (X, tt) (dcons drops dnil)) code.function

  abbrev ended : Ended
  ended = of.ended X drops

  -- the row of the parameter
  abbrev From : RattleType
  From = Box.the_row (param 0 X) Heap.the_row ghosts

  abbrev stayed : Stays ended.signature.params ended.kept
  stayed = (stay_dropped (plain (λ _. From)) no, tt)

  module _ {M : Type 1} {𝓤 : Ura M} (𝓛 : Logic 𝓤) (at_mem : Memory → SProp 𝓤) (run : Routine → Fun 𝓤) (𝓣 : Tables 𝓤 𝓛.H) where
    open 𝓛 use {H}

    abbrev held : Clauses 𝓤 ended
    held = of.clauses X drops 𝓛 at_mem run

    abbrev Opens : Contract 𝓤
    Opens = triple_of 𝓛 (Raw.signature X heap_row ghosts dict heap_drops drops) (Raw.spec X heap_row ghosts dict heap_drops drops 𝓛 at_mem run)

    walk : Triple 𝓤 (𝓣.C (raw_name.name passes)) Opens
        → (z : (walk_of 𝓛 ended stayed held).Ghost) → ent 𝓤 ((walk_of 𝓛 ended stayed held).pre z) (WpFn 𝓤 H 𝓣.C 𝓣.Λ fn (z.0.4.0 ++ []) ((walk_of 𝓛 ended stayed held).post z))
    walk opens z =
        let κ = z.0.0.0 in let q = z.0.1.0 in let Post = (walk_of 𝓛 ended stayed held).post z in
        let b : D E = record { ptr = z.0.3.0.ptr; alloc = z.0.3.0.alloc; value = z.0.3.0.value } in
        -- the tokens of the call: that of the value's lifetime, and that of the heap's, which is 'static
        let lives : Item 𝓤 = ‵ (flft κ q) ⊛ ‵ (flft [] full_share) ⊛ ‵ ftrue in
        qed 𝓛 (((‵ (flft κ q) ⊛ ‵ ftrue) ⊛ ‵ (fsep ((B E).own_val b z.0.4.0) ftrue)) ∷ (raw (fact 𝓤 (κ ⊑ X.lives)) ⊛ ‵ ftrue) ∷ []) ∵
        split ! $ split ! $ move ! (3 ∷ []) $ split ! $ keep ! (4 ∷ 2 ∷ 0 ∷ []) $ fsplit ! $
        box_out E ! b z.0.4.0 (λ n o hv e ws fits. box_in E ! b n o b.value e refl $
        let w = word E hv n o in let typed = box_typed E hv n o fits in
        regoal ! (λ (us : List Val). prop (WpFn 𝓤 H 𝓣.C 𝓣.Λ fn (us ++ []) Post)) ws refl $
        enter ! 𝓣.C 𝓣.Λ fn (w ∷ []) _ $ alloc_all ! (λ ls. pass_all ! refl (typed, tt) $
        sets ! (of_opd ! (get ! refl)) refl typed $
        -- [the box; true; the token; that the value lives]
        fjoin ! $ nothing ! $ use0 𝓛 (‵ (flft [] full_share)) (𝓛.lfts.lft-nil full_share) $ join ! $ move ! (2 ∷ 0 ∷ []) $ join ! $ join ! $
        nothing ! $ use0 𝓛 (raw (fact 𝓤 ([] ⊑ []))) (fact_i 𝓤 ([] ⊑ []) (emp 𝓤) (⊑_static [])) $ join ! $ move ! (2 ∷ 0 ∷ []) $ join ! $ move ! (1 ∷ 0 ∷ []) $ join ! $
        let y : Opens.Ghost = (((κ, ([], tt)), (q, (full_share, tt)), tt, (b, tt), (w ∷ [], tt)), tt) in
        use1 𝓛 (raw (Opens.pre y)) (id⊢ 𝓤 _) $
        calls_at ! (fm_of 𝓤 H 𝓛.laws 𝓣) Opens opens y (and_then ! (get ! refl) (no_more !)) (λ u.
        use1 𝓛 (later (some (λ (p : Ptr). (lives ⊛ ‵ (RawPtr.own_val p (u ∷ [])))
        ⊛ some (λ (_ : (Unit {0} × (Unit {0} × Unit {0})) × Unit {0}). ‵ (fsep (fsep ftrue (fsep ftrue ftrue)) ftrue) ⊛ ‵ (box_owns (token E.al b.alloc) (R E) p b.value))))) (id⊢ 𝓤 _) $
        await ! tt $ pick ! (λ p. split ! $ move ! (1 ∷ []) $ pick ! (λ _. split ! $ drop ! $
        in_a_block ! p (λ p'. box_owns (token E.al b.alloc) (R E) p' b.value) (fst∗ 𝓤 (never 𝓤) (sem 𝓛 (token E.al b.alloc (bare (τ E)) null_ptr))) (λ n' o' at.
        move ! (1 ∷ []) $ split ! $ move ! (1 ∷ []) $ feq_l ! (λ is.
        lands_as ! (ap only (is ∙ ap (λ (p' : Ptr). ptr_val p' ∷ []) at)) refl (tt, tt) $
        sets ! (agg ! (and_then ! (get ! refl) (no_more !))) refl (tt, (tt, tt)) $ returns ! (look_at ! 0 refl) $ free_all ! refl $
        -- [the tokens; what the box owned]
        split3 ! $ move ! (1 ∷ []) $ drop ! $ move ! (2 ∷ []) $ block_in ! (R E) (block_ptr n' o') b.value $
        suffices ! _ (ends_at 𝓛 ended stayed held z (pointer_word (block_ptr n' o')) (record { at = block_ptr n' o'; value = b.value }) (tt, tt) (tt, tt)) $ says ! refl $
        nothing ! $ nothing ! $ fjoin ! $ join ! $ move ! (1 ∷ 2 ∷ []) $ join ! $ move ! (0 ∷ 1 ∷ []) $ join ! $ done !)))))))

pub of_spec : {M : Type 1} → stated.statement M
unfolding tables_of heap_drop.code
of_spec {M} 𝓤 𝓛 𝓜 𝓡 wired X L drops glue =
    let 𝓣 : Tables 𝓤 𝓛.H = tables_of 𝓤 𝓛.H 𝓜 (tables 𝓤 𝓛.H 𝓜 𝓡 𝓡.env) in
    let heap_met = passed 𝓡.env (code.calls-std_heap::GlobalAllocator::allocate 𝓡.env wired) (code.calls-std_heap::GlobalAllocator::deallocate 𝓡.env wired)
    (code.calls-std_heap::GlobalAllocator::grow 𝓡.env wired) (code.calls-std_heap::GlobalAllocator::shrink 𝓡.env wired) M 𝓤 𝓛 𝓜 𝓡 in
    let heap_glue = glues "filter_c::Destruct++none::drop" 𝓡.env (code.calls-filter_c::Destruct++none::drop 𝓡.env wired) heap_row heap_laws M 𝓤 𝓛 𝓜 𝓡 in
    entered 𝓤 𝓛.H (triple_of 𝓛 (ended X L drops).signature (of.spec X drops 𝓛 𝓜.mem 𝓡.returns)) 𝓣.C 𝓣.Λ (#self (bounded (a_type ∷ []) (X, tt) (dcons drops dnil))) (fn X L drops) (code.unfolded 𝓤 𝓛.H 𝓜 𝓡 wired (X, tt) drops)
    (walk_Meets 𝓛 (ended X L drops) (stayed X L drops) (Goes-blank 𝓛 1 (plain (λ _. From X L drops)) no (λ κs x f. tt), tt) (held X L drops 𝓛 𝓜.mem 𝓡.returns 𝓣) (WpFn 𝓤 𝓛.H 𝓣.C 𝓣.Λ (fn X L drops)) (WpFn-mono 𝓤 𝓛.H 𝓛.laws 𝓣 (fn X L drops))
    (walk X L drops 𝓛 𝓜.mem 𝓡.returns 𝓣 (raw_met.met 𝓤 𝓛 𝓜 𝓡 (code.calls-std_alloc::boxed::Box::into_raw 𝓡.env wired) X heap_row L heap_laws ghosts dict heap_drops drops heap_met heap_glue glue)))
