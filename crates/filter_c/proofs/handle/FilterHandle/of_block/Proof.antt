-- `of_block` moves the pointer, and the handle owns what the block did.
use Rattle.std.proofs.Common.{List, [], ◌∷◌, ◌++◌, refl, ap, ◌∙◌}
use seplogic.Ra.Ura.{Ura}
use mir.Raw.{raw as bare}
use mir.Val.{Val}
use base.Logic.{SProp, ent, emp, never, fst∗}
use base.Fml.{ftrue, fsep}
use prog.Memory.{Memory}
use prog.Routine.{Routine}
use prog.Wp.{WpFn, Tables}
use types.Logic.{Logic, sem}
use contract.Monad.{Fun}
use contract.Running.{tables, tables_of}
use sound.WpLaws.{WpFn-mono}
use types.Kit.{‵, raw, prop, ◌⊛◌, ◌$◌, ◌∵◌, !, qed, keep, drop, join, split, regoal, fsplit, fjoin, suffices, done}
use types.Part.{whole, sub, agg}
use types.Run.{stop, fld, no_more, and_then, of_opd, returns, enter}
use types.ByLocal.{alloc_all, pass_all, free_all, look_at, get, get_in, sets}
use denote.Exit.{yes}
use denote.RawPtr.{Ptr, block_ptr, null_ptr, in_a_block}
use denote.Steps.{nothing}
use denote.Triple.Spec.{triple_of}
use denote.Triple.Table.{entered}
use denote.Triple.Walked.{says, Stays, stay_dropped, walk_of, ends_at, Goes-dropped, walk_Meets}
use Rattle.std.specs.Prelude.{Some}
use Rattle.std.proofs.alloc.Calls.{token}
use Rattle.std_alloc.proofs.BoxSteps.Form.{τ}
use Rattle.filter_c.specs.Handles.{block_owns, heap}
use Rattle.filter_c.specs.contracts.owner.Owner as Owner
use Rattle.filter_c.proofs.AsBox.{owners, FromBlock, pointer_word, block_out, handle_in}
use Rattle.filter_c.specs.contracts.handle.FilterHandle.of_block as of_block
use Rattle.filter_c.specs.contracts.handle.FilterHandle.of_block.Key.{name as #self}
use Rattle.filter_c.proofs.handle.FilterHandle.of_block.Statement as stated
use Rattle.filter_c.proofs.handle.FilterHandle.of_block.Code as code

abbrev stayed : Stays (of_block.ended).signature.params (of_block.ended).kept
stayed = (stay_dropped FromBlock yes, tt)

module _ {M : Type 1} {𝓤 : Ura M} (𝓛 : Logic 𝓤) (at_mem : Memory → SProp 𝓤) (run : Routine → Fun 𝓤) (𝓣 : Tables 𝓤 𝓛.H) where
  open 𝓛 use {H}

  walk : (z : (walk_of 𝓛 of_block.ended stayed (of_block.clauses 𝓛 at_mem run)).Ghost)
      → ent 𝓤 ((walk_of 𝓛 of_block.ended stayed (of_block.clauses 𝓛 at_mem run)).pre z) (WpFn 𝓤 H 𝓣.C 𝓣.Λ code.function (z.0.4.0 ++ []) ((walk_of 𝓛 of_block.ended stayed (of_block.clauses 𝓛 at_mem run)).post z))
  walk z =
      let Post = (walk_of 𝓛 of_block.ended stayed (of_block.clauses 𝓛 at_mem run)).post z in
      let block = z.0.3.0 in let x = block.value in
      qed 𝓛 ((‵ ftrue ⊛ ‵ (fsep ((FromBlock.row tt).own_val block z.0.4.0) ftrue)) ∷ raw (emp 𝓤) ∷ []) ∵ split ! $ drop ! $ fsplit ! $
      block_out ! Owner.the_row block z.0.4.0 (λ at. keep ! (0 ∷ []) $
      in_a_block ! block.at (λ p. block_owns Owner.the_row p x) (fst∗ 𝓤 (never 𝓤) (sem 𝓛 (token owners.al heap (bare (τ owners)) null_ptr))) (λ n o is.
      regoal ! (λ (us : List Val). prop (WpFn 𝓤 H 𝓣.C 𝓣.Λ code.function (us ++ []) Post)) (at ∙ ap (λ (p : Ptr). pointer_word p ∷ []) is) refl $
      enter ! 𝓣.C 𝓣.Λ code.function (pointer_word (block_ptr n o) ∷ []) _ $ alloc_all ! (λ ls. pass_all ! refl ((tt, (tt, tt)), tt) $
      sets ! (of_opd ! (get_in ! (fld ! refl (stop !)) (sub ! 0 refl (whole !)))) refl (tt, tt) $
      sets ! (agg ! (and_then ! (get ! refl) (no_more !))) refl (tt, (tt, tt)) $ returns ! (look_at ! 0 refl) $ free_all ! refl $
      handle_in ! (block_ptr n o) (Some x) $
      suffices ! _ (ends_at 𝓛 of_block.ended stayed (of_block.clauses 𝓛 at_mem run) z (pointer_word (block_ptr n o)) (record { at = block_ptr n o; value = Some x }) (tt, tt) (tt, tt)) $ says ! refl $
      nothing ! $ nothing ! $ fjoin ! $ join ! $ nothing ! $ join ! $ done !)))

pub of_block_spec : {M : Type 1} → stated.statement M
unfolding tables_of
of_block_spec 𝓤 𝓛 𝓜 𝓡 wired =
    let 𝓣 : Tables 𝓤 𝓛.H = tables_of 𝓤 𝓛.H 𝓜 (tables 𝓤 𝓛.H 𝓜 𝓡 𝓡.env) in
    entered 𝓤 𝓛.H (triple_of 𝓛 of_block.signature (of_block.spec 𝓛 𝓜.mem 𝓡.returns)) 𝓣.C 𝓣.Λ #self code.function (code.unfolded 𝓤 𝓛.H 𝓜 𝓡 wired)
    (walk_Meets 𝓛 of_block.ended stayed (Goes-dropped 𝓛 0 FromBlock yes (λ κs x f. refl), tt) (of_block.clauses 𝓛 𝓜.mem 𝓡.returns) (WpFn 𝓤 𝓛.H 𝓣.C 𝓣.Λ code.function) (WpFn-mono 𝓤 𝓛.H 𝓛.laws 𝓣 code.function)
    (walk 𝓛 𝓜.mem 𝓡.returns 𝓣))
