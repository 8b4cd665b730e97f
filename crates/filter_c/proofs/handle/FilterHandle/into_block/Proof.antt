-- `into_block` moves the pointer, and the block owns what the handle did.
use Rattle.std.proofs.Common.{List, [], ◌∷◌, ◌++◌, refl, ap, ◌∙◌}
use seplogic.Ra.Ura.{Ura}
use mir.Raw.{raw as bare}
use mir.Val.{Val}
use base.Logic.{SProp, ent, never, fst∗}
use base.Fml.{ftrue, fsep}
use prog.Memory.{Memory}
use prog.Routine.{Routine}
use prog.Wp.{WpFn, Tables}
use types.Logic.{Logic, sem}
use contract.Monad.{Fun, fact}
use contract.Running.{tables, tables_of}
use sound.WpLaws.{WpFn-mono}
use types.Kit.{‵, raw, prop, ◌⊛◌, ◌$◌, ◌∵◌, !, qed, move, keep, drop, join, split, regoal, rewrite, fsplit, fjoin, suffices, done}
use types.Part.{whole, sub, agg}
use types.Run.{stop, fld, no_more, and_then, of_opd, returns, enter}
use types.ByLocal.{alloc_all, pass_all, free_all, look_at, get, get_in, sets}
use denote.Exit.{yes}
use denote.RawPtr.{Ptr, block_ptr, null_ptr, in_a_block}
use denote.Steps.{nothing, heard}
use denote.Triple.Spec.{triple_of}
use denote.Triple.Table.{entered}
use denote.Triple.Walked.{says, Stays, stay_dropped, walk_of, ends_at, Goes-dropped, walk_Meets}
use Rattle.std.specs.Prelude.{Option, None, ◌≢◌}
use Rattle.std.proofs.alloc.Calls.{token}
use Rattle.std_alloc.proofs.BoxSteps.Form.{τ}
use Rattle.filter_c.specs.Handles.{block_owns, handle_owns, heap}
use Rattle.filter_c.specs.contracts.owner.Owner as Owner
use Rattle.filter_c.proofs.AsBox.{owners, FromHandle, pointer_word, block_in, handle_out, some_of}
use Rattle.filter_c.specs.contracts.handle.FilterHandle.into_block as into_block
use Rattle.filter_c.specs.contracts.handle.FilterHandle.into_block.Key.{name as #self}
use Rattle.filter_c.proofs.handle.FilterHandle.into_block.Statement as stated
use Rattle.filter_c.proofs.handle.FilterHandle.into_block.Code as code

abbrev stayed : Stays (into_block.ended).signature.params (into_block.ended).kept
stayed = (stay_dropped FromHandle yes, tt)

module _ {M : Type 1} {𝓤 : Ura M} (𝓛 : Logic 𝓤) (at_mem : Memory → SProp 𝓤) (run : Routine → Fun 𝓤) (𝓣 : Tables 𝓤 𝓛.H) where
  open 𝓛 use {H}

  walk : (z : (walk_of 𝓛 into_block.ended stayed (into_block.clauses 𝓛 at_mem run)).Ghost)
      → ent 𝓤 ((walk_of 𝓛 into_block.ended stayed (into_block.clauses 𝓛 at_mem run)).pre z) (WpFn 𝓤 H 𝓣.C 𝓣.Λ code.function (z.0.4.0 ++ []) ((walk_of 𝓛 into_block.ended stayed (into_block.clauses 𝓛 at_mem run)).post z))
  walk z =
      let Post = (walk_of 𝓛 into_block.ended stayed (into_block.clauses 𝓛 at_mem run)).post z in
      let handle = z.0.3.0 in
      qed 𝓛 ((‵ ftrue ⊛ ‵ (fsep ((FromHandle.row tt).own_val handle z.0.4.0) ftrue)) ∷ raw (fact 𝓤 (handle.value ≢ None)) ∷ []) ∵
      move ! (1 ∷ []) $ heard ! (handle.value ≢ None) (λ full. let found = some_of handle.value full in let x = found.0 in
      split ! $ drop ! $ fsplit ! $ handle_out ! handle z.0.4.0 (λ at. keep ! (0 ∷ []) $
      rewrite ! 0 (λ (v : Option (Owner.the_row).Denot). ‵ (handle_owns Owner.the_row handle.at v)) found.1 refl $
      in_a_block ! handle.at (λ p. block_owns Owner.the_row p x) (fst∗ 𝓤 (never 𝓤) (sem 𝓛 (token owners.al heap (bare (τ owners)) null_ptr))) (λ n o is.
      regoal ! (λ (us : List Val). prop (WpFn 𝓤 H 𝓣.C 𝓣.Λ code.function (us ++ []) Post)) (at ∙ ap (λ (p : Ptr). pointer_word p ∷ []) is) refl $
      enter ! 𝓣.C 𝓣.Λ code.function (pointer_word (block_ptr n o) ∷ []) _ $ alloc_all ! (λ ls. pass_all ! refl ((tt, (tt, tt)), tt) $
      sets ! (of_opd ! (get_in ! (fld ! refl (stop !)) (sub ! 0 refl (whole !)))) refl (tt, tt) $
      sets ! (agg ! (and_then ! (get ! refl) (no_more !))) refl (tt, (tt, tt)) $ returns ! (look_at ! 0 refl) $ free_all ! refl $
      block_in ! Owner.the_row (block_ptr n o) x $
      suffices ! _ (ends_at 𝓛 into_block.ended stayed (into_block.clauses 𝓛 at_mem run) z (pointer_word (block_ptr n o)) (record { at = block_ptr n o; value = x }) (tt, tt) (tt, tt)) $ says ! found.1 $
      nothing ! $ nothing ! $ fjoin ! $ join ! $ nothing ! $ join ! $ done !))))

pub into_block_spec : {M : Type 1} → stated.statement M
unfolding tables_of
into_block_spec 𝓤 𝓛 𝓜 𝓡 wired =
    let 𝓣 : Tables 𝓤 𝓛.H = tables_of 𝓤 𝓛.H 𝓜 (tables 𝓤 𝓛.H 𝓜 𝓡 𝓡.env) in
    entered 𝓤 𝓛.H (triple_of 𝓛 into_block.signature (into_block.spec 𝓛 𝓜.mem 𝓡.returns)) 𝓣.C 𝓣.Λ #self code.function (code.unfolded 𝓤 𝓛.H 𝓜 𝓡 wired)
    (walk_Meets 𝓛 into_block.ended stayed (Goes-dropped 𝓛 0 FromHandle yes (λ κs x f. refl), tt) (into_block.clauses 𝓛 𝓜.mem 𝓡.returns) (WpFn 𝓤 𝓛.H 𝓣.C 𝓣.Λ code.function) (WpFn-mono 𝓤 𝓛.H 𝓛.laws 𝓣 code.function)
    (walk 𝓛 𝓜.mem 𝓡.returns 𝓣))
