-- Boxes in the heap of the C library, by the steps on boxes of `std_alloc`, and the structs of one pointer that own what such a box does.
-- Assumes `Logic`.
use Rattle.std.proofs.Common.{◌≡◌, List, [], ◌∷◌, ◌++◌, refl, ◌∙◌}
use Rattle.std.specs.Prelude.{Option, Some, None, ◌≢◌}
use seplogic.Ra.Ura.{Ura}
use mir.Syntax.{Dict, Ty, ty_struct, ty_unit, impl, tcons, tnil, dnil}
use mir.Val.{Val, vstruct, vcons, vnil, of_list}
use types.Logic.{Logic}
use types.Kit.{Item, Goal, Seq, Step, step, ‵, ◌$◌, drop, fsplit, fjoin, fpick, fpack, feq_i, feq_l}
use denote.Exit.{yes}
use denote.Param.{arg}
use denote.Param.Laws.{Laws, arg_laws}
use denote.RattleType.{RattleType, Valss}
use denote.RawPtr.{Ptr, RawPtr, ptr_val}
use denote.Signature.{Slot, plain}
use denote.Steps.{nothing}
use denote.Struct.Struct.{within}
use denote.Struct.Owning.{shape}
use Rattle.std_alloc.proofs.BoxSteps.Form.{Bx}
use Rattle.std_heap.specs.contracts.Global as Heap
use Rattle.std_heap.specs.contracts.GlobalAllocator.TheImpl.{ghosts, dict}
use Rattle.std_heap.proofs.Global.TheLaws as heap
use Rattle.filter_c.specs.Handles.{block_owns, handle_owns}
use Rattle.filter_c.specs.contracts.block.Block as Block
use Rattle.filter_c.specs.contracts.owner.Owner as Owner
use Rattle.filter_c.specs.contracts.handle.FilterHandle as FilterHandle
use Rattle.filter_c.proofs.owner.Owner.TheLaws as owner

-- The heap's handle as a call passes it: its layout without a name. Its drop does nothing.
abbrev pub heap_layout : Ty
heap_layout = ty_struct [] (tcons (ty_struct [] (tcons ty_unit tnil)) tnil)

abbrev pub heap_row : RattleType
heap_row = arg heap_layout yes Heap.the_row

pub heap_laws : Laws heap_row
heap_laws = arg_laws heap_layout yes Heap.the_row heap.the_row_laws refl

abbrev pub heap_drops : Dict
heap_drops = impl ("filter_c::Destruct++none::drop" ∷ []) (tcons heap_layout tnil) dnil

-- a box of a type
abbrev pub boxes : (X : RattleType) → Laws X → Bx
boxes X L = record { row = X; laws = L; al = record { row = heap_row; laws = heap_laws; g = ghosts; d = dict; drops = heap_drops } }

-- a box of an owner
abbrev pub owners : Bx
owners = boxes Owner.the_row owner.the_row_laws

-- the parameters that are a block and a handle
abbrev pub FromBlock : Slot 0
FromBlock = plain (λ _. Block.the_row Owner.the_row)

abbrev pub FromHandle : Slot 0
FromHandle = plain (λ _. FilterHandle.the_row)

-- a struct of one pointer, as it is stored
abbrev pub pointer_word : Ptr → Val
pointer_word p = vstruct (vcons (ptr_val p) vnil)

-- what is not none is some
pub some_of : {X : Type 0} (o : Option X) → o ≢ None → (x : X) × (o ≡ Some x)
some_of (Some x) h = (x, refl)
some_of None h = absurd (h refl)

module _ {M : Type 1} {𝓤 : Ura M} {𝓛 : Logic 𝓤} {K : Type 0} {Γ : List (Item 𝓤)} {G : Goal 𝓤 𝓛.H} where
  -- a block owns what its box did
  pub block_in : K → (X : RattleType) (p : Ptr) (x : X.Denot)
      → Step K 𝓛 (‵ ((Block.the_row X).own_val (record { at = p; value = x }) (pointer_word p ∷ [])) ∷ Γ) G (‵ (block_owns X p x) ∷ Γ) G
  block_in t X p x = step (λ s. nothing t $ feq_i t (List Val) (ptr_val p ∷ []) (ptr_val p ∷ []) refl $ fjoin t $
      feq_i t (List Val) (pointer_word p ∷ []) (pointer_word p ∷ []) refl $ fjoin t $
      fpack t (Valss (RawPtr ∷ [])) (within (shape (Block.the_type X)) (p, tt) (pointer_word p ∷ [])) (ptr_val p ∷ [], tt) $ fjoin t $ s)

  pub block_out : K → (X : RattleType) (d : (Block.the_row X).Denot) (vs : List Val)
      → (vs ≡ pointer_word d.at ∷ [] → Seq K 𝓛 (‵ (block_owns X d.at d.value) ∷ Γ) G)
      → Seq K 𝓛 (‵ ((Block.the_row X).own_val d vs) ∷ Γ) G
  block_out t X d vs k = fsplit t $ fpick t (λ vss. fsplit t $ feq_l t (λ ev. fsplit t $ feq_l t (λ ep. drop t $
      k (ev ∙ (λ j. vstruct (of_list (ep j ++ [])) ∷ [])))))

  -- a handle owns what its block does, or nothing
  pub handle_in : K → (p : Ptr) (x : Option (Owner.the_row).Denot)
      → Step K 𝓛 (‵ ((FilterHandle.the_row).own_val (record { at = p; value = x }) (pointer_word p ∷ [])) ∷ Γ) G (‵ (handle_owns Owner.the_row p x) ∷ Γ) G
  handle_in t p x = step (λ s. nothing t $ feq_i t (List Val) (ptr_val p ∷ []) (ptr_val p ∷ []) refl $ fjoin t $
      feq_i t (List Val) (pointer_word p ∷ []) (pointer_word p ∷ []) refl $ fjoin t $
      fpack t (Valss (RawPtr ∷ [])) (within (shape FilterHandle.the_type) (p, tt) (pointer_word p ∷ [])) (ptr_val p ∷ [], tt) $ fjoin t $ s)

  pub handle_out : K → (d : (FilterHandle.the_row).Denot) (vs : List Val)
      → (vs ≡ pointer_word d.at ∷ [] → Seq K 𝓛 (‵ (handle_owns Owner.the_row d.at d.value) ∷ Γ) G)
      → Seq K 𝓛 (‵ ((FilterHandle.the_row).own_val d vs) ∷ Γ) G
  handle_out t d vs k = fsplit t $ fpick t (λ vss. fsplit t $ feq_l t (λ ev. fsplit t $ feq_l t (λ ep. drop t $
      k (ev ∙ (λ j. vstruct (of_list (ep j ++ [])) ∷ [])))))
