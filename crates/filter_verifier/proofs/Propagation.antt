-- What an instruction propagates is part of the in-state of each of its successors.
use Rattle.std.proofs.Common.{◌≡◌, ℕ, zero, suc, ◌<◌, ◌⊎◌, Bool, true, false, Option, Some, None, List, [], ◌∷◌, map, length}
use Rattle.std.proofs.Common.{refl, subst, sym, ◌∙◌, inl, inr, arith}
use Rattle.std.specs.Prelude.{slice_get, if◌then◌else◌}
use Rattle.std.proofs.lemmas.Bool.{cond_both}
use Rattle.std.proofs.lemmas.List.{length-replicate, length-set}
use Rattle.filter_code.specs.declared.instruction.Instr.{Instr}
use Rattle.filter_code.specs.declared.instruction.Instr.TheVariants as instr
use Rattle.filter_code.specs.declared.outcome.FaultKind.{FaultKind}
use Rattle.filter_code.specs.Machine.{locals_after, overfills}
use Rattle.filter_code.specs.CodeView.{CodeView}
use Rattle.filter_code.specs.Table.{Frame, Operands, Zero, One, Two, Drawn, Bad, Good, draw, leads}
use Rattle.filter_verifier.specs.declared.fact.Fact.{Fact}
use Rattle.filter_verifier.specs.declared.fault.VerifyFault.{VerifyFault}
use Rattle.filter_verifier.specs.Facts.{all_known, fact_fault, fact_given, kind_of_fact}
use Rattle.filter_verifier.specs.InStateView.{InStateView, Known, UnlikeDepths, Unreached}
use Rattle.filter_verifier.specs.InStates.{in_state, leads_of, out_state_at, propagated}
use Rattle.filter_verifier.specs.OutStateView.{OutStateView, Passed, Refused, Skipped}
use Rattle.filter_verifier.specs.PairwiseJoin.{join_two_states}
use Rattle.filter_verifier.specs.Sweep.{joined_below}
use Rattle.filter_verifier.specs.Transfer.{frame_after, if_inside, judge, leads_below, leads_to, out_state, out_state_of_frame}
use Rattle.filter_verifier.specs.Transfer.{out_state_of_known, unless_over, unless_refused}
use Rattle.filter_verifier.proofs.Joins.{Wide}
use Rattle.filter_verifier.specs.Sweep.{as_in_state, entry_state}
use Rattle.filter_verifier.specs.Join.{join_frames}
use Rattle.filter_verifier.specs.Numbers.{any_two_differ}
use Rattle.filter_verifier.specs.InStates.{incoming, entry_frame, with_frame}
use Rattle.filter_verifier.specs.AbstractFrameView.{AbstractFrameView}
use Rattle.filter_verifier.proofs.JoinedFrames.{joined_count, joined_with_none, joined_one_more, joined_alone}

-- the last tests of an instruction: each refuses, or holds and lets through
module _ (P : OutStateView → Type 0) (refused : (why : VerifyFault) → P (Refused why)) where
  unrefused : (fault : Option FaultKind) (at : ℕ) (v : OutStateView) → (fault ≡ None → P v) → P (unless_refused fault at v)
  unrefused None at v p = p refl
  unrefused (Some why) at v p = refused _

  not_over : (over : Bool) (at : ℕ) (v : OutStateView) → (over ≡ false → P v) → P (unless_over over at v)
  not_over true at v p = refused _
  not_over false at v p = p refl

  inside : (within : Bool) (at : ℕ) (v : OutStateView) → (within ≡ true → P v) → P (if_inside within at v)
  inside true at v p = p refl
  inside false at v p = refused _

  pub judged : (instrs size at : ℕ) (locals : List (Option Fact)) (i : Instr) (operands : Operands Fact) (rest : List Fact) →
      (fact_fault i operands ≡ None → overfills (fact_given size i operands) rest ≡ false → leads_below at instrs (leads i) ≡ true →
      P (Passed (frame_after size locals i operands rest))) →
      P (judge instrs size at locals i (Good operands rest))
  judged instrs size at locals i operands rest p =
      unrefused (fact_fault i operands) at _ λ none.
      not_over (overfills (fact_given size i operands) rest) at _ λ fits.
      inside (leads_below at instrs (leads i)) at _ λ within. p none fits within

-- the local variables remain as many
locals_width : (locals : List (Option Fact)) (i : Instr) (operands : Operands Fact) →
    length (locals_after locals i operands) ≡ length locals
locals_width locals (instr.Store k) Zero = refl
locals_width locals (instr.Store k) (One f) = length-set locals k (Some f)
locals_width locals (instr.Store k) (Two f g) = refl
locals_width locals _ operands = refl

-- what passes tells of as many
abbrev WideVisit : ℕ → OutStateView → Type 0
WideVisit width (Passed next) = Wide width (Known next)
WideVisit width _ = Unit {0}

wide_judged : (width instrs size at : ℕ) (locals : List (Option Fact)) (i : Instr) (drawn : Drawn Fact) → length locals ≡ width →
    WideVisit width (judge instrs size at locals i drawn)
wide_judged width instrs size at locals i (Bad why) w = tt
wide_judged width instrs size at locals i (Good operands rest) w =
    judged (WideVisit width) (λ why. tt) instrs size at locals i operands rest (λ none fits within. locals_width locals i operands ∙ w)

wide_known : (width : ℕ) (program : CodeView) (size at : ℕ) (locals : List (Option Fact)) (stack : List Fact) (found : Option Instr) →
    length locals ≡ width → WideVisit width (out_state_of_known program size at locals stack found)
wide_known width program size at locals stack None w = tt
wide_known width program size at locals stack (Some i) w =
    let frame : Frame Fact = record { stack = stack; locals = locals } in
    wide_judged width (length program.instrs) size at locals i (draw kind_of_fact program i frame) w

wide_places : (width : ℕ) (program : CodeView) (size at : ℕ) (locals : List (Option Fact)) (known : Option (List Fact)) →
    length locals ≡ width → WideVisit width (out_state_of_frame program size at locals known)
wide_places width program size at locals None w = tt
wide_places width program size at locals (Some stack) w = wide_known width program size at locals stack (slice_get program.instrs at) w

wide_visited : (width : ℕ) (program : CodeView) (size at : ℕ) (a : InStateView) → Wide width a → WideVisit width (out_state program size at a)
wide_visited width program size at Unreached w = tt
wide_visited width program size at UnlikeDepths w = tt
wide_visited width program size at (Known frame) w = wide_places width program size at frame.locals (all_known frame.stack) w

wide_handed : (width : ℕ) (program : CodeView) (at : ℕ) (v : OutStateView) (target : ℕ) → WideVisit width v →
    Wide width (as_in_state (propagated program at v target))
wide_handed width program at Skipped target w = tt
wide_handed width program at (Refused why) target w = tt
wide_handed width program at (Passed next) target w =
    cond_both (leads_to at target (leads_of (slice_get program.instrs at))) (Some next) None
    (λ o. Wide width (as_in_state o)) (λ e. w) (λ e. tt)

-- an in-state tells of as many local variables as the code has
pub wide_joined : (count : ℕ) (frames : List AbstractFrameView) → Wide count (join_frames count frames)
wide_joined count [] = tt
wide_joined count (f ∷ frames) =
    cond_both (any_two_differ (map (λ g. length g.stack) (f ∷ frames))) _ _ (Wide count) (λ e. tt)
    (λ e. joined_count count (map (λ g. g.locals) (f ∷ frames)))

wide_below : (program : CodeView) (size n index : ℕ) → Wide program.locals (joined_below program size n index)
wide_below program size n index = wide_joined program.locals (incoming program size n index)

-- and so does what is propagated
pub wide_propagated : (program : CodeView) (size n index : ℕ) →
    Wide program.locals (as_in_state (propagated program n (out_state_at program size n) index))
wide_propagated program size n index =
    wide_handed program.locals program n (out_state_at program size n) index
    (wide_visited program.locals program size n (in_state program size n) (wide_below program size n n))

-- one frame more is joined to the others
frame_joined : (count : ℕ) (o : Option AbstractFrameView) (frames : List AbstractFrameView) → Wide count (as_in_state o) →
    join_frames count (with_frame o frames) ≡ join_two_states (join_frames count frames) (as_in_state o)
frame_joined count None frames w = sym (joined_with_none (join_frames count frames))
frame_joined count (Some frame) frames w = joined_one_more count frame frames w

-- before the sweep visits the next index
pub joined_next : (program : CodeView) (size n index : ℕ) → joined_below program size (suc n) index
    ≡ join_two_states (joined_below program size n index) (as_in_state (propagated program n (out_state_at program size n) index))
unfolding incoming
joined_next program size n index =
    frame_joined program.locals (propagated program n (out_state_at program size n) index) (incoming program size n index)
    (wide_propagated program size n index)

-- before the sweep
pub joined_at_entry : (program : CodeView) (size index : ℕ) → joined_below program size 0 index ≡ entry_state program index
unfolding incoming
joined_at_entry program size zero = joined_alone program.locals (entry_frame program) (length-replicate program.locals None)
joined_at_entry program size (suc index) = refl

-- below the next number is below a number, or at it
pub below_or_at : (k n : ℕ) → k < suc n → (k < n) ⊎ (k ≡ n)
below_or_at k n h = grind arith

-- a property of what an index propagates, that each side of a join keeps, is one of the join
module _ (program : CodeView) (size : ℕ) (P : InStateView → Type 0) (left : (a b : InStateView) → P a → P (join_two_states a b))
    (right : (a b : InStateView) → Wide program.locals a → Wide program.locals b → P b → P (join_two_states a b)) where
  pub arrives : (n k target : ℕ) → k < n → P (as_in_state (propagated program k (out_state_at program size k) target)) →
      P (joined_below program size n target)
  arrives zero k target h p = absurd (omega arith)
  arrives (suc n) k target h p =
      subst P (sym (joined_next program size n target))
      (elim (below_or_at k n h) [
        | inl before ↦ left (joined_below program size n target) (as_in_state (propagated program n (out_state_at program size n) target))
            (arrives n k target before p)
        | inr same ↦ right (joined_below program size n target) (as_in_state (propagated program n (out_state_at program size n) target))
            (wide_below program size n target) (wide_propagated program size n target)
            (subst (λ m. P (as_in_state (propagated program m (out_state_at program size m) target))) same p)
      ])

  -- what passes is a part of what is known wherever the text leads
  pub arrives_at : (k target : ℕ) (next : AbstractFrameView) → out_state_at program size k ≡ Passed next → k < target →
      leads_to k target (leads_of (slice_get program.instrs k)) ≡ true → P (Known next) → P (in_state program size target)
  arrives_at k target next passed later led p =
      arrives target k target later
      (subst (λ v. P (as_in_state (propagated program k v target))) (sym passed)
      (subst (λ b. P (as_in_state (if b then Some next else None))) (sym led) p))
