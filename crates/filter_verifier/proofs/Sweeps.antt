-- The in-state that the sweep keeps for each index is the join of what all visited instructions propagate to it.
use Rattle.std.proofs.Common.{◌≡◌, ℕ, zero, suc, ◌+◌, ◌-◌, ◌≤◌, ◌<◌, max, Bool, true, false, Option, Some, None, List, [], ◌∷◌}
use Rattle.std.proofs.Common.{◌++◌, length, get_or, refl, sym, ◌∙◌, ap, subst, add-one, arith}
use Rattle.std.proofs.lemmas.Bool.Decides.{nat_tests}
use Rattle.std.proofs.lemmas.List.{get_or_default}
use Rattle.std.specs.Prelude.{◌==◌, if◌then◌else◌, slice_get}
use native.Mathlib.Numerals.{unary_clauses}
use Rattle.filter_code.specs.Limits.{stack_limit, smallest_size, largest_size}
use Rattle.filter_code.specs.declared.instruction.Instr.{Instr}
use Rattle.filter_code.specs.CodeView.{CodeView}
use Rattle.filter_code.specs.Table.{leads}
use Rattle.filter_verifier.specs.declared.fault.VerifyFault.{VerifyFault}
use Rattle.filter_verifier.specs.declared.in_state.InState.{InState}
use Rattle.filter_verifier.specs.declared.in_state.InState.TheVariants as state
use Rattle.filter_verifier.specs.FirstFault.{first_fault, is_size, or_else, refused_by, the_fault}
use Rattle.filter_verifier.specs.InStateView.{InStateView, Unreached}
use Rattle.filter_verifier.specs.InStates.{in_state, leads_of, out_state_at, propagated}
use Rattle.filter_verifier.specs.OutStateView.{OutStateView, Passed}
use Rattle.filter_verifier.specs.PairwiseJoin.{join_two_states}
use Rattle.filter_verifier.specs.Sweep.{height_of, highest, in_state_view, joined_below, state_at}
use Rattle.filter_verifier.specs.Transfer.{leads_to, out_state}
use Rattle.filter_verifier.specs.Sweep.{as_in_state, entry_state}
use Rattle.filter_verifier.specs.InStateView.{Known}
use Rattle.filter_verifier.specs.AbstractFrameView.{AbstractFrameView}
use Rattle.filter_verifier.proofs.Propagation.{joined_at_entry, joined_next}

-- before the visit of an index: what waits there and behind it, the greatest height so far, and nothing is unknown below
pub record Before (program : CodeView) (size n : ℕ) (in_states : List InState) (depth : ℕ) : Type 0 where
  pub wide : length in_states ≡ length program.instrs
  pub none : first_fault program size n ≡ None
  pub waits : (k : ℕ) → n ≤ k → state_at in_states k ≡ joined_below program size n k
  pub deepest : depth ≡ highest program size n
  pub limit : depth ≤ stack_limit

pub next_joined : (program : CodeView) (size n k : ℕ) → joined_below program size (n + 1) k
    ≡ join_two_states (joined_below program size n k) (as_in_state (propagated program n (out_state_at program size n) k))
next_joined program size n k = rw add-one (joined_next program size n k)

pub fault_next : (program : CodeView) (size n : ℕ) → first_fault program size (n + 1)
    ≡ or_else (first_fault program size n) (refused_by (out_state_at program size n))
unfolding first_fault
fault_next program size n = rw add-one refl

highest_next : (program : CodeView) (size n : ℕ) → highest program size (n + 1)
    ≡ max (highest program size n) (height_of (in_state program size n))
unfolding highest
highest_next program size n = rw add-one refl

-- before the first visit
pub begun : (program : CodeView) (size : ℕ) (in_states : List InState) → length in_states ≡ length program.instrs →
    ((k : ℕ) → state_at in_states k ≡ entry_state program k) → Before program size 0 in_states 0
unfolding first_fault highest
begun program size in_states wide waits = record { wide = wide; none = refl; waits = λ k h. waits k ∙ sym (joined_at_entry program size k); deepest = refl; limit = omega arith }

-- what becomes of an index is the verdict on it
pub judged : (program : CodeView) (size n : ℕ) (in_states : List InState) (depth : ℕ) →
    Before program size n in_states depth → out_state program size n (state_at in_states n) ≡ out_state_at program size n
judged program size n in_states depth before = ap (out_state program size n) (before.waits n (omega arith))

-- an index where nothing is unknown
pub advanced : (program : CodeView) (size n : ℕ) (in_states next : List InState) (depth height : ℕ) →
    Before program size n in_states depth →
    length next ≡ length in_states →
    refused_by (out_state program size n (state_at in_states n)) ≡ None →
    ((k : ℕ) → n < k → state_at next k
    ≡ join_two_states (state_at in_states k) (as_in_state (propagated program n (out_state program size n (state_at in_states n)) k))) →
    height ≡ height_of (state_at in_states n) →
    height ≤ stack_limit →
    Before program size (n + 1) next (max depth height)
advanced program size n in_states next depth height before wide none waits height_is limit =
    let same = judged program size n in_states depth before in
    record {
      wide = wide ∙ before.wide;
      none = fault_next program size n ∙ (ap (λ (o : Option VerifyFault). or_else o
          (refused_by (out_state_at program size n))) before.none ∙ (sym (ap refused_by same) ∙ none));
      waits = λ k h. waits k (omega (arith, h)) ∙ (ap (λ (a : InStateView). join_two_states a
          (as_in_state (propagated program n (out_state program size n (state_at in_states n)) k))) (before.waits k (omega (arith, h)))
          ∙ (ap (λ (v : OutStateView). join_two_states (joined_below program size n k) (as_in_state (propagated program n v k))) same
          ∙ sym (next_joined program size n k)));
      deepest = ap (λ (d : ℕ). max d height) before.deepest
          ∙ (ap (λ (h : ℕ). max (highest program size n) h) (height_is ∙ ap height_of (before.waits n (omega arith)))
          ∙ sym (highest_next program size n));
      limit = omega (arith, before.limit, limit);
    }

-- what is unknown at some index stays the first such thing
pub first_stays : (program : CodeView) (size n more : ℕ) (why : VerifyFault) → first_fault program size n ≡ Some why →
    first_fault program size (n + more) ≡ Some why
unfolding first_fault
first_stays program size n zero why e = simp unary_clauses e
first_stays program size n (suc more) why e = simp unary_clauses
    (ap (λ (o : Option VerifyFault). or_else o (refused_by (out_state_at program size (n + more))))
    (first_stays program size n more why e))

pub refused : (program : CodeView) (size n : ℕ) (in_states : List InState) (depth : ℕ) (why : VerifyFault) →
    Before program size n in_states depth →
    refused_by (out_state program size n (state_at in_states n)) ≡ Some why →
    n < length program.instrs →
    first_fault program size (length program.instrs) ≡ Some why
refused program size n in_states depth why before found inside =
    let here : first_fault program size (n + 1) ≡ Some why = fault_next program size n
    ∙ (ap (λ (o : Option VerifyFault). or_else o (refused_by (out_state_at program size n))) before.none
    ∙ (sym (ap refused_by (judged program size n in_states depth before)) ∙ found)) in
    let P : ℕ → Type 0 = λ m. first_fault program size m ≡ Some why in
    let reaches : ((n + 1) + (length program.instrs - (n + 1))) ≡ length program.instrs = omega arith in
    subst P reaches (first_stays program size (n + 1) (length program.instrs - (n + 1)) why here)

-- one more index where nothing waits
pub state_more : (in_states : List InState) (k : ℕ) → state_at (in_states ++ state.Unreached ∷ []) k ≡ state_at in_states k
state_more [] zero = refl
state_more [] (suc k) = refl
state_more (w ∷ in_states) zero = refl
state_more (w ∷ in_states) (suc k) = state_more in_states k

-- what is read of the waiting
pub state_is : (in_states : List InState) (at : ℕ) (w : InState) → at < length in_states → w ≡ get_or in_states at w →
    in_state_view w ≡ state_at in_states at
state_is in_states at w inside is = ap in_state_view (is ∙ get_or_default in_states at w state.Unreached inside)

-- what is propagated, by whether it leads there
led_state : (led : Bool) (next : AbstractFrameView) →
    (if led then Known next else Unreached) ≡ as_in_state (if led then Some next else None)
led_state true next = refl
led_state false next = refl

-- what is propagated where all tests passed
pub handed : (program : CodeView) (size at target : ℕ) (w : InStateView) (next : AbstractFrameView) (old new : InStateView) (i : Instr)
    (offsets : List ℕ) →
    slice_get program.instrs at ≡ Some i →
    offsets ≡ leads i →
    out_state program size at w ≡ Passed next →
    new ≡ join_two_states old (if leads_to at target offsets then Known next else Unreached) →
    new ≡ join_two_states old (as_in_state (propagated program at (out_state program size at w) target))
handed program size at target w next old new i offsets is ways passed met =
    met ∙ (ap (λ (ds : List ℕ). join_two_states old (if leads_to at target ds then Known next else Unreached)) ways
    ∙ (ap (join_two_states old) (led_state (leads_to at target (leads i)) next)
    ∙ (sym (ap (λ (found : Option Instr). join_two_states old (as_in_state
    (if leads_to at target (leads_of found) then Some next else None))) is)
    ∙ sym (ap (λ (v : OutStateView). join_two_states old (as_in_state (propagated program at v target))) passed))))

-- code of which nothing is unknown
pub nothing_unknown : (program : CodeView) (size : ℕ) → smallest_size ≤ size → size ≤ largest_size →
    (length program.instrs == 0) ≡ false → first_fault program size (length program.instrs) ≡ None →
    the_fault program size ≡ None
nothing_unknown program size low high full none =
    let fits : is_size size ≡ true = grind (arith, nat_tests) in
    rw (fits, full) none
