-- Code that no test refuses never goes wrong: wherever a run is, it agrees with the in-state there, the steps
-- that are left are no more than the cost there, and the stack goes no higher than the peak there.
use Rattle.std.proofs.Common.{◌≡◌, ℕ, zero, suc, ◌+◌, ◌<◌, ◌≤◌, ◌==◌, inl, inr, Bool, true, false, Option, Some, None, List}
use Rattle.std.proofs.Common.{length, replicate, All, refl, sym, ◌∙◌, subst, arith}
use Rattle.std.specs.Prelude.{slice_get, nat_le, if◌then◌else◌}
use Rattle.std.proofs.lemmas.Bool.{and_parts}
use Rattle.std.proofs.lemmas.Bool.Decides.{nat_tests}
use Rattle.std.proofs.lemmas.Option.{slice_get_within, get_or_from_slice_get}
use Rattle.filter_code.specs.declared.instruction.Instr.{Instr}
use Rattle.filter_code.specs.declared.outcome.Outcome.TheVariants as outcome
use Rattle.filter_code.specs.RouteView.{RouteView}
use Rattle.filter_code.specs.Machine.{Config, State, Going, Ended, start, next, after, step}
use Rattle.filter_code.specs.CodeView.{CodeView}
use Rattle.filter_code.proofs.Metrics.{IsInRange}
use Rattle.filter_verifier.specs.declared.fault.VerifyFault.{VerifyFault}
use Rattle.filter_verifier.specs.FirstFault.{first_fault, is_size, or_else, refused_by, the_fault}
use Rattle.filter_verifier.specs.InStateView.{InStateView, Known, UnlikeDepths, Unreached}
use Rattle.filter_verifier.specs.InStates.{in_state, leads_of, out_state_at}
use Rattle.filter_verifier.specs.OutStateView.{OutStateView, Passed, Refused, Skipped}
use Rattle.filter_verifier.specs.Transfer.{out_state}
use Rattle.filter_verifier.specs.Bounds.{cost, peak}
use Rattle.filter_verifier.specs.Safe.{HasLiteral, IsRouteOf, IsSafe}
use Rattle.filter_verifier.proofs.Propagation.{below_or_at, arrives_at}
use Rattle.filter_verifier.proofs.Costs.{LeadOn, leads_on, cost_is, cost_falls, peak_falls, peak_least, none_past, led_below}
use Rattle.filter_verifier.proofs.Costs.{led_later, height_behind}
use Rattle.filter_verifier.proofs.Fits.{PlaceIsAs, Pairwise, pairwise_length}
use Rattle.filter_verifier.proofs.Heights.{IsHigh, Passes, passes_on}
use Rattle.filter_verifier.proofs.Joins.{Agrees, agrees_left, agrees_right}
use Rattle.filter_verifier.proofs.Steps.{EndsWell, StepIs, stepped}
use Rattle.filter_verifier.specs.Sweep.{entry_state}
use Rattle.filter_verifier.specs.AbstractFrameView.{AbstractFrameView}
use Rattle.filter_verifier.proofs.Propagation.{joined_at_entry}
use Rattle.filter_code.specs.Limits.{largest_size, smallest_size, stack_limit}

-- neither of two is there
neither : (o p : Option VerifyFault) → or_else o p ≡ None → (o ≡ None) × (p ≡ None)
neither None p e = (refl, e)
neither (Some why) p e = cc

-- where nothing is unknown below an index, nothing is at any index below it
pub none_refused : (program : CodeView) (size n k : ℕ) → first_fault program size n ≡ None → k < n →
    refused_by (out_state_at program size k) ≡ None
unfolding first_fault
none_refused program size zero k e h = absurd (omega arith)
none_refused program size (suc n) k e h =
    let both = neither (first_fault program size n) (refused_by (out_state_at program size n)) e in
    elim (below_or_at k n h) [
      | inl before ↦ none_refused program size n k both.0 before
      | inr same ↦ subst (λ m. refused_by (out_state_at program size m) ≡ None) (sym same) both.1
    ]

-- a stack that agrees with what is propagated is as high
high_as : (route : RouteView) (d : Config) (height : ℕ) (next : AbstractFrameView) → Agrees route d (Known next) → IsHigh height next →
    length d.frame.stack ≡ height
high_as route d height next p q =
    pairwise_length (λ v place. PlaceIsAs route.metric (Some v) place) d.frame.stack next.stack p.on_stack ∙ q

pub lead_on_from : (found : Option Instr) → LeadOn (leads_of found)
lead_on_from None = tt
lead_on_from (Some i) = leads_on i

-- an instruction costs a step
cost_positive : (instrs : List Instr) (at : ℕ) (found : Option Instr) → slice_get instrs at ≡ found → at < length instrs →
    0 < cost instrs at
cost_positive instrs at None e h = let past = none_past instrs at e in absurd (omega arith)
cost_positive instrs at (Some i) e h = let is = cost_is instrs at i e in omega arith

-- empty local variables
empty_locals : (received n : ℕ) → Pairwise (PlaceIsAs received) (replicate n None) (replicate n None)
empty_locals received zero = tt
empty_locals received (suc n) = (tt, empty_locals received n)

-- the instructions that are found
literal_at : (instrs : List Instr) → All HasLiteral instrs → (at : ℕ) (i : Instr) → slice_get instrs at ≡ Some i → HasLiteral i
literal_at instrs all at i e = subst HasLiteral (get_or_from_slice_get instrs at i i e) (all at i (slice_get_within instrs at i e))

-- what holds of a run after some steps
pub record Stands (program : CodeView) (route : RouteView) (size n : ℕ) (c : Config) : Type 0 where
  pub inside : c.pc < length program.instrs
  pub agrees : Agrees route c (in_state program size c.pc)
  pub soon : n + cost program.instrs c.pc ≤ cost program.instrs 0
  pub low : peak program.instrs c.pc (length c.frame.stack) ≤ peak program.instrs 0 0
  pub fits : length c.frame.stack ≤ stack_limit

-- a run goes on so, or has ended well
abbrev pub IsWell : CodeView → RouteView → ℕ → ℕ → State → Type 0
IsWell program route size n (Going c) = Stands program route size n c
IsWell program route size n (Ended end) = EndsWell route end

module _ (program : CodeView) (size : ℕ) (route : RouteView) (literals : All HasLiteral program.instrs)
    (some : 0 < length program.instrs) (small : size ≤ largest_size) (none : first_fault program size (length program.instrs) ≡ None)
    (of_size : IsRouteOf size route) where
  stack_passes : (c : Config) (a : InStateView) → Agrees route c a →
      Passes (length program.instrs) c.pc (length c.frame.stack) (slice_get program.instrs c.pc) (out_state program size c.pc a)
  stack_passes c Unreached p = absurd p
  stack_passes c UnlikeDepths p = tt
  stack_passes c (Known frame) p =
      passes_on program size c.pc (length c.frame.stack) frame
      (sym (pairwise_length (λ v place. PlaceIsAs route.metric (Some v) place) c.frame.stack frame.stack p.on_stack))

  -- if an instruction passes, the same holds after it
  moved : (n : ℕ) (c : Config) (v : OutStateView) (state : State) → Stands program route size n c → out_state_at program size c.pc ≡ v →
      refused_by v ≡ None → StepIs route c.pc (slice_get program.instrs c.pc) state v →
      Passes (length program.instrs) c.pc (length c.frame.stack) (slice_get program.instrs c.pc) v →
      IsWell program route size (suc n) state
  moved n c Skipped state here e q p h = absurd p
  moved n c (Refused why) state here e q p h = cc
  moved n c (Passed a) (Ended end) here e q p h = p
  moved n c (Passed a) (Going d) here e q p h =
      let later : c.pc < d.pc = led_later c.pc d.pc (leads_of (slice_get program.instrs c.pc))
      (lead_on_from (slice_get program.instrs c.pc)) p.led in
      let high : length d.frame.stack ≡ height_behind (slice_get program.instrs c.pc) (length c.frame.stack) =
      high_as route d _ a p.agrees h.high in
      let falls = cost_falls program.instrs c.pc d.pc (slice_get program.instrs c.pc) refl p.led in
      let lower = peak_falls program.instrs c.pc d.pc (length c.frame.stack) (slice_get program.instrs c.pc) refl p.led in
      let low : peak program.instrs d.pc (length d.frame.stack) ≤ peak program.instrs c.pc (length c.frame.stack) =
      subst (λ n. peak program.instrs d.pc n ≤ peak program.instrs c.pc (length c.frame.stack)) (sym high) lower in
      record {
        inside = led_below c.pc (length program.instrs) d.pc (leads_of (slice_get program.instrs c.pc)) h.within p.led;
        agrees =
            arrives_at program size (Agrees route d) (agrees_left route d)
            (λ x y w v. agrees_right route d program.locals x y w v) c.pc d.pc a e later p.led p.agrees;
        soon = omega (arith, here.soon);
        low = omega (arith, here.low);
        fits = subst (λ n. n ≤ stack_limit) (sym high) (h.fits here.fits);
      }

  step_stands : (n : ℕ) (c : Config) → Stands program route size n c → IsWell program route size (suc n) (step program route c)
  step_stands n c here =
      moved n c (out_state_at program size c.pc) (step program route c) here refl
      (none_refused program size (length program.instrs) c.pc none here.inside)
      (stepped program route size of_size small c (in_state program size c.pc) (literal_at program.instrs literals c.pc) here.agrees)
      (stack_passes c (in_state program size c.pc) here.agrees)

  next_stands : (n : ℕ) (state : State) → IsWell program route size n state → IsWell program route size (suc n) (next program route state)
  next_stands n (Going c) here = step_stands n c here
  next_stands n (Ended end) here = here

  at_entry : Agrees route (start program route) (entry_state program 0)
  at_entry = record {
    on_stack = tt;
    in_locals = empty_locals route.metric program.locals;
    metric = record { least = omega arith; most = omega (arith, of_size.reachable, of_size.size_is) };
  }

  begun : Stands program route size 0 (start program route)
  begun = record {
    inside = some;
    agrees = subst (Agrees route (start program route)) (sym (joined_at_entry program size 0)) at_entry;
    soon = omega arith;
    low = omega arith;
    fits = omega arith;
  }

  -- after any number of steps
  pub stands : (n : ℕ) → IsWell program route size n (after program route n)
  unfolding after
  stands zero = begun
  stands (suc n) = next_stands n (after program route n) (stands n)

  pub stands_at : (n : ℕ) (state : State) → after program route n ≡ state → IsWell program route size n state
  stands_at n state e = subst (IsWell program route size n) e (stands n)

-- the parts of a verdict that nothing is unknown
verdict_parts : (fits empty : Bool) (first second : VerifyFault) (found : Option VerifyFault) →
    (if fits then (if empty then Some first else found) else Some second) ≡ None → (fits ≡ true) × (empty ≡ false) × (found ≡ None)
verdict_parts true false first second found e = (refl, refl, e)
verdict_parts true true first second found e = cc
verdict_parts false empty first second found e = cc

not_empty : (n : ℕ) → (n == 0) ≡ false → 0 < n
not_empty zero e = cc
not_empty (suc n) e = omega arith

largest : (size : ℕ) → is_size size ≡ true → size ≤ largest_size
largest size e =
    let most : nat_le size largest_size ≡ true = (and_parts (nat_le smallest_size size) (nat_le size largest_size) e).1 in
    grind (arith, nat_tests)

-- what is known of a code of which nothing is unknown
pub record Faultless (program : CodeView) (size : ℕ) : Type 0 where
  pub some : 0 < length program.instrs
  pub small : size ≤ largest_size
  pub none : first_fault program size (length program.instrs) ≡ None

pub faultless : (program : CodeView) (size : ℕ) → the_fault program size ≡ None → Faultless program size
faultless program size e =
    let parts = verdict_parts (is_size size) (length program.instrs == 0) _ _ (first_fault program size (length program.instrs)) e in
    record {
      some = not_empty (length program.instrs) parts.1;
      small = largest size parts.0;
      none = parts.2;
    }

-- code of which nothing is unknown never goes wrong
pub safe_code : (program : CodeView) (size : ℕ) → All HasLiteral program.instrs → the_fault program size ≡ None → IsSafe program size
safe_code program size literals e =
    let good = faultless program size e in
    record {
      never_faults =
          λ route of_size n why at f. stands_at program size route literals good.some good.small good.none of_size n
          (Ended (outcome.Fault why at)) f;
      ends = λ route of_size n c f.
          let here : Stands program route size n c =
          stands_at program size route literals good.some good.small good.none of_size n (Going c) f in
          let more = cost_positive program.instrs c.pc (slice_get program.instrs c.pc) refl here.inside in
          omega (arith, here.soon);
      never_higher = λ route of_size n c f.
          let here : Stands program route size n c =
          stands_at program size route literals good.some good.small good.none of_size n (Going c) f in
          let least = peak_least program.instrs c.pc (length c.frame.stack) (slice_get program.instrs c.pc) refl in
          omega (arith, here.low);
      in_range = λ route of_size n metric f.
          let end : IsInRange route metric =
          stands_at program size route literals good.some good.small good.none of_size n (Ended (outcome.Accept metric)) f in
          (end.least, omega (arith, end.most, of_size.size_is));
    }
