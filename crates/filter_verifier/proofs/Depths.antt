-- The greatest height at any index is the peak of the code, and no more than the stack holds.
use Rattle.std.proofs.Common.{◌≡◌, ℕ, zero, suc, ◌+◌, ◌<◌, ◌≤◌, ◌==◌, ◌||◌, inl, inr, max, Bool, true, false, Option, Some}
use Rattle.std.proofs.Common.{None, List, [], ◌∷◌, length, refl, ap, sym, subst, arith}
use Rattle.std.specs.Prelude.{slice_get}
use Rattle.std.proofs.lemmas.Bool.{cond_both}
use Rattle.std.proofs.lemmas.Bool.Decides.{nat_tests}
use Rattle.filter_code.specs.declared.instruction.Instr.{Instr}
use Rattle.filter_code.specs.CodeView.{CodeView}
use Rattle.filter_code.specs.Table.{height_after, leads}
use Rattle.filter_verifier.specs.FirstFault.{first_fault, refused_by, the_fault}
use Rattle.filter_verifier.specs.InStateView.{InStateView, Known, UnlikeDepths, Unreached}
use Rattle.filter_verifier.specs.InStates.{in_state, leads_of, out_state_at, propagated}
use Rattle.filter_verifier.specs.OutStateView.{OutStateView, Passed, Refused, Skipped}
use Rattle.filter_verifier.specs.PairwiseJoin.{join_two_states}
use Rattle.filter_verifier.specs.Sweep.{height_of, highest, joined_below}
use Rattle.filter_verifier.specs.Transfer.{leads_to, out_state}
use Rattle.filter_verifier.specs.Bounds.{peak}
use Rattle.filter_verifier.proofs.Propagation.{below_or_at, arrives_at}
use Rattle.filter_verifier.proofs.Costs.{highest_peak, height_behind, none_past, peak_is, peak_falls, peak_least, led_below, led_later}
use Rattle.filter_verifier.proofs.Heights.{IsHigh, HandsOn, Passes, passes_on}
use Rattle.filter_verifier.proofs.JoinedPlaces.{length_joined}
use Rattle.filter_verifier.proofs.Joins.{HasHeight, height_left, height_right}
use Rattle.filter_verifier.proofs.Sound.{none_refused, lead_on_from, faultless}
use Rattle.filter_verifier.specs.Sweep.{as_in_state, entry_state}
use Rattle.filter_verifier.specs.AbstractFrameView.{AbstractFrameView}
use Rattle.filter_verifier.proofs.Propagation.{joined_at_entry, joined_next}
use Rattle.filter_code.specs.Limits.{stack_limit}

-- from the in-state of an index the stack gets no deeper than from the first instruction, and it fits
pub record IsLow (instrs : List Instr) (index height : ℕ) : Type 0 where
  pub peak : peak instrs index height ≤ peak instrs 0 0
  pub fits : height ≤ stack_limit

abbrev ArrivesLow : List Instr → ℕ → InStateView → Type 0
ArrivesLow instrs index (Known frame) = IsLow instrs index (length frame.stack)
ArrivesLow instrs index _ = Unit {0}

low_met : (instrs : List Instr) (index : ℕ) (a b : InStateView) → ArrivesLow instrs index a → ArrivesLow instrs index b →
    ArrivesLow instrs index (join_two_states a b)
low_met instrs index Unreached b p q = q
low_met instrs index UnlikeDepths b p q = tt
low_met instrs index (Known frame) Unreached p q = p
low_met instrs index (Known frame) UnlikeDepths p q = tt
low_met instrs index (Known frame) (Known other) p q =
    cond_both (length frame.stack == length other.stack) _ _ (ArrivesLow instrs index)
    (λ e. subst (λ n. IsLow instrs index n) (sym (length_joined frame.stack other.stack)) p) (λ e. tt)

-- from an index that is low to one where the text leads
low_next : (instrs : List Instr) (at target height : ℕ) (next : AbstractFrameView) →
    HandsOn (length instrs) at height (slice_get instrs at) next → IsLow instrs at height →
    leads_to at target (leads_of (slice_get instrs at)) ≡ true → ArrivesLow instrs target (Known next)
low_next instrs at target height next h low led =
    let high : length next.stack ≡ height_behind (slice_get instrs at) height = h.high in
    let falls = peak_falls instrs at target height (slice_get instrs at) refl led in
    subst (λ n. IsLow instrs target n) (sym high) (record { peak = omega (arith, low.peak); fits = h.fits low.fits })

low_handed : (program : CodeView) (at target height : ℕ) (v : OutStateView) →
    Passes (length program.instrs) at height (slice_get program.instrs at) v → IsLow program.instrs at height →
    ArrivesLow program.instrs target (as_in_state (propagated program at v target))
low_handed program at target height Skipped h low = tt
low_handed program at target height (Refused why) h low = tt
low_handed program at target height (Passed next) h low =
    cond_both (leads_to at target (leads_of (slice_get program.instrs at))) (Some next) None
    (λ o. ArrivesLow program.instrs target (as_in_state o))
    (λ led. low_next program.instrs at target height next h low led) (λ e. tt)

low_visited : (program : CodeView) (size at target : ℕ) (a : InStateView) → ArrivesLow program.instrs at a →
    ArrivesLow program.instrs target (as_in_state (propagated program at (out_state program size at a) target))
low_visited program size at target Unreached low = tt
low_visited program size at target UnlikeDepths low = tt
low_visited program size at target (Known frame) low =
    low_handed program at target (length frame.stack) (out_state program size at (Known frame))
    (passes_on program size at (length frame.stack) frame refl) low

low_entry : (program : CodeView) (index : ℕ) → ArrivesLow program.instrs index (entry_state program index)
low_entry program zero = record { peak = omega arith; fits = omega arith }
low_entry program (suc index) = tt

low_arriving : (program : CodeView) (size n index : ℕ) → ArrivesLow program.instrs index (joined_below program size n index)
low_arriving program size zero index =
    subst (ArrivesLow program.instrs index) (sym (joined_at_entry program size index)) (low_entry program index)
low_arriving program size (suc n) index =
    subst (ArrivesLow program.instrs index) (sym (joined_next program size n index))
    (low_met program.instrs index (joined_below program size n index) (as_in_state (propagated program n (out_state_at program size n) index))
    (low_arriving program size n index)
    (low_visited program size n index (in_state program size n) (low_arriving program size n n)))

-- so each height is no more than the peak, and fits
height_low : (instrs : List Instr) (index : ℕ) (a : InStateView) → ArrivesLow instrs index a → height_of a ≤ peak instrs 0 0
height_low instrs index Unreached low = omega arith
height_low instrs index UnlikeDepths low = omega arith
height_low instrs index (Known frame) low =
    let least = peak_least instrs index (length frame.stack) (slice_get instrs index) refl in
    omega (arith, low.peak)

height_fits : (instrs : List Instr) (index : ℕ) (a : InStateView) → ArrivesLow instrs index a → height_of a ≤ stack_limit
height_fits instrs index Unreached low = omega arith
height_fits instrs index UnlikeDepths low = omega arith
height_fits instrs index (Known frame) low = low.fits

highest_low : (program : CodeView) (size n : ℕ) → highest program size n ≤ peak program.instrs 0 0
unfolding highest
highest_low program size zero = omega arith
highest_low program size (suc n) =
    let before = highest_low program size n in
    let here = height_low program.instrs n (in_state program size n) (low_arriving program size n n) in
    omega arith

highest_has : (program : CodeView) (size n k : ℕ) → k < n → height_of (in_state program size k) ≤ highest program size n
unfolding highest
highest_has program size zero k h = absurd (omega arith)
highest_has program size (suc n) k h =
    elim (below_or_at k n h) [
      | inl before ↦ let rest = highest_has program size n k before in omega arith
      | inr same ↦ subst (λ m. height_of (in_state program size m) ≤ max (highest program size n) (height_of (in_state program size n)))
          (sym same) (omega arith)
    ]

-- the first of some distances, and the others
leads_first : (n : ℕ) (more : Bool) → ((n == n) || more) ≡ true
leads_first n more = grind (arith, nat_tests)

leads_rest : (first more : Bool) → more ≡ true → (first || more) ≡ true
leads_rest true more e = refl
leads_rest false more e = e

-- a bound on the peaks at some distances
highest_within : (instrs : List Instr) (at height limit : ℕ) (offsets : List ℕ) →
    ((target : ℕ) → leads_to at target offsets ≡ true → peak instrs target height ≤ limit) →
    highest_peak instrs at offsets height ≤ limit
highest_within instrs at height limit [] each = omega arith
highest_within instrs at height limit (d ∷ offsets) each =
    let first = each (at + d) (leads_first (at + d) (leads_to at (at + d) offsets)) in
    let rest = highest_within instrs at height limit offsets
    (λ target led. each target (leads_rest (at + d == target) (leads_to at target offsets) led)) in
    omega arith

-- what is propagated has its height at each successor
pub height_next : (program : CodeView) (size at target height : ℕ) (next : AbstractFrameView) → out_state_at program size at ≡ Passed next →
    at < target → leads_to at target (leads_of (slice_get program.instrs at)) ≡ true → IsHigh height next →
    HasHeight height (in_state program size target)
height_next program size at target height next passed later led h =
    arrives_at program size (HasHeight height) (height_left height)
    (λ a b w v p. height_right height a b p) at target next passed later led h

-- from an index whose stack has a height, the peak is at most any bound on all heights
module _ (program : CodeView) (size limit : ℕ) (none : first_fault program size (length program.instrs) ≡ None)
    (each : (k : ℕ) → k < length program.instrs → height_of (in_state program size k) ≤ limit) where
  peak_found : (at height : ℕ) (found : Option Instr) → slice_get program.instrs at ≡ found → at < length program.instrs →
      height ≤ limit →
      ((target : ℕ) → leads_to at target (leads_of found) ≡ true → peak program.instrs target (height_behind found height) ≤ limit) →
      peak program.instrs at height ≤ limit
  peak_found at height None e inside low all = let past = none_past program.instrs at e in absurd (omega arith)
  peak_found at height (Some i) e inside low all =
      let is = peak_is program.instrs at i height e in
      let rest = highest_within program.instrs at (height_after i height) limit (leads i) all in
      omega arith

  peak_passed : (at height : ℕ) (v : OutStateView) → out_state_at program size at ≡ v → refused_by v ≡ None →
      Passes (length program.instrs) at height (slice_get program.instrs at) v → at < length program.instrs → height ≤ limit →
      ((target height : ℕ) → at < target → target < length program.instrs → HasHeight height (in_state program size target) →
      peak program.instrs target height ≤ limit) →
      peak program.instrs at height ≤ limit
  peak_passed at height Skipped e q h inside low later = absurd h
  peak_passed at height (Refused why) e q h inside low later = absurd (cc)
  peak_passed at height (Passed next) e q h inside low later =
      peak_found at height (slice_get program.instrs at) refl inside low λ target led.
      let on : at < target = led_later at target (leads_of (slice_get program.instrs at))
      (lead_on_from (slice_get program.instrs at)) led in
      later target (height_behind (slice_get program.instrs at) height) on
      (led_below at (length program.instrs) target (leads_of (slice_get program.instrs at)) h.within led)
      (height_next program size at target (height_behind (slice_get program.instrs at) height) next e on led h.high)

  peak_arrived : (at height : ℕ) (a : InStateView) → in_state program size at ≡ a → refused_by (out_state program size at a) ≡ None →
      HasHeight height a → at < length program.instrs →
      ((target height : ℕ) → at < target → target < length program.instrs → HasHeight height (in_state program size target) →
      peak program.instrs target height ≤ limit) →
      peak program.instrs at height ≤ limit
  peak_arrived at height Unreached e q h inside later = absurd h
  peak_arrived at height UnlikeDepths e q h inside later = absurd (cc)
  peak_arrived at height (Known frame) e q h inside later =
      let low : length frame.stack ≤ limit = subst (λ a. height_of a ≤ limit) e (each at inside) in
      peak_passed at height (out_state program size at (Known frame)) (ap (out_state program size at) e) q
      (passes_on program size at height frame h) inside (subst (λ n. n ≤ limit) h low) later

  peak_within : (fuel at height : ℕ) → length program.instrs ≤ at + fuel → at < length program.instrs →
      HasHeight height (in_state program size at) → peak program.instrs at height ≤ limit
  peak_within zero at height enough inside h = absurd (omega arith)
  peak_within (suc fuel) at height enough inside h =
      peak_arrived at height (in_state program size at) refl (none_refused program size (length program.instrs) at none inside) h inside
      λ target next on within arrived. peak_within fuel target next (omega arith) within arrived

  peak_bounded : 0 < length program.instrs → peak program.instrs 0 0 ≤ limit
  peak_bounded some =
      peak_within (length program.instrs) 0 0 (omega arith) some (subst (HasHeight 0) (sym (joined_at_entry program size 0)) refl)

-- where nothing is unknown, the greatest height is the peak
pub depth_is : (program : CodeView) (size : ℕ) → the_fault program size ≡ None →
    highest program size (length program.instrs) ≡ peak program.instrs 0 0
depth_is program size e =
    let good = faultless program size e in
    let above = peak_bounded program size (highest program size (length program.instrs)) good.none
    (λ k inside. highest_has program size (length program.instrs) k inside) good.some in
    let below = highest_low program size (length program.instrs) in
    omega arith

-- and no more than the stack holds
pub depth_limit : (program : CodeView) (size : ℕ) → the_fault program size ≡ None → peak program.instrs 0 0 ≤ stack_limit
depth_limit program size e =
    let good = faultless program size e in
    peak_bounded program size 32 good.none
    (λ k inside. height_fits program.instrs k (in_state program size k) (low_arriving program size k k)) good.some
