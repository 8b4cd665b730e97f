-- The bounds by their sentences: a cost is one more than the greatest cost of those that may follow, and a peak the height
-- or the greatest peak of those that may follow.
use Rattle.std.proofs.Common.{map, ◌≡◌, ℕ, zero, suc, ◌+◌, ◌<◌, ◌≤◌, ◌==◌, max, ◌||◌, ◌⊎◌, inl, inr, Bool, true, false, Option}
use Rattle.std.proofs.Common.{Some, None, List, [], ◌∷◌, length, refl, ap, sym, ◌∙◌, subst, arith, zero-add}
use Rattle.std.specs.Prelude.{nat_lt, slice_get, slice_index, slice_index_or}
use Rattle.std.proofs.lemmas.Bool.{and_parts}
use Rattle.std.proofs.lemmas.Bool.Decides.{nat_tests}
use Rattle.filter_code.specs.declared.instruction.Instr.{Instr}
use Rattle.filter_code.specs.declared.instruction.Instr.TheVariants as instr
use Rattle.filter_code.specs.Table.{height_after, leads}
use Rattle.filter_verifier.specs.InStates.{leads_of}
use Rattle.filter_verifier.specs.Transfer.{leads_below, leads_to}
use Rattle.filter_verifier.specs.Bounds.{greatest_at, costs, cost, highest_at, peaks, peak, HasBounds, IsEnd}
use Rattle.filter_verifier.specs.Numbers.{greatest}

-- the greatest cost at some distances from an index, and the highest peak from a height there
abbrev pub greatest_cost : List Instr → ℕ → List ℕ → ℕ
greatest_cost instrs at [] = 0
greatest_cost instrs at (d ∷ offsets) = max (cost instrs (at + d)) (greatest_cost instrs at offsets)

abbrev pub highest_peak : List Instr → ℕ → List ℕ → ℕ → ℕ
highest_peak instrs at [] height = 0
highest_peak instrs at (d ∷ offsets) height = max (peak instrs (at + d) height) (highest_peak instrs at offsets height)

-- all of them lead on
abbrev pub LeadOn : List ℕ → Type 0
LeadOn [] = Unit {0}
LeadOn (d ∷ offsets) = (0 < d) × LeadOn offsets

pub leads_on : (i : Instr) → LeadOn (leads i)
leads_on (instr.Jump k) = (omega arith, tt)
leads_on (instr.JumpIfNot k) = (omega arith, (omega arith, tt))
leads_on instr.Accept = tt
leads_on instr.Reject = tt
leads_on _ = (omega arith, tt)

either_led : (here target : ℕ) (more : Bool) → ((here == target) || more) ≡ true → (here ≡ target) ⊎ (more ≡ true)
either_led here target true e = inr refl
either_led here target false e = inl (grind (arith, nat_tests))

-- the first of some distances leads to an index, or a later one
pub led_here_or_later : (at target d : ℕ) (offsets : List ℕ) → leads_to at target (d ∷ offsets) ≡ true →
    (at + d ≡ target) ⊎ (leads_to at target offsets ≡ true)
led_here_or_later at target d offsets led = either_led (at + d) target (leads_to at target offsets) led

-- sums on the left
suc_plus : (at d : ℕ) → suc at + d ≡ suc (at + d)
suc_plus at d = omega arith

-- from the first instruction
cost_ahead : (own : ℕ) (later : List ℕ) (d : ℕ) → 0 < d → slice_index (0 ∷ later) d ≡ slice_index (own ∷ later) (0 + d)
cost_ahead own later zero h = absurd (omega arith)
cost_ahead own later (suc d) h = ap (λ k. slice_index (own ∷ later) k) (sym (zero-add (suc d)))

greatest_ahead : (i : Instr) (instrs : List Instr) (offsets : List ℕ) → LeadOn offsets →
    greatest_at (costs instrs) offsets ≡ greatest_cost (i ∷ instrs) 0 offsets
greatest_ahead i instrs [] on = refl
greatest_ahead i instrs (d ∷ offsets) on =
    cc (cost_ahead (1 + greatest_at (costs instrs) (leads i)) (costs instrs) d on.0, greatest_ahead i instrs offsets on.1)

greatest_behind : (i : Instr) (instrs : List Instr) (at : ℕ) (offsets : List ℕ) →
    greatest_cost (i ∷ instrs) (suc at) offsets ≡ greatest_cost instrs at offsets
greatest_behind i instrs at [] = refl
greatest_behind i instrs at (d ∷ offsets) =
    let here : cost (i ∷ instrs) (suc at + d) ≡ cost instrs (at + d) = ap (λ k. cost (i ∷ instrs) k) (suc_plus at d) in
    cc (here, greatest_behind i instrs at offsets)

-- the cost of an index is one more than the greatest cost of those that may follow
pub cost_is : (instrs : List Instr) (at : ℕ) (i : Instr) → slice_get instrs at ≡ Some i →
    cost instrs at ≡ 1 + greatest_cost instrs at (leads i)
cost_is [] at i e = cc
cost_is (j ∷ instrs) zero i e =
    let same : j ≡ i = cc in
    subst (λ x. cost (j ∷ instrs) zero ≡ 1 + greatest_cost (j ∷ instrs) zero (leads x)) same
    (ap (λ n. 1 + n) (greatest_ahead j instrs (leads j) (leads_on j)))
cost_is (j ∷ instrs) (suc at) i e = cost_is instrs at i e ∙ ap (λ n. 1 + n) (sym (greatest_behind j instrs at (leads i)))

-- and none outside
pub cost_outside : (instrs : List Instr) (at : ℕ) → length instrs ≤ at → cost instrs at ≡ 0
cost_outside [] at h = refl
cost_outside (i ∷ instrs) zero h = absurd (omega arith)
cost_outside (i ∷ instrs) (suc at) h = cost_outside instrs at (omega arith)

greatest_has : (instrs : List Instr) (at target : ℕ) (offsets : List ℕ) → leads_to at target offsets ≡ true →
    cost instrs target ≤ greatest_cost instrs at offsets
greatest_has instrs at target [] led = cc
greatest_has instrs at target (d ∷ offsets) led =
    elim (led_here_or_later at target d offsets led) [
      | inl here ↦ subst (λ k. cost instrs k ≤ max (cost instrs (at + d)) (greatest_cost instrs at offsets)) here (omega arith)
      | inr more ↦ let h = greatest_has instrs at target offsets more in omega arith
    ]

-- with each step the cost falls
pub cost_falls : (instrs : List Instr) (at target : ℕ) (found : Option Instr) → slice_get instrs at ≡ found →
    leads_to at target (leads_of found) ≡ true → cost instrs target < cost instrs at
cost_falls instrs at target None e led = cc
cost_falls instrs at target (Some i) e led =
    let is = cost_is instrs at i e in
    let has = greatest_has instrs at target (leads i) led in
    omega arith

-- the peaks, likewise
peak_ahead : (own : ℕ → ℕ) (later : List (ℕ → ℕ)) (d height : ℕ) → 0 < d →
    slice_index_or ((λ h. h) ∷ later) d (λ h. h) height ≡ slice_index_or (own ∷ later) (0 + d) (λ h. h) height
peak_ahead own later zero height h = absurd (omega arith)
peak_ahead own later (suc d) height h = ap (λ k. slice_index_or (own ∷ later) k (λ x. x) height) (sym (zero-add (suc d)))

highest_ahead : (i : Instr) (instrs : List Instr) (offsets : List ℕ) (height : ℕ) → LeadOn offsets →
    highest_at (peaks instrs) offsets height ≡ highest_peak (i ∷ instrs) 0 offsets height
highest_ahead i instrs [] height on = refl
highest_ahead i instrs (d ∷ offsets) height on =
    let here : slice_index_or ((λ h. h) ∷ peaks instrs) d (λ h. h) height ≡ peak (i ∷ instrs) (0 + d) height =
    peak_ahead (λ h. max h (highest_at (peaks instrs) (leads i) (height_after i h))) (peaks instrs) d height on.0 in
    cc (here, highest_ahead i instrs offsets height on.1)

highest_behind : (i : Instr) (instrs : List Instr) (at : ℕ) (offsets : List ℕ) (height : ℕ) →
    highest_peak (i ∷ instrs) (suc at) offsets height ≡ highest_peak instrs at offsets height
highest_behind i instrs at [] height = refl
highest_behind i instrs at (d ∷ offsets) height =
    let here : peak (i ∷ instrs) (suc at + d) height ≡ peak instrs (at + d) height = ap (λ k. peak (i ∷ instrs) k height) (suc_plus at d) in
    cc (here, highest_behind i instrs at offsets height)

-- the peak of an index is the height there, or the highest peak of those that may follow
pub peak_is : (instrs : List Instr) (at : ℕ) (i : Instr) (height : ℕ) → slice_get instrs at ≡ Some i →
    peak instrs at height ≡ max height (highest_peak instrs at (leads i) (height_after i height))
peak_is [] at i height e = cc
peak_is (j ∷ instrs) zero i height e =
    let same : j ≡ i = cc in
    subst (λ x. peak (j ∷ instrs) zero height ≡ max height (highest_peak (j ∷ instrs) zero (leads x) (height_after x height))) same
    (ap (λ n. max height n) (highest_ahead j instrs (leads j) (height_after j height) (leads_on j)))
peak_is (j ∷ instrs) (suc at) i height e =
    peak_is instrs at i height e ∙ ap (λ n. max height n) (sym (highest_behind j instrs at (leads i) (height_after i height)))

-- and the height outside
pub peak_outside : (instrs : List Instr) (at height : ℕ) → length instrs ≤ at → peak instrs at height ≡ height
peak_outside [] at height h = refl
peak_outside (i ∷ instrs) zero height h = absurd (omega arith)
peak_outside (i ∷ instrs) (suc at) height h = peak_outside instrs at height (omega arith)

pub highest_has : (instrs : List Instr) (at target : ℕ) (offsets : List ℕ) (height : ℕ) → leads_to at target offsets ≡ true →
    peak instrs target height ≤ highest_peak instrs at offsets height
highest_has instrs at target [] height led = cc
highest_has instrs at target (d ∷ offsets) height led =
    elim (led_here_or_later at target d offsets led) [
      | inl here ↦ subst (λ k. peak instrs k height ≤ max (peak instrs (at + d) height) (highest_peak instrs at offsets height)) here
          (omega arith)
      | inr more ↦ let h = highest_has instrs at target offsets height more in omega arith
    ]

-- the height after an instruction, if there is one
abbrev pub height_behind : Option Instr → ℕ → ℕ
height_behind None height = height
height_behind (Some i) height = height_after i height

-- with each step the peak does not rise
pub peak_falls : (instrs : List Instr) (at target height : ℕ) (found : Option Instr) → slice_get instrs at ≡ found →
    leads_to at target (leads_of found) ≡ true → peak instrs target (height_behind found height) ≤ peak instrs at height
peak_falls instrs at target height None e led = cc
peak_falls instrs at target height (Some i) e led =
    let is = peak_is instrs at i height e in
    let has = highest_has instrs at target (leads i) (height_after i height) led in
    omega arith

-- there is no instruction past the end
pub none_past : (instrs : List Instr) (at : ℕ) → slice_get instrs at ≡ None → length instrs ≤ at
none_past [] at e = omega arith
none_past (i ∷ instrs) zero e = cc
none_past (i ∷ instrs) (suc at) e = let h = none_past instrs at e in omega arith

-- the peak is at least the height
pub peak_least : (instrs : List Instr) (at height : ℕ) (found : Option Instr) → slice_get instrs at ≡ found →
    height ≤ peak instrs at height
peak_least instrs at height None e =
    let outside = peak_outside instrs at height (none_past instrs at e) in omega arith
peak_least instrs at height (Some i) e = let is = peak_is instrs at i height e in omega arith

-- where all distances lead below a limit, each index that they lead to is below it
pub led_below : (at limit target : ℕ) (offsets : List ℕ) → leads_below at limit offsets ≡ true →
    leads_to at target offsets ≡ true → target < limit
led_below at limit target [] below led = cc
led_below at limit target (d ∷ offsets) below led =
    let parts = and_parts (nat_lt (at + d) limit) (leads_below at limit offsets) below in
    let near : nat_lt (at + d) limit ≡ true = parts.0 in
    elim (led_here_or_later at target d offsets led) [
      | inl here ↦ grind (arith, nat_tests)
      | inr more ↦ led_below at limit target offsets parts.1 more
    ]

-- instructions that lead on lead to later ones
pub led_later : (at target : ℕ) (offsets : List ℕ) → LeadOn offsets → leads_to at target offsets ≡ true → at < target
led_later at target [] on led = cc
led_later at target (d ∷ offsets) on led =
    let positive : 0 < d = on.0 in
    elim (led_here_or_later at target d offsets led) [
      | inl here ↦ omega arith
      | inr more ↦ led_later at target offsets on.1 more
    ]

-- the same by the indices of the successors
greatest_by : (instrs : List Instr) (at : ℕ) (offsets : List ℕ) →
    greatest_cost instrs at offsets ≡ greatest (map (cost instrs) (map (λ offset. at + offset) offsets))
greatest_by instrs at [] = refl
greatest_by instrs at (d ∷ offsets) = ap (λ (n : ℕ). max (cost instrs (at + d)) n) (greatest_by instrs at offsets)

highest_by : (instrs : List Instr) (at height : ℕ) (offsets : List ℕ) → highest_peak instrs at offsets height
    ≡ greatest (map (λ target. peak instrs target height) (map (λ offset. at + offset) offsets))
highest_by instrs at height [] = refl
highest_by instrs at height (d ∷ offsets) = ap (λ (n : ℕ). max (peak instrs (at + d) height) n) (highest_by instrs at height offsets)

cost_at_end : (instrs : List Instr) (pc : ℕ) (found : Option Instr) → slice_get instrs pc ≡ found → IsEnd found → cost instrs pc ≡ 1
cost_at_end instrs pc None e h = absurd h
cost_at_end instrs pc (Some instr.Accept) e h = cost_is instrs pc instr.Accept e
cost_at_end instrs pc (Some instr.Reject) e h = cost_is instrs pc instr.Reject e
cost_at_end instrs pc (Some i) e h = absurd h

peak_at_end : (instrs : List Instr) (pc height : ℕ) (found : Option Instr) → slice_get instrs pc ≡ found → IsEnd found →
    peak instrs pc height ≡ height
peak_at_end instrs pc height None e h = absurd h
peak_at_end instrs pc height (Some instr.Accept) e h = let is = peak_is instrs pc instr.Accept height e in omega arith
peak_at_end instrs pc height (Some instr.Reject) e h = let is = peak_is instrs pc instr.Reject height e in omega arith
peak_at_end instrs pc height (Some i) e h = absurd h

pub has_bounds : (instrs : List Instr) (pc : ℕ) → HasBounds instrs pc
has_bounds instrs pc = record {
  cost_outside = λ h. cost_outside instrs pc h;
  cost_at_end = λ h. cost_at_end instrs pc (slice_get instrs pc) refl h;
  cost_is = λ i e. cost_is instrs pc i e ∙ ap (λ (n : ℕ). 1 + n) (greatest_by instrs pc (leads i));
  peak_outside = λ height h. peak_outside instrs pc height h;
  peak_at_end = λ height h. peak_at_end instrs pc height (slice_get instrs pc) refl h;
  peak_is = λ height i e. peak_is instrs pc i height e
      ∙ ap (λ (n : ℕ). max height n) (highest_by instrs pc (height_after i height) (leads i));
}
