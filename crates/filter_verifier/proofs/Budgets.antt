-- The costs of instructions, from the last one back.
use Rattle.std.proofs.Common.{◌≡◌, ℕ, zero, suc, ◌+◌, ◌-◌, ◌≤◌, ◌<◌, List, [], ◌∷◌, length, take, drop, get_or, sym, ◌∙◌, ap}
use Rattle.std.proofs.Common.{subst, arith, add-one, length-drop}
use Rattle.std.proofs.Math.Seq.{take-length, drop-cons}
use Rattle.std.specs.Prelude.{slice_index}
use Rattle.filter_code.specs.declared.instruction.Instr.{Instr}
use Rattle.filter_code.specs.Table.{leads}
use Rattle.filter_verifier.specs.Bounds.{greatest_at, costs}

-- no cost is above the number of instructions
greatest_below : (later : List ℕ) (offsets : List ℕ) (limit : ℕ) → ((k : ℕ) → slice_index later k ≤ limit) →
    greatest_at later offsets ≤ limit
greatest_below later [] limit below = omega arith
greatest_below later (zero ∷ offsets) limit below = let rest = greatest_below later offsets limit below in omega arith
greatest_below later (suc d ∷ offsets) limit below = let rest = greatest_below later offsets limit below in omega (arith, below d)

pub costs_below : (instrs : List Instr) (k : ℕ) → slice_index (costs instrs) k ≤ length instrs
costs_below [] k = omega arith
costs_below (i ∷ instrs) zero = let rest = greatest_below (costs instrs) (leads i) (length instrs) (costs_below instrs) in omega arith
costs_below (i ∷ instrs) (suc k) = let rest = costs_below instrs k in omega arith

pub greatest_is_below : (instrs : List Instr) (offsets : List ℕ) → greatest_at (costs instrs) offsets ≤ length instrs
greatest_is_below instrs offsets = greatest_below (costs instrs) offsets (length instrs) (costs_below instrs)

-- the costs after a place, as a slice
sliced : (all : List ℕ) (instrs : List Instr) (at from : ℕ) → from ≡ at → drop at all ≡ costs (drop at instrs) →
    take (length all - from) (drop from all) ≡ costs (drop at instrs)
sliced all instrs at from same known =
    let P : ℕ → Type 0 = λ k. take (length all - k) (drop k all) ≡ costs (drop at instrs) in
    let whole : take (length all - at) (drop at all) ≡ drop at all = rw (← length-drop at all) (take-length (drop at all)) in
    subst P (sym same) (whole ∙ known)

-- the costs after a place are at most the number of instructions
pub sliced_below : (all : List ℕ) (instrs : List Instr) (at from : ℕ) (offsets : List ℕ) → from ≡ at →
    drop at all ≡ costs (drop at instrs) → greatest_at (take (length all - from) (drop from all)) offsets ≤ length instrs
sliced_below all instrs at from offsets same known =
    let small : greatest_at (costs (drop at instrs)) offsets ≤ length (drop at instrs) = greatest_is_below (drop at instrs) offsets in
    let P : List ℕ → Type 0 = λ xs. greatest_at xs offsets ≤ length instrs in
    subst P (sym (sliced all instrs at from same known)) (omega (arith, small, length-drop at instrs))

-- the cost at a place, from those after it
pub costs_at : (all : List ℕ) (instrs : List Instr) (at from : ℕ) (i : Instr) (offsets : List ℕ) → from ≡ at + 1 →
    at < length instrs → i ≡ get_or instrs at i → offsets ≡ leads i →
    drop (at + 1) all ≡ costs (drop (at + 1) instrs) →
    (1 + greatest_at (take (length all - from) (drop from all)) offsets) ∷ drop (at + 1) all ≡ costs (drop at instrs)
costs_at all instrs at from i offsets same inside is ways known =
    let split : drop at instrs ≡ i ∷ drop (at + 1) instrs = drop-cons instrs at i inside
    ∙ (ap (λ (x : Instr). x ∷ drop (suc at) instrs) (sym is) ∙ ap (λ (k : ℕ). i ∷ drop k instrs) (sym (add-one at))) in
    let later = sliced all instrs (at + 1) from same known in
    let head : (1 + greatest_at (take (length all - from) (drop from all)) offsets)
    ≡ 1 + greatest_at (costs (drop (at + 1) instrs)) (leads i) =
    ap (λ (xs : List ℕ). 1 + greatest_at xs offsets) later
    ∙ ap (λ (ds : List ℕ). 1 + greatest_at (costs (drop (at + 1) instrs)) ds) ways in
    ap (λ (n : ℕ). n ∷ drop (at + 1) all) head
    ∙ (ap (λ (xs : List ℕ). (1 + greatest_at (costs (drop (at + 1) instrs)) (leads i)) ∷ xs) known
    ∙ sym (ap costs split))
