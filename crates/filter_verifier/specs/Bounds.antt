-- The most instructions and the most operands on any path through a code. Both follow the text: a conditional jump has
-- both successors, whatever is known of the condition. (This project's own choice.)
use Rattle.std.specs.Prelude.{◌≡◌, ℕ, ◌+◌, ◌≤◌, max, Option, Some, List, [], ◌∷◌, length, map, slice_get, slice_index, slice_index_or}
use Rattle.filter_code.specs.declared.instruction.Instr.{Instr}
use Rattle.filter_code.specs.declared.instruction.Instr.TheVariants as instr
use Rattle.filter_code.specs.Table.{height_after, leads}
use Rattle.filter_verifier.specs.Numbers.{greatest}

-- the greatest cost at some offsets, from the costs of the next instructions in order; 0 outside the code
abbrev pub greatest_at : List ℕ → List ℕ → ℕ
greatest_at costs [] = 0
greatest_at costs (d ∷ offsets) = max (slice_index (0 ∷ costs) d) (greatest_at costs offsets)

-- the cost of each instruction: one more than the greatest cost of its successors
abbrev pub costs : List Instr → List ℕ
costs [] = []
costs (i ∷ instrs) = (1 + greatest_at (costs instrs) (leads i)) ∷ costs instrs

-- the most instructions on any path from a place to ACCEPT or REJECT, both included; 0 outside the code
abbrev pub cost : List Instr → ℕ → ℕ
cost instrs pc = slice_index (costs instrs) pc

-- the greatest peak at some offsets, from the peaks of the next instructions in order; outside the code it is the height
abbrev pub highest_at : List (ℕ → ℕ) → List ℕ → ℕ → ℕ
highest_at peaks [] height = 0
highest_at peaks (d ∷ offsets) height =
    max (slice_index_or ((λ h. h) ∷ peaks) d (λ h. h) height) (highest_at peaks offsets height)

-- the peak of each instruction, by the height before it: that height, or the greatest peak of its successors
abbrev pub peaks : List Instr → List (ℕ → ℕ)
peaks [] = []
peaks (i ∷ instrs) = (λ height. max height (highest_at (peaks instrs) (leads i) (height_after i height))) ∷ peaks instrs

-- the most operands on any path from a place, by the height there
abbrev pub peak : List Instr → ℕ → ℕ → ℕ
peak instrs pc height = slice_index_or (peaks instrs) pc (λ h. h) height

-- the indices of the successors of an instruction at an index
abbrev pub successors : Instr → ℕ → List ℕ
successors i pc = map (λ offset. pc + offset) (leads i)

-- the instruction ends the run
abbrev pub IsEnd : Option Instr → Type 0
IsEnd (Some instr.Accept) = Unit {0}
IsEnd (Some instr.Reject) = Unit {0}
IsEnd _ = ⊥

-- The equations of the cost and of the peak at an index: outside the code 0 and the height; at ACCEPT and REJECT, which have no
-- successor, 1 and the height; elsewhere by the successors.
pub record HasBounds (instrs : List Instr) (pc : ℕ) : Type 0 where
  pub cost_outside : length instrs ≤ pc → cost instrs pc ≡ 0
  pub cost_at_end : IsEnd (slice_get instrs pc) → cost instrs pc ≡ 1
  pub cost_is : (i : Instr) → slice_get instrs pc ≡ Some i → cost instrs pc ≡ 1 + greatest (map (cost instrs) (successors i pc))
  pub peak_outside : (height : ℕ) → length instrs ≤ pc → peak instrs pc height ≡ height
  pub peak_at_end : (height : ℕ) → IsEnd (slice_get instrs pc) → peak instrs pc height ≡ height
  pub peak_is : (height : ℕ) → (i : Instr) → slice_get instrs pc ≡ Some i → peak instrs pc height
      ≡ max height (greatest (map (λ target. peak instrs target (height_after i height)) (successors i pc)))
