-- Marks of a search under way.
use Rattle.std.specs.Prelude.{◌≡◌, ◌⊎◌, ℕ, Bool, true, false, not, ◌||◌, nat_lt, Option, Some, List, length, slice_get, slice_set}
use Rattle.filter_code.specs.declared.instruction.Instr.{Instr}
use Rattle.filter_code.specs.declared.instruction.Instr.TheVariants as instr
use Rattle.filter_code.specs.declared.value.Value.{Value}
use Rattle.filter_code.specs.declared.value.Value.TheVariants as value
use Rattle.filter_code.specs.CodeView.{CodeView}
use Rattle.filter_code.specs.Machine.{Config, Going, after}
use Rattle.filter_code.specs.RouteView.{RouteView}
use Rattle.filter_diff.specs.Classes.{Always}
use Rattle.filter_diff.specs.Reaching.{AreOnTop, IsCondition, IsMax, IsOnTop, IsSound, has_truth}
use Rattle.filter_diff.specs.declared.class.Class.{Class}
use Rattle.filter_diff.specs.declared.mark.Mark.{Mark}
use Rattle.filter_diff.specs.declared.extent.Extent.{Extent}
use Rattle.filter_diff.specs.declared.extent.Extent.TheVariants as extent
use Rattle.filter_diff.specs.declared.symbol.SymbolicValue.{SymbolicValue}
use Rattle.filter_diff.specs.declared.symbol.SymbolicValue.TheVariants as symbol
use Rattle.filter_diff.specs.declared.turn.Turn.{Turn}
use Rattle.filter_diff.specs.declared.turn.Turn.TheVariants as turn

-- nothing is marked
abbrev pub unmarked : Bool → Mark
unmarked is_watched =
    record { is_reached = false; is_true = false; is_false = false; is_raised = false; is_watched = is_watched }

-- what is shown by a condition, and by another instruction
abbrev pub shown_truth : Bool → Mark
shown_truth truth =
    record { is_reached = true; is_true = truth; is_false = not truth; is_raised = false; is_watched = false }

abbrev pub shown_raise : Bool → Mark
shown_raise is_raised =
    record { is_reached = true; is_true = false; is_false = false; is_raised = is_raised; is_watched = false }

-- what is marked in one of two; it is watched if the first one is
abbrev pub joined : Mark → Mark → Mark
joined a b = record {
  is_reached = a.is_reached || b.is_reached;
  is_true = a.is_true || b.is_true;
  is_false = a.is_false || b.is_false;
  is_raised = a.is_raised || b.is_raised;
  is_watched = a.is_watched;
}

-- an instruction is a JUMPIFNOT
abbrev pub IsJump : Instr → Type 0
IsJump i = (skipped : ℕ) × (i ≡ instr.JumpIfNot skipped)

-- a symbol is on top, and it is this bool
abbrev pub IsTop : Bool → List SymbolicValue → Type 0
IsTop truth stack = slice_get stack 0 ≡ Some (symbol.Bool truth)

-- two symbols are on top that are ints, and whether the upper one is greater
abbrev pub AreTop : Bool → List SymbolicValue → Type 0
AreTop raised stack = (upper lower : ℕ) × (slice_get stack 0 ≡ Some (symbol.Int upper)) × (slice_get stack 1 ≡ Some (symbol.Int lower))
    × (raised ≡ nat_lt lower upper)

-- a mark is just what runs show of an instruction that they come to with this stack
pub record Shows (i : Instr) (stack : List SymbolicValue) (mark : Mark) : Type 0 where
  pub reached : mark.is_reached ≡ true
  pub condition : (skipped : ℕ) → i ≡ instr.JumpIfNot skipped → (truth : Bool) × IsTop truth stack × (has_truth truth mark ≡ true)
  pub real : (truth : Bool) → has_truth truth mark ≡ true → IsJump i × IsTop truth stack
  pub raised : i ≡ instr.Max → AreTop mark.is_raised stack
  pub really_raised : mark.is_raised ≡ true → (i ≡ instr.Max) × AreTop true stack

-- the same of the configuration in which a run comes to it
pub record ShowsAt (i : Instr) (c : Config) (mark : Mark) : Type 0 where
  pub reached : mark.is_reached ≡ true
  pub condition : (skipped : ℕ) → i ≡ instr.JumpIfNot skipped → (truth : Bool) × IsOnTop truth c × (has_truth truth mark ≡ true)
  pub real : (truth : Bool) → has_truth truth mark ≡ true → IsJump i × IsOnTop truth c
  pub raised : i ≡ instr.Max → AreOnTop mark.is_raised c
  pub really_raised : mark.is_raised ≡ true → (i ≡ instr.Max) × AreOnTop true c

-- a value is no bool, and two are not both ints
abbrev pub IsNoBool : Option Value → Type 0
IsNoBool top = (truth : Bool) → top ≡ Some (value.Bool truth) → ⊥

abbrev pub AreNoInts : Option Value → Option Value → Type 0
AreNoInts top below = (upper lower : ℕ) → top ≡ Some (value.Int upper) → below ≡ Some (value.Int lower) → ⊥

-- two values are ints, and whether the upper one is greater
pub record AreInts (top below : Option Value) (raised : Bool) : Type 0 where
  pub upper : ℕ
  pub lower : ℕ
  pub top_is : top ≡ Some (value.Int upper)
  pub below_is : below ≡ Some (value.Int lower)
  pub raised_is : raised ≡ nat_lt lower upper

-- a JUMPIFNOT has no bool on top, or a MAX no two ints
abbrev pub IsUnseen : Instr → Option Value → Option Value → Type 0
IsUnseen i top below = (IsJump i × IsNoBool top) ⊎ ((i ≡ instr.Max) × AreNoInts top below)

-- all is marked that can be of an instruction, or is asked of it
pub record IsFull (i : Instr) (mark : Mark) : Type 0 where
  pub reached : mark.is_reached ≡ true
  pub condition : (skipped : ℕ) → i ≡ instr.JumpIfNot skipped → (truth : Bool) → has_truth truth mark ≡ true
  pub raised : i ≡ instr.Max → mark.is_watched ≡ true → mark.is_raised ≡ true

-- a mark is added to that of a place
pub record IsAdded (mark : Mark) (place : ℕ) (before after : List Mark) : Type 0 where
  pub had : Mark
  pub there : slice_get before place ≡ Some had
  pub set : after ≡ slice_set before place (joined had mark)

-- what runs show of an instruction is added to the mark of its place, or nothing is
abbrev pub IsNoted : Instr → ℕ → List SymbolicValue → List SymbolicValue → List Mark → List Mark → Bool → Type 0
IsNoted i place stack same before after true = (mark : Mark) × (same ≡ stack) × Shows i stack mark × IsAdded mark place before after
IsNoted i place stack same before after false = after ≡ before

-- what a run shows of the instruction that it comes to is added to the mark of its place, or it has not the operands of the instruction
abbrev pub IsSeen : Instr → Config → List Mark → List Mark → Bool → Type 0
IsSeen i c before after true = (mark : Mark) × ShowsAt i c mark × IsAdded mark c.pc before after
IsSeen i c before after false = (after ≡ before) × IsUnseen i (slice_get c.frame.stack 0) (slice_get c.frame.stack 1)

-- a mark has what another has, and as much is asked
pub record Extends (a b : Mark) : Type 0 where
  pub reached : a.is_reached ≡ true → b.is_reached ≡ true
  pub condition : (truth : Bool) → has_truth truth a ≡ true → has_truth truth b ≡ true
  pub raised : a.is_raised ≡ true → b.is_raised ≡ true
  pub watched : b.is_watched ≡ a.is_watched

-- and so it is at each place
pub record Extend (before after : List Mark) : Type 0 where
  pub long : length after ≡ length before
  pub each : (place : ℕ) (mark : Mark) → slice_get before place ≡ Some mark →
      (more : Mark) × (slice_get after place ≡ Some more) × Extends mark more

-- how far runs are marked that a turn does not let go on
abbrev pub extent_of : Turn → Extent
extent_of (turn.Ended end) = extent.Whole
extent_of turn.AsksMetric = extent.AsksMetric
extent_of _ = extent.AsksBits

-- What a configuration shows is marked: its place; its condition, which has the other truth where one is not marked; and that a MAX
-- raises what is below, if that is asked.
pub record IsMarked (program : CodeView) (marks : List Mark) (c : Config) : Type 0 where
  pub mark : Mark
  pub there : slice_get marks c.pc ≡ Some mark
  pub reached : mark.is_reached ≡ true
  pub condition : IsCondition program c.pc → (truth : Bool) → has_truth truth mark ≡ false → IsOnTop (not truth) c
  pub raised : IsMax program c.pc → mark.is_watched ≡ true → mark.is_raised ≡ false → AreOnTop false c

-- so is all that the run on a route comes to
abbrev pub AreAllMarked : CodeView → List Mark → RouteView → Type 0
AreAllMarked program marks route = (steps : ℕ) (c : Config) → after program route steps ≡ Going c → IsMarked program marks c

-- and all that the runs on the routes of a class come to
abbrev pub AreMarked : CodeView → Class → List Mark → Extent → Type 0
AreMarked program class marks extent.Whole = Always class (λ route. AreAllMarked program marks route)
AreMarked program class marks _ = Unit {0}

-- all that is marked is so on some route
abbrev pub AreSound : CodeView → ℕ → List Mark → Type 0
AreSound program size marks = (place : ℕ) (mark : Mark) → slice_get marks place ≡ Some mark → IsSound program size place mark
