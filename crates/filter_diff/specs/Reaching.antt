-- Which instructions are reached, and with which conditions. (This project's own choice.)
use Rattle.std.specs.Prelude.{◌≡◌, ℕ, Bool, true, false, not, nat_lt, Some, List, length, slice_get}
use Rattle.filter_code.specs.declared.instruction.Instr.TheVariants as instr
use Rattle.filter_code.specs.declared.value.Value.TheVariants as value
use Rattle.filter_code.specs.CodeView.{CodeView}
use Rattle.filter_code.specs.Machine.{Config, Ended, Going, after}
use Rattle.filter_code.specs.declared.outcome.FaultKind.{FaultKind}
use Rattle.filter_code.specs.declared.outcome.Outcome.TheVariants as outcome
use Rattle.filter_code.specs.RouteView.{RouteView}
use Rattle.filter_diff.specs.Parts.{IsIn}
use Rattle.filter_diff.specs.declared.mark.Mark.{Mark}
use Rattle.filter_diff.specs.declared.mark.Reach.{Reach}

-- no step of the run on a route is a fault, and none on any route of the domain of a size
abbrev pub NeverFaultsOn : CodeView → RouteView → Type 0
NeverFaultsOn program route = (n : ℕ) (why : FaultKind) (at : ℕ) → after program route n ≡ Ended (outcome.Fault why at) → ⊥

abbrev pub NeverFaults : CodeView → ℕ → Type 0
NeverFaults program size = (route : RouteView) → IsIn size route → NeverFaultsOn program route

-- the run on a route of the domain of a size comes to a place, with this configuration
pub record Comes (program : CodeView) (size place : ℕ) (c : Config) : Type 0 where
  pub route : RouteView
  pub is_in : IsIn size route
  pub steps : ℕ
  pub going : after program route steps ≡ Going c
  pub here : c.pc ≡ place

-- the run on no route comes to a place
abbrev pub IsNeverReached : CodeView → ℕ → ℕ → Type 0
IsNeverReached program size place = (c : Config) → Comes program size place c → ⊥

-- the instruction at a place is a JUMPIFNOT
pub record IsCondition (program : CodeView) (place : ℕ) : Type 0 where
  pub skipped : ℕ
  pub instruction : slice_get program.instrs place ≡ Some (instr.JumpIfNot skipped)

-- a configuration has a condition on top of the stack, and this is its truth
abbrev pub IsOnTop : Bool → Config → Type 0
IsOnTop truth c = slice_get c.frame.stack 0 ≡ Some (value.Bool truth)

-- the instruction at a place is a MAX
abbrev pub IsMax : CodeView → ℕ → Type 0
IsMax program place = slice_get program.instrs place ≡ Some instr.Max

-- a configuration has two ints on top of the stack, and the upper one is greater, or not
abbrev pub AreOnTop : Bool → Config → Type 0
AreOnTop raised c = (upper lower : ℕ) × (slice_get c.frame.stack 0 ≡ Some (value.Int upper))
    × (slice_get c.frame.stack 1 ≡ Some (value.Int lower)) × (raised ≡ nat_lt lower upper)

-- on no route whose run comes to a place the upper one is
abbrev pub IsNeverRaised : CodeView → ℕ → ℕ → Type 0
IsNeverRaised program size place = (c : Config) → Comes program size place c → AreOnTop false c

-- on all routes whose run comes to a place the condition has this truth
abbrev pub IsAlways : CodeView → ℕ → ℕ → Bool → Type 0
IsAlways program size place truth = (c : Config) → Comes program size place c → IsOnTop truth c

-- a condition with this truth was found
abbrev pub has_truth : Bool → Mark → Bool
has_truth true mark = mark.is_true
has_truth false mark = mark.is_false

-- What is marked is so: on some route of the domain the run comes to the place, and with such a condition, or to a MAX with ints of which
-- the upper one is greater.
pub record IsSound (program : CodeView) (size place : ℕ) (mark : Mark) : Type 0 where
  pub reached : mark.is_reached ≡ true → (c : Config) × Comes program size place c
  pub condition : (truth : Bool) → has_truth truth mark ≡ true →
      IsCondition program place × (c : Config) × Comes program size place c × IsOnTop truth c
  pub raised : mark.is_raised ≡ true → IsMax program place × (c : Config) × Comes program size place c × AreOnTop true c

-- What is not marked is so on no route: the run comes not to the place, or the condition always has the other truth, or the upper int is
-- never greater, if that is asked.
pub record IsComplete (program : CodeView) (size place : ℕ) (mark : Mark) : Type 0 where
  pub reached : mark.is_reached ≡ false → IsNeverReached program size place
  pub condition : (truth : Bool) → has_truth truth mark ≡ false → IsCondition program place → IsAlways program size place (not truth)
  pub raised : mark.is_watched ≡ true → mark.is_raised ≡ false → IsMax program place → IsNeverRaised program size place

-- what is found of the instructions of a code, where it is said which of them are watched
pub record IsReach (program : CodeView) (size : ℕ) (watched : List Bool) (found : Reach) : Type 0 where
  pub long : length found.marks.items ≡ length program.instrs
  pub asked : (place : ℕ) (is_watched : Bool) (mark : Mark) → slice_get watched place ≡ Some is_watched →
      slice_get found.marks.items place ≡ Some mark → mark.is_watched ≡ is_watched
  pub sound : (place : ℕ) (mark : Mark) → slice_get found.marks.items place ≡ Some mark → IsSound program size place mark
  pub complete : found.is_complete ≡ true → (place : ℕ) (mark : Mark) → slice_get found.marks.items place ≡ Some mark →
      IsComplete program size place mark
