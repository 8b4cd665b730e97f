-- The steps of the sweep.
use Rattle.std.specs.Prelude.{ℕ, zero, suc, max, Option, Some, None, List, [], ◌∷◌, length, map, slice_index_or}
use Rattle.filter_code.specs.declared.instruction.Instr.{Instr}
use Rattle.filter_code.specs.CodeView.{CodeView}
use Rattle.filter_code.specs.Table.{Frame, leads}
use Rattle.filter_verifier.specs.declared.fact.Fact.{Fact}
use Rattle.filter_verifier.specs.declared.successors.Successors.{Successors}
use Rattle.filter_verifier.specs.declared.successors.Successors.TheVariants as following
use Rattle.filter_verifier.specs.declared.out_state.OutState.{OutState}
use Rattle.filter_verifier.specs.declared.out_state.OutState.TheVariants as out
use Rattle.filter_verifier.specs.declared.in_state.InState.{InState}
use Rattle.filter_verifier.specs.declared.in_state.InState.TheVariants as state
use Rattle.filter_verifier.specs.AbstractFrameView.{AbstractFrameView}
use Rattle.filter_verifier.specs.InStates.{entry_frame, in_state, incoming}
use Rattle.filter_verifier.specs.InStateView.{InStateView, Unreached, UnlikeDepths, Known}
use Rattle.filter_verifier.specs.Join.{join_frames}
use Rattle.filter_verifier.specs.OutStateView.{OutStateView, Skipped, Refused, Passed}
use Rattle.filter_verifier.specs.Transfer.{if_inside, leads_below}

-- what is known at one place; None where there is no such place
abbrev pub fact_at : List (Option Fact) → ℕ → Option Fact
fact_at places at = slice_index_or places at None

-- a stack and local variables as a frame
abbrev pub frame_of : List Fact → List (Option Fact) → Frame Fact
frame_of stack locals = record { stack = stack; locals = locals }

-- the offsets of successors, in order
abbrev pub offsets : Successors → List ℕ
offsets following.Nowhere = []
offsets (following.One d) = d ∷ []
offsets (following.Either d e) = d ∷ (e ∷ [])

-- what contracts see of an in-state and of an out-state
abbrev pub in_state_view : InState → InStateView
in_state_view state.Unreached = Unreached
in_state_view state.UnlikeDepths = UnlikeDepths
in_state_view (state.Known frame) = Known frame

abbrev pub out_state_view : OutState → OutStateView
out_state_view out.Skipped = Skipped
out_state_view (out.Refused why) = Refused why
out_state_view (out.Passed next) = Passed next

-- what is propagated, as an in-state
abbrev pub as_in_state : Option AbstractFrameView → InStateView
as_in_state None = Unreached
as_in_state (Some frame) = Known frame

-- the in-states before the sweep
abbrev pub entry_state : CodeView → ℕ → InStateView
entry_state program zero = Known (entry_frame program)
entry_state program (suc index) = Unreached

-- the in-state that the sweep keeps for an index; before it visits n, the join of what the instructions below n propagate
abbrev pub state_at : List InState → ℕ → InStateView
state_at in_states index = in_state_view (slice_index_or in_states index state.Unreached)

abbrev pub joined_below : CodeView → ℕ → ℕ → ℕ → InStateView
joined_below program size n index = join_frames program.locals (incoming program size n index)

-- the out-state of an instruction whose operands and room on the stack were tested
abbrev pub transferred : ℕ → ℕ → Instr → List Fact → List (Option Fact) → OutStateView
transferred count at i stack locals =
    if_inside (leads_below at count (leads i)) at (Passed (record { stack = map (λ f. Some f) stack; locals = locals }))

-- the depth of the stack; 0 where it is not known
abbrev pub height_of : InStateView → ℕ
height_of (Known frame) = length frame.stack
height_of _ = 0

-- the greatest depth at an index below n
unfoldable pub highest : CodeView → ℕ → ℕ → ℕ
highest program size zero = 0
highest program size (suc n) = max (highest program size n) (height_of (in_state program size n))
