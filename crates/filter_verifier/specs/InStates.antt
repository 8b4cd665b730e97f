-- What is known before and after each instruction of a code: a definition by recursion on the index, which joins what all
-- predecessors propagate at once. (This project's own choice.)
use Rattle.std.specs.Prelude.{ℕ, zero, suc, if◌then◌else◌, Option, Some, None, List, [], ◌∷◌, replicate, slice_get}
use Rattle.filter_code.specs.declared.instruction.Instr.{Instr}
use Rattle.filter_code.specs.CodeView.{CodeView}
use Rattle.filter_code.specs.Table.{leads}
use Rattle.filter_verifier.specs.AbstractFrameView.{AbstractFrameView}
use Rattle.filter_verifier.specs.InStateView.{InStateView}
use Rattle.filter_verifier.specs.Join.{join_frames}
use Rattle.filter_verifier.specs.OutStateView.{OutStateView, Passed}
use Rattle.filter_verifier.specs.Transfer.{leads_to, out_state}

-- the offsets of the successors
abbrev pub leads_of : Option Instr → List ℕ
leads_of None = []
leads_of (Some i) = leads i

-- what an instruction propagates to an index, by its out-state. A refused one propagates nothing: this makes no difference
-- below the first fault, and no later fault is answered.
abbrev pub propagated : CodeView → ℕ → OutStateView → ℕ → Option AbstractFrameView
propagated program at (Passed next) target =
    if leads_to at target (leads_of (slice_get program.instrs at)) then Some next else None
propagated program at _ target = None

-- a run enters at index 0, with an empty stack and empty local variables
abbrev pub entry_frame : CodeView → AbstractFrameView
entry_frame program = record { stack = []; locals = replicate program.locals None }

abbrev pub entry : CodeView → ℕ → List AbstractFrameView
entry program zero = entry_frame program ∷ []
entry program (suc index) = []

-- one frame more, if there is one
abbrev pub with_frame : Option AbstractFrameView → List AbstractFrameView → List AbstractFrameView
with_frame None frames = frames
with_frame (Some frame) frames = frame ∷ frames

-- the frames that the entry and the instructions below n propagate to an index
unfoldable pub incoming : CodeView → ℕ → ℕ → ℕ → List AbstractFrameView
incoming program size zero index = entry program index
incoming program size (suc n) index =
    with_frame (propagated program n (out_state program size n (join_frames program.locals (incoming program size n n))) index)
    (incoming program size n index)

-- the in-state at an index: the join of all that its predecessors propagate, which are below it
abbrev pub in_state : CodeView → ℕ → ℕ → InStateView
in_state program size index = join_frames program.locals (incoming program size index index)

-- the out-state at an index
abbrev pub out_state_at : CodeView → ℕ → ℕ → OutStateView
out_state_at program size index = out_state program size index (in_state program size index)
