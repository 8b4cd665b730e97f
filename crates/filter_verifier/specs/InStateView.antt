-- What a contract sees of an in-state.
use Rattle.filter_verifier.specs.AbstractFrameView.{AbstractFrameView}

-- what is known before an instruction: no path leads to it; paths meet there whose stacks differ in depth; or this is known
-- of the stack and of the local variables
pub data InStateView : Type 0 where
  Unreached : InStateView
  UnlikeDepths : InStateView
  Known : (frame : AbstractFrameView) → InStateView
