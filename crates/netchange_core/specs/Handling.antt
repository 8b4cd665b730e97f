-- What a method of the state does for an event. (This project's own choice.)
use Rattle.std.specs.Prelude.{◌≡◌, Result, IfOk, OnErr}
use Rattle.std.specs.declared.alloc.AllocError.{AllocError}
use Rattle.netchange_core.specs.declared.reply.Reply.{Reply}
use Rattle.netchange_core.specs.declared.state.State.{State}
use Rattle.netchange_core.specs.Calls.{MayNeedMemory}
use Rattle.netchange_core.specs.Kept.{AreTables, world_of}
use Rattle.netchange_core.specs.Next.{Answered, answered}

-- an event with this answer is carried out: the new state is right, and stands for the answer's world where there was memory,
-- else for the world that was there before
pub record Handles (old : State) (answer : Answered) (new : State) (result : Result Reply AllocError) : Type 0 where
  pub done : IfOk result (λ r. answer ≡ answered (world_of new) r)
  pub tables : AreTables new
  pub opening : new.opening ≡ old.opening
  pub same : OnErr result (world_of new ≡ world_of old)
  pub memory : OnErr result (MayNeedMemory answer.reply)
