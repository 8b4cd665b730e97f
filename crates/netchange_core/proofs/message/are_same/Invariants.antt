use Rattle.std.proofs.Common.{◌≡◌, ◌<◌, ℕ, slice_index_or}
use Rattle.netchange_core.specs.declared.message.Message.{Message}
use Rattle.netchange_core.proofs.message.are_same.Given as goal

abbrev pub invariant-loop-i : goal.invariant-loop-i
invariant-loop-i l = (k : ℕ) (d : Message) → k < l.i → slice_index_or l.one k d ≡ slice_index_or l.two k d
