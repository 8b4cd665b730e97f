use Rattle.std.proofs.Common.{take}
use Rattle.filter_syntax.specs.Syntax.{ExprView, chain_of, view_more}
use Rattle.filter_compiler.specs.declared.sets.SetLists.{SetLists}
use Rattle.filter_compiler.specs.Translation.{sets_of}
use Rattle.filter_compiler.specs.Written.{Gathers}
use Rattle.filter_compiler.proofs.sets.+gathering.Given as goal

-- the sets of the operands so far are put, after those of whatever operand comes first
abbrev pub invariant-gather_chain-loop-right : goal.invariant-gather_chain-loop-right
invariant-gather_chain-loop-right l =
    (before : SetLists) (first : ExprView) → Gathers before l.initial.lists (sets_of first)
    → Gathers before l.lists (sets_of (chain_of first (view_more (take l.right-index l.more))))
