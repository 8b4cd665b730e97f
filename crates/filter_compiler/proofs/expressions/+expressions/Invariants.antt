use Rattle.std.proofs.Common.{◌++◌, take}
use Rattle.std.specs.Prelude.{flat_map, replicate}
use Rattle.filter_syntax.specs.Syntax.{ExprView, chain_of, suffixes_of, view, view_more}
use Rattle.filter_syntax.specs.SyntaxText.{view_filter}
use Rattle.filter_compiler.specs.InstructionPlaces.{expression_places}
use Rattle.filter_compiler.specs.declared.numbers.SetNumbers.{SetNumbers}
use Rattle.filter_compiler.specs.declared.output.Output.{Output}
use Rattle.filter_compiler.specs.Written.{Emits, Notes, expression_part}
use Rattle.filter_compiler.proofs.InstructionPlaces.{one_right}
use Rattle.filter_compiler.proofs.expressions.+expressions.Given as goal

-- the operators so far are written, after whatever operand comes first
abbrev pub invariant-emit_chain-loop-at : goal.invariant-emit_chain-loop-at
invariant-emit_chain-loop-at l =
    ((before : Output) (start : SetNumbers) (first : ExprView)
    → Emits before l.initial.out start l.initial.next (expression_part (view_filter l.typed).decls first)
    → Emits before l.out start l.next (expression_part (view_filter l.typed).decls (chain_of first (view_more (take l.at-index l.more)))))
    × Notes l.initial.out l.out (flat_map one_right (take l.at-index l.more))

-- the operand and the suffixes so far are written
abbrev pub invariant-emit_suffixed-loop-suffix : goal.invariant-emit_suffixed-loop-suffix
invariant-emit_suffixed-loop-suffix l =
    Emits l.fn.out l.out l.fn.sets l.next (expression_part (view_filter l.typed).decls (suffixes_of (view l.operand) (take l.suffix-index l.suffixes)))
    × Notes l.fn.out l.out (expression_places l.operand ++ replicate l.suffix-index l.at)
