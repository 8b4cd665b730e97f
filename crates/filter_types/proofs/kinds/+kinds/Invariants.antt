use Rattle.std.proofs.Common.{◌≡◌, Some, drop, map, take}
use Rattle.filter_syntax.specs.Syntax.{view_more}
use Rattle.filter_syntax.specs.SyntaxCommands.{view_decl}
use Rattle.filter_types.specs.Turns.{kind_with}
use Rattle.filter_types.proofs.kinds.+kinds.Given as goal

-- the operators that are left give what all of them give, and those before give the kind
abbrev pub invariant-kind_of_chain-loop-op : goal.invariant-kind_of_chain-loop-op
invariant-kind_of_chain-loop-op l = record {
  after :
      kind_with (map view_decl l.variables) l.kind (view_more (drop l.op-index l.more))
      ≡ kind_with (map view_decl l.variables) l.initial.kind (view_more l.more);
  before : kind_with (map view_decl l.variables) l.initial.kind (view_more (take l.op-index l.more)) ≡ Some l.kind;
}
