use Rattle.std.proofs.Common.{length, map}
use Rattle.filter_parser.specs.ReadingCommands.{decl_turn, decls_after}
use Rattle.filter_syntax.specs.Placed.{decl_kept}
use Rattle.expression_parser.specs.Steps.{Follows, Grown, remaining}
use Rattle.filter_syntax.specs.SyntaxCommands.{view_decl}
use Rattle.expression_parser.proofs.Turns.{Goes}
use Rattle.filter_parser.proofs.decl.parse_declarations.Given as goal

abbrev pub invariant-loop-kind : goal.invariant-loop-kind
invariant-loop-kind l = record {
  goes : Goes decl_turn (map view_decl l.decls.items) (remaining l.rest) (decls_after (map view_decl l.fn.before.items) (remaining l.input));
  grown : Grown decl_kept l.fn.before.items l.decls.items l.input l.rest;
  within : Follows l.input l.rest;
}

abbrev pub decreases-loop-kind : goal.decreases-loop-kind
decreases-loop-kind l = length (remaining l.rest)
