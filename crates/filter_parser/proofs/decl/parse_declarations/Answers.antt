use Rattle.std.proofs.Common.{map, arith}
use Rattle.expression_parser.specs.Steps.{remaining}
use Rattle.filter_syntax.specs.SyntaxCommands.{view_decl}
use Rattle.filter_parser.proofs.Decls.{begins, goes_on, stops, ends}
use Rattle.filter_parser.proofs.Bodies.{map_one}
use Rattle.expression_parser.proofs.Placing.{grown_more, grown_none, unkept}
use Rattle.filter_parser.proofs.decl.parse_declarations.Goals as goal

pub loop-kind-init : goal.loop-kind-init
loop-kind-init c = record {
  goes = begins (map view_decl c.args.before.items) (remaining c.args.input);
  grown = grown_none;
  within = λ len start. start;
}

pub loop-kind-preserved : goal.loop-kind-preserved
loop-kind-preserved c = record {
  goes = rw (c.in_ok-push-in-Ok.ensures.items, map_one view_decl c.loop-kind.decls.items c.in-Ok.decl)
      (goes_on c.loop-kind.invariant.goes c.in-Some.ensures.found c.in-Ok.ensures.reads (omega (arith, c.in-Ok.ensures.shorter)) c.in-Some.ensures.shorter);
  grown = grown_more c.loop-kind.invariant.grown (c.in-Ok.ensures.placed _ (unkept c.in-Some.ensures.placed)) c.in_ok-push-in-Ok.ensures.items;
  within = λ len start. c.in-Ok.ensures.within len (c.in-Some.ensures.within len (c.loop-kind.invariant.within len start));
}

pub returns-in-Err-clause-reads : goal.returns-in-Err-clause-reads
returns-in-Err-clause-reads c = λ other. stops c.loop-kind.invariant.goes c.in-Some.ensures.found (c.in-Err.ensures.reads other)

pub returns-clause-reads : goal.returns-clause-reads
returns-clause-reads c = ends c.loop-kind.invariant.goes c.in_default.ensures.found

pub returns-in-Err-clause-within : goal.returns-in-Err-clause-within
returns-in-Err-clause-within c = λ len start.
    c.in-Err.ensures.within len (c.in-Some.ensures.within len (c.loop-kind.invariant.within len start))
