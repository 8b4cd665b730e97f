use Rattle.std.proofs.Common.{arith}
use Rattle.filter_syntax.specs.Syntax.{view_set_pattern}
use Rattle.expression_parser.proofs.Chains.{set_pattern_on, set_pattern_ends, map_one}
use Rattle.expression_parser.proofs.Placing.{grown_more, spans_both, unkept}
use Rattle.expression_parser.proofs.set_reader.parse_set_patterns.Goals as goal

pub loop-after-preserved : goal.loop-after-preserved
loop-after-preserved c = record {
  goes = rw (c.in_ok-push-in-Ok.ensures.items, map_one view_set_pattern c.loop-after.all.items c.in-Ok.pattern)
      (set_pattern_on c.in-Some.ensures.found c.in-Ok.ensures.reads (omega (arith, c.in-Ok.ensures.shorter, c.in-Some.ensures.shorter))
      c.loop-after.invariant.goes);
  grown = grown_more c.loop-after.invariant.grown (spans_both (unkept c.in-Some.ensures.placed) c.in-Ok.ensures.placed)
      c.in_ok-push-in-Ok.ensures.items;
  within = λ len start. c.in-Ok.ensures.within len (c.in-Some.ensures.within len (c.loop-after.invariant.within len start));
  shorter = omega (arith, c.in-Ok.ensures.shorter, c.in-Some.ensures.shorter);
}

pub returns-clause-reads : goal.returns-clause-reads
returns-clause-reads c = set_pattern_ends c.in_default.ensures.found c.loop-after.invariant.goes

pub returns-in-Err-clause-within : goal.returns-in-Err-clause-within
returns-in-Err-clause-within c = λ len start.
    c.in-Err.ensures.within len (c.in-Some.ensures.within len (c.loop-after.invariant.within len start))
