use Rattle.std.proofs.Common.{arith}
use Rattle.filter_syntax.specs.Syntax.{view_range}
use Rattle.expression_parser.proofs.Chains.{map_one}
use Rattle.expression_parser.proofs.Placing.{grown_more, spans_both, unkept}
use Rattle.expression_parser.proofs.Ranges.{range_ends, range_on, range_stops}
use Rattle.expression_parser.proofs.range_reader.parse_more_ranges.Goals as goal

pub loop-after-preserved : goal.loop-after-preserved
loop-after-preserved c = record {
  goes = rw (c.in_ok-push-in-Ok.ensures.items, map_one view_range c.loop-after.all.items c.in-Ok.range)
      (range_on c.in-Some.ensures.found c.in-Ok.ensures.reads (omega (arith, c.in-Ok.ensures.shorter, c.in-Some.ensures.shorter))
      c.loop-after.invariant.goes);
  grown = grown_more c.loop-after.invariant.grown (spans_both (unkept c.in-Some.ensures.placed) c.in-Ok.ensures.placed)
      c.in_ok-push-in-Ok.ensures.items;
  within = λ len start. c.in-Ok.ensures.within len (c.in-Some.ensures.within len (c.loop-after.invariant.within len start));
  shorter = omega (arith, c.in-Ok.ensures.shorter, c.in-Some.ensures.shorter);
}

pub returns-clause-reads : goal.returns-clause-reads
returns-clause-reads c = range_ends c.in_default.ensures.found c.loop-after.invariant.goes

pub returns-in-Err-clause-reads : goal.returns-in-Err-clause-reads
returns-in-Err-clause-reads c = λ other. range_stops c.in-Some.ensures.found (c.in-Err.ensures.reads other) c.loop-after.invariant.goes

pub returns-in-Err-clause-within : goal.returns-in-Err-clause-within
returns-in-Err-clause-within c = λ len start.
    c.in-Err.ensures.within len (c.in-Some.ensures.within len (c.loop-after.invariant.within len start))
