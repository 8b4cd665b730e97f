use Rattle.std.proofs.Common.{◌≡◌, refl, None, ◌∙◌, ◌∷◌, ◌++◌, [], ap, map, List, arith, rules}
use Rattle.filter_tokens.specs.declared.symbol.Symbol.TheVariants as symbols
use Rattle.filter_syntax.specs.Placed.{expr_kept, joined, suffix_kept}
use Rattle.expression_parser.specs.Readers.{symbol}
use Rattle.expression_parser.specs.Reading.{suffixes}
use Rattle.expression_parser.specs.Steps.{remaining}
use Rattle.filter_syntax.specs.Syntax.{view}
use Rattle.filter_syntax.specs.declared.tree.op.Suffix.{Suffix}
use Rattle.expression_parser.proofs.Chains.{suffix_on, suffix_ends, suffix_stops}
use Rattle.expression_parser.proofs.Placing.{grown_more, grown_none, spans_as, spans_both, unkept}
use Rattle.expression_parser.proofs.Turns.{starts}
use Rattle.filter_syntax.proofs.Views.{suffixes_more}
use Rattle.expression_parser.proofs.expr_atom.parse_dotted.Goals as goal

-- the first suffix is none
pub returns-in-Err : goal.returns-in-Err
returns-in-Err c = record {
  reads = λ other. suffix_stops c.in-Some.ensures.found (c.in-Err.ensures.reads other)
      (starts suffixes (view c.args.inner) (remaining c.args.input));
  shorter = search rules;
  placed = search rules;
  within = λ len start. c.in-Err.ensures.within len (c.in-Some.ensures.within len start);
}

-- one suffix alone
pub returns-then-is_none : goal.returns-then-is_none
returns-then-is_none c =
    let none : symbol symbols.Dot (remaining c.in-Ok.read.1) ≡ None = search rules in
    record {
      reads = rw (c.in_ok-suffixed_once.ensures.is) (suffix_ends none
          (suffix_on c.in-Some.ensures.found c.in-Ok.ensures.reads (omega (arith, c.in-Ok.ensures.shorter, c.in-Some.ensures.shorter))
          (starts suffixes (view c.args.inner) (remaining c.args.input))));
      shorter = omega (arith, c.in-Ok.ensures.shorter, c.in-Some.ensures.shorter);
      placed = λ start first.
          spans_as c.in_ok-suffixed_once.ensures.placed
          (spans_both first (c.in-Ok.ensures.placed _ (unkept c.in-Some.ensures.placed)));
      within = λ len start. c.in-Ok.ensures.within len (c.in-Some.ensures.within len start);
    }

-- memory was refused
pub returns-in_err-all : goal.returns-in_err-all
returns-in_err-all c = record {
  reads = search rules;
  shorter = search rules;
  placed = search rules;
  within = search rules;
}

pub returns-in_err-push-in-Ok-parse_suffix : goal.returns-in_err-push-in-Ok-parse_suffix
returns-in_err-push-in-Ok-parse_suffix c = record {
  reads = search rules;
  shorter = search rules;
  placed = search rules;
  within = search rules;
}

pub loop-after-init : goal.loop-after-init
loop-after-init c = record {
  goes = rw (c.in_ok-push.ensures.items, c.in_ok-all.ensures.items)
      (suffix_on c.in-Some.ensures.found c.in-Ok.ensures.reads (omega (arith, c.in-Ok.ensures.shorter, c.in-Some.ensures.shorter))
      (starts suffixes (view c.args.inner) (remaining c.args.input)));
  kept = refl;
  grown = grown_more grown_none (c.in-Ok.ensures.placed _ (unkept c.in-Some.ensures.placed))
      (c.in_ok-push.ensures.items ∙ ap (λ (xs : List Suffix). xs ++ c.in-Ok.read.0 ∷ []) c.in_ok-all.ensures.items);
  within = λ len start. c.in-Ok.ensures.within len (c.in-Some.ensures.within len start);
  shorter = omega (arith, c.in-Ok.ensures.shorter, c.in-Some.ensures.shorter);
}

pub loop-after-preserved : goal.loop-after-preserved
loop-after-preserved c = record {
  goes = rw (c.in_ok-push-in-Ok-parse_suffix.ensures.items, suffixes_more _ c.loop-after.all.items c.in-Ok-parse_suffix.found)
      (suffix_on c.in-Some-eat.ensures.found c.in-Ok-parse_suffix.ensures.reads
      (omega (arith, c.in-Ok-parse_suffix.ensures.shorter, c.in-Some-eat.ensures.shorter))
      c.loop-after.invariant.goes);
  kept = c.loop-after.invariant.kept;
  grown = grown_more c.loop-after.invariant.grown (c.in-Ok-parse_suffix.ensures.placed _ (unkept c.in-Some-eat.ensures.placed))
      c.in_ok-push-in-Ok-parse_suffix.ensures.items;
  within = λ len start.
      c.in-Ok-parse_suffix.ensures.within len (c.in-Some-eat.ensures.within len (c.loop-after.invariant.within len start));
  shorter = omega (arith, c.in-Ok-parse_suffix.ensures.shorter, c.in-Some-eat.ensures.shorter);
}

pub returns-in-Err-parse_suffix : goal.returns-in-Err-parse_suffix
returns-in-Err-parse_suffix c = record {
  reads = λ other. suffix_stops c.in-Some-eat.ensures.found (c.in-Err-parse_suffix.ensures.reads other) c.loop-after.invariant.goes;
  shorter = search rules;
  placed = search rules;
  within = λ len start.
      c.in-Err-parse_suffix.ensures.within len (c.in-Some-eat.ensures.within len (c.loop-after.invariant.within len start));
}

pub returns : goal.returns
returns c = record {
  reads = rw (c.in_ok-suffixed.ensures.is, c.loop-after.invariant.kept)
      (suffix_ends c.in_default-eat.ensures.found c.loop-after.invariant.goes);
  shorter = search rules;
  placed = λ start first.
      let g = c.loop-after.invariant.grown in
      spans_as (c.in_ok-suffixed.ensures.placed ∙ ap (λ (xs : List Suffix). expr_kept c.loop-after.inner-1 ++ joined (map suffix_kept xs)) g.whole)
      (spans_both (rw c.loop-after.invariant.kept first) g.spans);
  within = search rules;
}
