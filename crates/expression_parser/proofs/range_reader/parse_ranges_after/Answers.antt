use Rattle.std.proofs.Common.{rules}
use Rattle.expression_parser.proofs.Placing.{ok_map, ranges_grown}
use Rattle.expression_parser.proofs.range_reader.parse_ranges_after.Goals as goal

pub returns-clause-placed : goal.returns-clause-placed
returns-clause-placed c =
    ok_map c.parse_more_ranges.result (λ x g start front. ranges_grown c.args.first _ x.0.items (search rules) g front) c.parse_more_ranges.ensures.placed
