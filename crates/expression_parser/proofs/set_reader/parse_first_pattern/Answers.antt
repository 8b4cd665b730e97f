use Rattle.std.proofs.Common.{◌≡◌, None, refl, rules}
use Rattle.expression_parser.specs.Readers.{a_prefix}
use Rattle.expression_parser.specs.Steps.{remaining}
use Rattle.expression_parser.proofs.set_reader.parse_first_pattern.Goals as goal

pub returns-in-Err : goal.returns-in-Err
returns-in-Err c = record {
  reads = λ other.
      let none : a_prefix (remaining c.args.input) ≡ None = c.in-Err.ensures.reads c.in-Err.ensures.not_memory in
      rw none refl;
  shorter = search rules;
  placed = search rules;
  within = λ len start. c.unexpected.ensures.within len start;
}
