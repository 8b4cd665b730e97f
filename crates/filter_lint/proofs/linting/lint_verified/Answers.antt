use Rattle.filter_lint.proofs.Endings.{filter_of}
use Rattle.filter_lint.proofs.linting.lint_verified.Goals as goal

pub returns : goal.returns
returns c =
    let is = c.requires in
    record {
      filter = is.survey.gives.1.0;
      is_filter = filter_of c.args.how.now.size c.args.source.now.text.now c.args.surveyed.now is;
      places = c.args.surveyed.now.places.items;
      are_places = is.survey.places;
      warns = c.in_ok-lines.ensures;
      told = c.new.ensures.items;
    }
