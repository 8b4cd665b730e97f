use Rattle.filter_lint.proofs.Endings.{filter_of}
use Rattle.filter_lint.proofs.checking.all_warnings.Goals as goal

pub returns : goal.returns
returns c =
    let is = c.requires in
    record {
      filter = is.survey.gives.1.0;
      is_filter = filter_of c.args.how.size c.args.source.now.text.now c.args.surveyed.now is;
      places = c.args.surveyed.now.places.items;
      are_places = is.survey.places;
      status = c.in_ok-report.report.status;
      warns = rw c.new.ensures.items at c.in_ok-report.ensures;
    }
