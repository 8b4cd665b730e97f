use Rattle.std.proofs.Common.{map}
use Rattle.import_words.proofs.Parsing.{accepts, has_matches, refuses}
use Rattle.import_words.proofs.words.matches_of.Goals as goal

pub returns : goal.returns
returns g c =
    let line = map g.S.AsStr.text c.args.words.now in
    let parse = c.try_get_matches_from in
    let is = c.in_ok-program.ensures in
    record {
      accepted = accepts _ is line parse.result parse.ensures.kinds;
      matches = has_matches _ is line parse.result parse.ensures.matches;
      refused = refuses _ is line parse.result parse.ensures.kinds;
    }
