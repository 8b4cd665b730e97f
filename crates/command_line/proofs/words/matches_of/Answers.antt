use Rattle.std.proofs.Common.{map}
use Rattle.command_line.proofs.Parsing.{meets, shows}
use Rattle.command_line.proofs.words.matches_of.Goals as goal

pub returns : goal.returns
returns g c =
    let line = map g.S.AsStr.text c.args.words.now in
    let parse = c.try_get_matches_from in
    let is = c.in_ok-program.ensures in
    record {
      ok = meets c.choices.result c.choices.ensures _ is line parse.result parse.ensures.matches parse.ensures.kinds;
      err = shows c.choices.result c.choices.ensures _ is line parse.result parse.ensures.kinds;
    }
