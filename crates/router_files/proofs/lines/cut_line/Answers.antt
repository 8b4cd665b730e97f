use Rattle.std.proofs.Common.{◌<◌, length, rules}
use Rattle.router_files.proofs.FirstLine.{cut_line, whole_line}
use Rattle.router_files.proofs.lines.cut_line.Goals as goal

pub returns-in-Some-clause-found : goal.returns-in-Some-clause-found
returns-in-Some-clause-found c =
    cut_line c.args.text.now c.strip_carriage_return.result.now c.in-Some.feed c.find_line_feed.result c.find_line_feed.ensures.at c.in-Some.is
    c.strip_carriage_return.ensures

pub returns-in-None-clause-found : goal.returns-in-None-clause-found
returns-in-None-clause-found c =
    let some : 0 < length c.args.text.now = search rules in
    whole_line c.args.text.now c.find_line_feed.result c.find_line_feed.ensures.at c.in-None.is some
