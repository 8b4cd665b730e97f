use Rattle.filter_diff.proofs.Expected.{ends_compared}
use Rattle.filter_diff.proofs.checking.ends_on_class.Goals as goal

pub returns-in-Ended : goal.returns-in-Ended
returns-in-Ended c =
    ends_compared c.args.code.now c.args.class.now c.in-Ended.found c.known_ending.result c.args.ending c.endings.result c.in-Ended.ensures
    c.known_ending.ensures c.endings.ensures
