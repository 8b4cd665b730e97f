use Rattle.history_file.proofs.Judged.{judged}
use Rattle.history_file.proofs.verdict.judge.Goals as goal

pub returns-in-Ok : goal.returns-in-Ok
returns-in-Ok c = judged c.args.bytes.now c.in-Ok.saved c.judge_saved.result c.in-Ok.ensures.found c.judge_saved.ensures
