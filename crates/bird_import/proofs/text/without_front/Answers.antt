use Rattle.bird_import.proofs.Laying.{front_cut}
use Rattle.bird_import.proofs.text.without_front.Goals as goal

pub returns : goal.returns
returns c = front_cut c.args.gap.now c.trim_ascii_start.result.now c.trim_ascii_start.ensures.value
