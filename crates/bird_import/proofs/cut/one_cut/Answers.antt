use Rattle.bird_import.proofs.Ends.{cut_once}
use Rattle.bird_import.proofs.cut.one_cut.Goals as goal

pub returns : goal.returns
returns c text one other a b = cut_once text one other a b
