use Rattle.std.proofs.Common.{None}
use Rattle.std.proofs.lemmas.List.{take-replicate}
use Rattle.filter_diff.proofs.slots.Slots.new.Goals as goal

pub returns : goal.returns
returns c = rw c.from.ensures (take-replicate c.args.count 16 None c.requires)
