use Rattle.filter_types.proofs.Labelling.{written_ranges}
use Rattle.filter_types.proofs.parts.gather_label.Goals as goal

pub returns-in-Ranges-clause-added : goal.returns-in-Ranges-clause-added
returns-in-Ranges-clause-added c =
    rw (written_ranges c.args.label.now c.in-Ranges.ranges c.deref.result.now c.in-Ranges.is c.deref.ensures.value) c.gather.ensures.added
