use Rattle.std.proofs.Common.{◌∙◌, ap, replicate}
use Rattle.std.proofs.lemmas.List.{take-replicate}
use Rattle.filter_code.proofs.locals.Locals.new.Goals as goal

pub returns : goal.returns
returns c =
    rw c.from.ensures
    (take-replicate c.args.count 16 c.empty.result c.requires ∙ ap (λ local. replicate c.args.count local) c.empty.ensures)
