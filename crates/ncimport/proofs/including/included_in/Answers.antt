use Rattle.ncimport.proofs.Gathered.{are_included}
use Rattle.ncimport.proofs.including.included_in.Goals as goal

pub returns : goal.returns
returns c =
    are_included (λ found. found.items) c.args.text.now c.in_ok-cut.cut c.as_slice.result.now c.find_includes.result
    c.as_slice.ensures.value c.in_ok-cut.ensures c.find_includes.ensures
