use Rattle.std.proofs.Common.{◌∙◌, sym}
use Rattle.filter_tokens.proofs.FirstBytes.{left_out-by}
use Rattle.filter_tokens.proofs.meaning.is_left_out.Goals as goal

pub returns-in-Some : goal.returns-in-Some
returns-in-Some c =
    let split = c.in-Some.ensures.cases.0 in
    c.is_left_out_with.ensures ∙ sym (rw split (left_out-by c.in-Some.first.now _))
