use Rattle.std.proofs.Common.{◌≡◌, ◌∙◌}
use Rattle.std.specs.List.{find}
use Rattle.filter_tokens.specs.Reading.{is_spelled, keyword_in, keywords_with}
use Rattle.filter_tokens.proofs.FirstBytes.{keyword-by}
use Rattle.filter_tokens.proofs.meaning.keyword.Goals as goal

pub returns : goal.returns
returns c =
    let bytes = c.args.bytes.now in
    let split = c.in_ok-first.ensures.cases.0 in
    let among : keyword_in bytes ≡ find (is_spelled bytes) (keywords_with c.in_ok-first.first.now) =
    rw split (keyword-by c.in_ok-first.first.now _) in
    among ∙ c.keyword_with.ensures
