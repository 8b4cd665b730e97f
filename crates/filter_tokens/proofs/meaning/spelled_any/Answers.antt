use Rattle.std.proofs.Common.{[], ◌∷◌, ◌∙◌}
use Rattle.filter_tokens.specs.Reading.{is_spelled}
use Rattle.filter_tokens.proofs.Finding.{found-first, found-later}
use Rattle.filter_tokens.proofs.meaning.spelled_any.Goals as goal

pub returns-in-Some : goal.returns-in-Some
returns-in-Some c =
    found-first (is_spelled c.args.bytes.now) c.args.first c.in-Some.symbol (c.args.second ∷ c.args.third ∷ [])
    (c.spelled.ensures ∙ c.in-Some.is)

pub returns-in-None : goal.returns-in-None
returns-in-None c =
    found-later (is_spelled c.args.bytes.now) c.args.first (c.args.second ∷ c.args.third ∷ []) (c.spelled.ensures ∙ c.in-None.is)
    ∙ c.spelled_either.ensures
