use Rattle.std.proofs.Common.{List, inr, map, subst}
use Rattle.clap.specs.Words.{Row}
use Rattle.import_words.specs.Meaning.{ComesTo}
use Rattle.import_words.proofs.Parsing.{show_fails, shown_is_meant}
use Rattle.import_words.proofs.words.request_of.Goals as goal

pub returns-in-Ok-asked_in-clause-meant : goal.returns-in-Ok-asked_in-clause-meant
returns-in-Ok-asked_in-clause-meant g c =
    inr (c.in-Ok.ensures.accepted, subst (λ (given : List Row). ComesTo given c.in-Ok-asked_in.asked) c.in-Ok.ensures.matches c.in-Ok-asked_in.ensures)

pub returns-in-Ok-show_wrong-clause-meant : goal.returns-in-Ok-show_wrong-clause-meant
returns-in-Ok-show_wrong-clause-meant g c =
    shown_is_meant (map g.S.AsStr.text c.args.words.now) c.in-Err.error c.in-Err.ensures.refused c.in-Ok-show_wrong.status c.in-Ok-show_wrong.ensures.shown

pub returns-clause-fails : goal.returns-clause-fails
returns-clause-fails g c =
    show_fails (map g.S.AsStr.text c.args.words.now) c.in-Err.error c.in-Err.ensures.refused c.in-Err-show_wrong.fault c.in-Err-show_wrong.ensures.fails
