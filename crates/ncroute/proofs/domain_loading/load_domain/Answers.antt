-- The source is the file of that name.
use Rattle.std.proofs.Common.{Some, ap}
use Rattle.std.proofs.lemmas.Result.{IfOk-weaker}
use Rattle.program_words.specs.declared.source.Source.TheVariants.{File}
use Rattle.ncroute.proofs.domain_loading.load_domain.Goals as goal

pub returns-in-Ok-clause-finished : goal.returns-in-Ok-clause-finished
returns-in-Ok-clause-finished g c =
    IfOk-weaker c.load_source.result _ _
    (λ found loads. (File c.in-Ok.name, ap Some c.in-Ok.ensures.ok, c.load_source.ensures.unwritten, loads)) c.load_source.ensures.finished
