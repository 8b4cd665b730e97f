use Rattle.std.proofs.Common.{◌∙◌, ap₂}
use Rattle.std.proofs.lemmas.Result.{IfOk-weaker}
use Rattle.clap.specs.Words.{with_rule}
use Rattle.import_words.specs.Program.{program}
use Rattle.import_words.proofs.program.program.Goals as goal

pub returns : goal.returns
unfolding program
returns c =
    let sized = c.in_ok-sized.ensures.shape c.size.ensures.local ∙ ap₂ with_rule c.bare_program.ensures c.size.ensures.rule in
    let writing = c.in_ok-writing.ensures.shape c.out.ensures.local ∙ ap₂ with_rule sized c.out.ensures.rule in
    IfOk-weaker c.arg-3.result _ _ (λ command added. added.shape c.file.ensures.local ∙ ap₂ with_rule writing c.file.ensures.rule) c.arg-3.ensures
