-- The code that the routes of `eval` go through. (This project's own choice.)
use Rattle.std.specs.Prelude.{Option, Some, None}
use Rattle.filter_code.specs.CodeView.{CodeView}
use Rattle.route_answers.specs.declared.judge.CodeStage.{CodeStage}
use Rattle.route_answers.specs.declared.judge.CodeStage.TheVariants as stage

-- the code, once it has come
abbrev pub code_at : CodeStage → Option CodeView
code_at stage.Awaited = None
code_at (stage.Untried code) = Some code
code_at (stage.Checked code) = Some code
code_at (stage.OneSize verified) = Some verified.program
code_at (stage.AllSizes program) = Some program
