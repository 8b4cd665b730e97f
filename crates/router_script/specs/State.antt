-- What contracts see of a script between two lines.
use Rattle.std.specs.Prelude.{ℕ, Option, Some, None}
use Rattle.filter_source.specs.declared.diagnosis.Diagnosis.{Diagnosis}
use Rattle.netchange_core.specs.OpeningView.{OpeningView}
use Rattle.operator_cmds.specs.Script.{ScriptView}
use Rattle.operator_cmds.specs.Stages.{StageView, Empty, Setting, Open}
use Rattle.operator_cmds.specs.State.{filter_at}
use Rattle.router_script.specs.Naming.{PreparedView}
use Rattle.router_script.specs.declared.filter_naming.Prepared.{Prepared}
use Rattle.router_script.specs.declared.script.Script.{Script}
use Rattle.router_script.specs.declared.stage.Stage.{Stage}
use Rattle.router_script.specs.declared.stage.Stage.TheVariants as stage

abbrev pub stage_of : Stage → StageView
stage_of stage.Empty = Empty
stage_of (stage.Setting setup) = Setting setup.opening setup.limit
stage_of (stage.Open journal) = Open journal

abbrev pub script_of : Script → ScriptView
script_of script = record { stage = stage_of script.stage; filters = filter_at script.filters }

-- what is told of the last filter that it refused, which no answer names
abbrev pub diagnosis_of : Script → Option Diagnosis
diagnosis_of script = script.diagnosis

-- what the first event will open the journal with, as long as there was none: the opening, and the most entries
abbrev pub setting_in : StageView → Option (OpeningView × ℕ)
setting_in Empty = None
setting_in (Setting opening limit) = Some (opening, limit)
setting_in (Open journal) = None

-- the same of one that was started with filters
abbrev pub prepared_of : Prepared → PreparedView
prepared_of p = record { script = script_of p.script; filters = p.filters.now; unfit = p.unfit }
