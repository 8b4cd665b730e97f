-- The answer to a source, for domains of the script's size, is the script's.
use Rattle.std.proofs.Common.{refl, sym, ◌∙◌}
use Rattle.operator_cmds.specs.Script.{ScriptView, gives, lacks}
use Rattle.operator_cmds.specs.State.{filter_at}
use Rattle.operator_cmds.proofs.Sourced.{sourced}
use Rattle.router_script.specs.State.{script_of, stage_of}
use Rattle.router_script.proofs.script.Script.load.Goals as goal

pub returns-in-Some-clause-ok : goal.returns-in-Some-clause-ok
returns-in-Some-clause-ok c =
    let stage = stage_of c.args.self.now.stage in
    let after : ScriptView = record { stage = stage; filters = filter_at c.name_source.new.filters } in
    sourced (gives c.args.source) (lacks c.args.source) c.args.number c.args.name.now stage c.in-Some.size (script_of c.args.self.now) after
    c.name_source.result c.args.out.now.items c.name_source.new.out.items (sym c.size.ensures ∙ c.in-Some.is) refl c.name_source.ensures.ok
