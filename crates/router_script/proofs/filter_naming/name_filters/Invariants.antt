use Rattle.std.proofs.Common.{take}
use Rattle.router_script.specs.State.{script_of}
use Rattle.router_script.specs.Naming.{GetNames}
use Rattle.router_script.proofs.filter_naming.name_filters.Given as goal

-- the filters so far have got their names
abbrev pub invariant-loop-index : goal.invariant-loop-index
invariant-loop-index l = GetNames l.size (take l.index l.filters) (script_of l.fn.script) (script_of l.script)
