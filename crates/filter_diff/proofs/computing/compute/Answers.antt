use Rattle.std.proofs.Common.{List, ◌+◌, ◌∙◌, length, sym, ap}
use Rattle.filter_code.specs.Machine.{Going}
use Rattle.filter_diff.specs.Symbols.{config_at}
use Rattle.filter_diff.specs.declared.symbol.SymbolicValue.{SymbolicValue}
use Rattle.filter_diff.proofs.Steps.{has_room}
use Rattle.filter_diff.proofs.computing.compute.Goals as goal

pub returns-in-Ok : goal.returns-in-Ok
returns-in-Ok c route of pc locals metric =
    c.in-Some.ensures route of pc locals metric
    ∙ (has_room (length c.given.new.stack) pc _ c.in-Ok.ensures.room
    ∙ ap (λ (stack : List SymbolicValue). Going (config_at route (pc + 1) stack locals metric)) (sym c.in-Ok.ensures.pushed))
