-- Why a history does not replay. (This project's own choice.)
use Rattle.std.specs.Prelude.{List}
use Rattle.netchange_core.specs.OpeningView.{OpeningView}
use Rattle.route_history.specs.declared.entry.Entry.{Entry}
use Rattle.route_history.specs.declared.fault.ReplayFault.{ReplayFault}
use Rattle.route_history.specs.declared.fault.ReplayFault.TheVariants as fault
use Rattle.route_history.specs.History.{IsFirstWrong}

-- the first wrong reply is at this index; or memory was refused, which says nothing of the history
abbrev pub IsFaultOf : OpeningView → List Entry → ReplayFault → Type 0
IsFaultOf opening es (fault.Differs k) = IsFirstWrong opening es k
IsFaultOf opening es fault.Memory = Unit {0}
