-- What a contract sees of the file of a domain. (This project's own choice.)
use Rattle.std.specs.Prelude.{ℕ, List}
use Rattle.operator_cmds.specs.declared.event.Direction.{Direction}
use Rattle.domain_cmds.specs.State.{PlanningView}
use Rattle.domain_files.specs.declared.file.NamedUse.{NamedUse}

-- that what passes between two nodes goes through the filter of a name
pub record UseView : Type 0 where
  pub direction : Direction
  pub u : ℕ
  pub w : ℕ
  pub name : List ℕ

abbrev pub use_of : NamedUse → UseView
use_of used = record { direction = used.direction; u = used.u; w = used.w; name = used.name.items }

-- a domain that is set up, and the uses of its filters in order
pub record FileView : Type 0 where
  pub planning : PlanningView
  pub uses : List UseView
