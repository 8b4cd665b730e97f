-- What the file of a domain says to one of its nodes. (This project's own choice.)
use Rattle.std.specs.Prelude.{◌≡◌, ◌<◌, ◌≤◌, ℕ, Bool, List, [], ◌∷◌, Option, Some, None, MatchOption, map, if◌then◌else◌}
use Rattle.domain_routes.specs.PlanView.{PlanView, is_linked}
use Rattle.operator_cmds.specs.declared.event.Direction.{Direction}
use Rattle.operator_cmds.specs.declared.event.Direction.TheVariants as direction
use Rattle.domain_files.specs.Files as files
use Rattle.domain_cmds.specs.Failures.{lists_below}
use Rattle.domain_files.specs.FileView.{FileView, UseView}
use Rattle.domain_files.specs.Files.{name_between, name_if, or_later}
use Rattle.domain_files.specs.declared.node.FilterAt.{FilterAt}
use Rattle.domain_files.specs.declared.node.NodeFile.{NodeFile}

abbrev pub is_same_way : Direction → Direction → Bool
is_same_way = files.is_same_way

abbrev pub is_between : Direction → ℕ → ℕ → UseView → Bool
is_between = files.is_between

-- the name that counts after one more use
abbrev pub name_after : Direction → ℕ → ℕ → Option (List ℕ) → UseView → Option (List ℕ)
name_after way u w before used = or_later (name_if (is_between way u w used) used.name) before

-- ---- its neighbours, in order

abbrev pub neighbour_at : PlanView → ℕ → ℕ → List ℕ
neighbour_at p me w = if is_linked p me w then w ∷ [] else []

abbrev pub neighbours_of : PlanView → ℕ → List ℕ
neighbours_of p me = lists_below p.size (neighbour_at p me)

-- ---- the names of its filters, node by node

abbrev pub at_name : Option (List ℕ) → ℕ → List (ℕ × List ℕ)
at_name None w = []
at_name (Some name) w = (w, name) ∷ []

abbrev pub name_at : List UseView → Direction → ℕ → ℕ → List (ℕ × List ℕ)
name_at uses way me w = at_name (name_between way me w uses) w

abbrev pub filters_below : ℕ → List UseView → Direction → ℕ → List (ℕ × List ℕ)
filters_below size uses way me = lists_below size (name_at uses way me)

abbrev pub filter_at_of : FilterAt → ℕ × List ℕ
filter_at_of at = (at.node, at.name.items)

abbrev pub AreFiltersAt : FileView → Direction → ℕ → List FilterAt → Type 0
AreFiltersAt f way me filters = map filter_at_of filters ≡ filters_below f.planning.plan.size f.uses way me

pub record IsNode (f : FileView) (me : ℕ) (node : NodeFile) : Type 0 where
  pub inside : me < f.planning.plan.size
  pub neighbours : node.neighbours.items ≡ neighbours_of f.planning.plan me
  pub imports : AreFiltersAt f direction.Import me node.imports.items
  pub exports : AreFiltersAt f direction.Export me node.exports.items

-- a node has this of its domain; and one that is not in it has nothing
abbrev pub IsAtNode : FileView → ℕ → Option NodeFile → Type 0
IsAtNode f me found = MatchOption found (f.planning.plan.size ≤ me) (IsNode f me)
