-- What the files of a running router say when they are read again. (This project's own choice.)
use Rattle.std.specs.Prelude.{◌≡◌, ◌==◌, ℕ, ◌++◌, Bool, true, false, List, [], ◌∷◌, Option, Some, None, Result, Ok, codes, if◌then◌else◌, map}
use Rattle.std.specs.List.{flat_map, list_any}
use Rattle.std.specs.declared.alloc.AllocError.{AllocError}
use Rattle.domain_files.specs.FileView.{FileView}
use Rattle.domain_files.specs.Files.{IsFile}
use Rattle.domain_files.specs.Nodes.{IsNode}
use Rattle.domain_files.specs.declared.node.FilterAt.{FilterAt}
use Rattle.domain_files.specs.declared.node.NodeFile.{NodeFile}
use Rattle.filter_verifier.specs.VerifiedView.{VerifiedView}
use Rattle.operator_cmds.specs.Script.{GivesText, IsVerified}
use Rattle.operator_cmds.specs.declared.event.Direction.{Direction}
use Rattle.operator_cmds.specs.declared.event.Direction.TheVariants as direction
use Rattle.router_operator.specs.OperatorView.{Names, filter_of}
use Rattle.router_operator.specs.declared.configuration.NamedUse.{NamedUse}
use Rattle.ncroute.specs.declared.origins.DomainOrigin.{DomainOrigin}

-- the text spells a filter that is verified for domains of this size
abbrev pub SpellsFilter : ℕ → List ℕ → Type 0
SpellsFilter size text = (filter : VerifiedView) × IsVerified (GivesText text) size filter

-- ---- the uses of a node's filters

pub record UseView : Type 0 where
  pub direction : Direction
  pub node : ℕ
  pub name : List ℕ
  pub filter : VerifiedView
  pub is_plain : Bool

abbrev pub use_of : NamedUse → UseView
use_of used = record {
  direction = used.direction;
  node = used.node;
  name = used.name.items;
  filter = used.filter.value;
  is_plain = used.is_plain;
}

-- a use that the file says
abbrev pub use_with : Direction → FilterAt → Option VerifiedView → List UseView
use_with way at None = []
use_with way at (Some filter) =
    record { direction = way; node = at.node; name = at.name.items; filter = filter; is_plain = false } ∷ []

abbrev pub named_use : Direction → Names → FilterAt → List UseView
named_use way names at = use_with way at (filter_of names at.name.items)

-- what passes where it says none goes through a filter that lets all pass
abbrev pub plain_use : Direction → List FilterAt → VerifiedView → ℕ → List UseView
plain_use way said plain node =
    if list_any (λ at. at.node == node) said
    then []
    else record { direction = way; node = node; name = codes "-"; filter = plain; is_plain = true } ∷ []

-- those of a direction, and all
abbrev pub uses_toward : Direction → Names → List FilterAt → List ℕ → VerifiedView → List UseView
uses_toward way names said neighbours plain = flat_map (named_use way names) said ++ flat_map (plain_use way said plain) neighbours

abbrev pub uses_at : NodeFile → Names → VerifiedView → List UseView
uses_at node names plain = uses_toward direction.Import names node.imports.items node.neighbours.items plain
    ++ uses_toward direction.Export names node.exports.items node.neighbours.items plain

abbrev pub plain_text : List ℕ
plain_text = codes "filter plain { accept; }"

-- ---- a configuration

-- a text sets up this domain
abbrev pub IsSomeFile : FileView → Type 0
IsSomeFile file = (whole : List ℕ) × IsFile whole file

-- a file says these filters and uses to a node
abbrev pub SaysTo : FileView → NodeFile → Names → List NamedUse → Type 0
SaysTo file node names uses = (names ≡ file.planning.filters)
    × (plain : VerifiedView) × IsVerified (GivesText plain_text) file.planning.plan.size plain
    × (map use_of uses ≡ uses_at node file.planning.filters plain)

-- some file of a domain says them to the node of this number
abbrev pub Says : ℕ → Names → List NamedUse → Type 0
Says me names uses = (file : FileView) × IsSomeFile file × (node : NodeFile) × IsNode file me node × SaysTo file node names uses

-- a router that was started from such a file is that node
abbrev pub SaysAgain : Result (Option DomainOrigin) AllocError → Names → List NamedUse → Type 0
SaysAgain origin names uses = (domain : DomainOrigin) × (origin ≡ Ok (Some domain)) × Says domain.me names uses
