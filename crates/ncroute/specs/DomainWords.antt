-- What the file of a domain says to one of its routers, as if the command line had said it. (This project's own choice.)
use Rattle.std.specs.Prelude.{◌≡◌, ℕ, ◌==◌, Bool, true, false, not, List, [], ◌∷◌, ◌++◌, Option, Some, None, String, if◌then◌else◌}
use Rattle.std.specs.Prelude.{is_some, length, map, slice_index_or, string_bytes, decimal}
use Rattle.std.specs.List.{enumerate_from, find, list_any}
use Rattle.std.specs.Option.{option_map}
use Rattle.std.specs.declared.alloc.Global.{Global}
use Rattle.command_line.specs.declared.filter_words.NamedFile.{NamedFile}
use Rattle.command_line.specs.declared.router_words.RouterWords.{RouterWords}
use Rattle.domain_cmds.specs.Failures.{lists_below}
use Rattle.domain_cmds.specs.State.{Named}
use Rattle.domain_files.specs.FileView.{FileView}
use Rattle.domain_files.specs.declared.node.FilterAt.{FilterAt}
use Rattle.domain_files.specs.declared.node.NodeFile.{NodeFile}
use Rattle.operator_cmds.specs.declared.event.Direction.{Direction}
use Rattle.operator_cmds.specs.declared.event.Direction.TheVariants as direction
use Rattle.prefix_patterns.specs.Spelling.{prefix_text}
use Rattle.router_files.specs.declared.options.RouterOption.{RouterOption}
use Rattle.router_files.specs.declared.options.RouterOption.TheVariants as option
use Rattle.router_options.specs.declared.parts.LinkFiles.{LinkFiles}
use Rattle.ncroute.specs.declared.domain_words.DomainFault.{DomainFault}
use Rattle.ncroute.specs.declared.domain_words.DomainFault.TheVariants.{NoNeighbour, NoStreams}

-- ---- what is said beside it

abbrev pub is_said : {A : Type 0} → List A → Bool
is_said [] = false
is_said (one ∷ others) = true

abbrev pub said_beside : RouterWords → Option RouterOption
said_beside words =
    if is_some words.size then Some option.Size else
    if is_said words.prefixes.items then Some option.Prefix else
    if is_said words.filters.items then Some option.Filter else
    if is_said words.imports.items then Some option.Import else
    if is_said words.exports.items then Some option.Export else None

-- ---- texts

abbrev pub Texts : Type 0
Texts = List (String Global)

abbrev pub prefix_said : List Bool → ℕ → List ℕ
prefix_said prefix v = decimal v ++ 61 ∷ prefix_text prefix

abbrev pub prefix_at : List (List Bool) → ℕ → List (List ℕ)
prefix_at prefixes v = prefix_said (slice_index_or prefixes v []) v ∷ []

abbrev pub ArePrefixes : List (List Bool) → Texts → Type 0
ArePrefixes prefixes texts = map (λ text. string_bytes text) texts ≡ lists_below (length prefixes) (prefix_at prefixes)

abbrev pub IsText : List ℕ → String Global → Type 0
IsText name text = string_bytes text ≡ name

abbrev pub use_said : FilterAt → List ℕ
use_said used = decimal used.node ++ 61 ∷ used.name.items

abbrev pub AreUses : List FilterAt → Texts → Type 0
AreUses uses texts = map (λ text. string_bytes text) texts ≡ map use_said uses

abbrev pub name_of_filter : NamedFile → List ℕ
name_of_filter named = string_bytes named.name

abbrev pub AreNamed : Named → List NamedFile → Type 0
AreNamed filters named = map name_of_filter named ≡ map (λ entry. entry.0.items) filters

abbrev pub AreCopies : Texts → Texts → Type 0
AreCopies texts copies = map (λ text. string_bytes text) copies ≡ map (λ text. string_bytes text) texts

abbrev pub IsCopy : Option (String Global) → Option (String Global) → Type 0
IsCopy text copy = option_map (λ it. string_bytes it) copy ≡ option_map (λ it. string_bytes it) text

-- ---- all words

abbrev pub uses_of : Direction → Option NodeFile → List FilterAt
uses_of way None = []
uses_of direction.Import (Some node) = node.imports.items
uses_of direction.Export (Some node) = node.exports.items

-- size, prefixes, filters and their uses are those of the file, and all else is as it was said
pub record SaysDomain (words : RouterWords) (file : FileView) (node : Option NodeFile) (all : RouterWords) : Type 0 where
  pub config : all.config ≡ None
  pub domain : all.domain ≡ None
  pub checks : all.checks ≡ words.checks
  pub allows_other : all.allows_other ≡ words.allows_other
  pub size : all.size ≡ Some file.planning.plan.size
  pub me : all.node ≡ words.node
  pub limit : all.limit ≡ words.limit
  pub queue : all.queue ≡ words.queue
  pub retry : all.retry ≡ words.retry
  pub hold : all.hold ≡ words.hold
  pub save : IsCopy words.save all.save
  pub segments : all.segments ≡ words.segments
  pub routes : IsCopy words.routes all.routes
  pub settle : all.settle ≡ words.settle
  pub log : IsCopy words.log all.log
  pub stays : all.stays ≡ words.stays
  pub prefixes : ArePrefixes file.planning.plan.prefixes all.prefixes.items
  pub filters : AreNamed file.planning.filters all.filters.items
  pub imports : AreUses (uses_of direction.Import node) all.imports.items
  pub exports : AreUses (uses_of direction.Export node) all.exports.items
  pub links : AreCopies words.links.items all.links.items
  pub controls : AreCopies words.controls.items all.controls.items

-- ---- links and neighbours

abbrev pub is_among : List ℕ → ℕ → Bool
is_among nodes node = list_any (λ other. other == node) nodes

abbrev pub has_link : List LinkFiles → ℕ → Bool
has_link links node = list_any (λ link. link.node == node) links

-- the first of some links, of which the first has this number, that leads to no neighbour
abbrev pub stranger_from : ℕ → List LinkFiles → List ℕ → Option DomainFault
stranger_from at links neighbours = option_map (λ placed. NoNeighbour placed.0 placed.1.node)
    (find (λ placed. not (is_among neighbours placed.1.node)) (enumerate_from at links))

-- the first neighbour that has none
abbrev pub unserved : List LinkFiles → List ℕ → Option DomainFault
unserved links neighbours = option_map (λ node. NoStreams node) (find (λ node. not (has_link links node)) neighbours)

abbrev pub or_else : Option DomainFault → Option DomainFault → Option DomainFault
or_else None other = other
or_else (Some fault) other = Some fault

-- a link too many counts first, then one that is missing; a node that is not in the domain has no links to compare
abbrev pub unfit_beside : List LinkFiles → List ℕ → Option DomainFault
unfit_beside links neighbours = or_else (stranger_from 0 links neighbours) (unserved links neighbours)

abbrev pub unfit_of : List LinkFiles → Option NodeFile → Option DomainFault
unfit_of links None = None
unfit_of links (Some node) = unfit_beside links node.neighbours.items
