-- What each name is defined as.
use Rattle.std.specs.Prelude.{ℕ, List, Vec, length, unwrap_or}
use Rattle.std.specs.BTreeMap.{BTreeMap, get_by}
use Rattle.std.specs.Cmp.Lexicographic.{slice_cmp}
use Rattle.std.specs.Ordering.{nat_cmp}
use Rattle.std.specs.declared.alloc.Global.{Global}
use Rattle.bird_import.specs.Stuck.{IsFound}
use Rattle.bird_import.specs.declared.config.Config.{Config}
use Rattle.bird_import.specs.declared.defines.NameDefinition.{NameDefinition}
use Rattle.bird_import.specs.declared.defines.NameDefinition.TheVariants as found

-- what a table says of a name
abbrev pub found_of : BTreeMap (Vec ℕ Global) NameDefinition → List ℕ → NameDefinition
found_of names name = unwrap_or (get_by (λ key. slice_cmp nat_cmp name key.items) names) found.Never

-- it says of each name what is found of it among so many definitions of a configuration, or among all
abbrev pub Knows : Config → ℕ → BTreeMap (Vec ℕ Global) NameDefinition → Type 0
Knows config n names = (name : List ℕ) → IsFound config name n (found_of names name)

abbrev pub KnowsAll : Config → BTreeMap (Vec ℕ Global) NameDefinition → Type 0
KnowsAll config names = Knows config (length config.definitions.now) names
