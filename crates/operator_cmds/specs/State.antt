-- What contracts see of the filters that have names.
use Rattle.std.specs.Prelude.{ℕ, List, Option, Vec}
use Rattle.std.specs.BTreeMap.{BTreeMap, get_by}
use Rattle.std.specs.Cmp.Lexicographic.{slice_cmp}
use Rattle.std.specs.Option.{option_map}
use Rattle.std.specs.Ordering.{nat_cmp}
use Rattle.std.specs.declared.sync.Arc.{Arc}
use Rattle.std.specs.declared.alloc.Global.{Global}
use Rattle.filter_verifier.specs.VerifiedView.{VerifiedView}

-- the filter of a name
abbrev pub filter_at : BTreeMap (Vec ℕ Global) (Arc VerifiedView Global) → List ℕ → Option VerifiedView
filter_at filters name = option_map (λ f. f.value) (get_by (λ key. slice_cmp nat_cmp name key.items) filters)
