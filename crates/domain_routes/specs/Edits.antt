-- Changes of a plan.
use Rattle.std.specs.Prelude.{ℕ, Bool, None, Some, List, [], length, replicate, slice_index_or, slice_set}
use Rattle.filter_verifier.specs.VerifiedView.{VerifiedView}
use Rattle.domain_routes.specs.PlanView.{PeerView, PlanView, peer, stranger}

-- a plan without links and filters, of nodes with these prefixes
abbrev pub unlinked : List (List Bool) → PlanView
unlinked prefixes = record {
  size = length prefixes;
  prefixes = prefixes;
  rows = replicate (length prefixes) (replicate (length prefixes) stranger);
}

-- a plan where a node has another prefix
abbrev pub with_prefix : ℕ → List Bool → PlanView → PlanView
with_prefix v prefix p = record p { prefixes = slice_set p.prefixes v prefix }

-- a plan where the first node has this for the second
abbrev pub put : ℕ → ℕ → PeerView → PlanView → PlanView
put u w x p = record p { rows = slice_set p.rows u (slice_set (slice_index_or p.rows u []) w x) }

-- a plan where there is a link between two nodes, or none; first as the first of them has it
abbrev pub half_linking : Bool → ℕ → ℕ → PlanView → PlanView
half_linking linked u w p = put u w (record (peer p u w) { linked = linked }) p

abbrev pub linking : Bool → ℕ → ℕ → PlanView → PlanView
linking linked u w p = half_linking linked w u (half_linking linked u w p)

-- a plan where what the first node receives from the second, or tells it, passes a filter
abbrev pub importing : VerifiedView → ℕ → ℕ → PlanView → PlanView
importing f u w p = put u w (record (peer p u w) { imports = Some f }) p

abbrev pub exporting : VerifiedView → ℕ → ℕ → PlanView → PlanView
exporting f u w p = put u w (record (peer p u w) { exports = Some f }) p

-- a plan where what the first node receives from the second passes no filter: first none of the first, then none of the second
abbrev pub half_unfiltered : ℕ → ℕ → PlanView → PlanView
half_unfiltered u w p = put u w (record (peer p u w) { imports = None }) p

abbrev pub unfiltered : ℕ → ℕ → PlanView → PlanView
unfiltered u w p = put w u (record (peer (half_unfiltered u w p) w u) { exports = None }) (half_unfiltered u w p)
