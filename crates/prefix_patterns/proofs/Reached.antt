-- A walk down a tree, in terms of the nodes that it meets.
use Rattle.std.proofs.Common.{◌≡◌, ℕ, zero, suc, ◌+◌, ◌<◌, ◌≤◌, Bool, true, false, Some, None, List, [], ◌∷◌, length}
use Rattle.std.proofs.Common.{sym, ◌∙◌, arith, slice_get, get_or, subst}
use Rattle.std.proofs.lemmas.Option.{get_or_from_slice_get, slice_get-get_or, slice_get_within}
use Rattle.std.specs.List.{list_any}
use Rattle.prefix_patterns.specs.Bits.{address_length}
use Rattle.prefix_patterns.specs.Matching.{PrefixPattern, matches_any}
use Rattle.prefix_patterns.specs.Trees.{AllAgree, IsLeafOf, IsUnion, IsUnionOfEnds, Reached, StandsFor, hits, child, has_length, side, tree_levels}
use Rattle.prefix_patterns.specs.declared.leaf.Leaf.{Leaf}
use Rattle.prefix_patterns.specs.declared.tree.Node.{Node}
use Rattle.prefix_patterns.specs.declared.tree.Subtree.{Subtree}
use Rattle.prefix_patterns.specs.declared.tree.Subtree.TheVariants.{Few, Inner}
use Rattle.prefix_patterns.proofs.Walks.{all_agree_at_first, all_agree_below, any_hits, below_hits, goes_down, own_hits}

pub at_root : (nodes : List Node) (leaves : List Leaf) (prefix : List Bool) (all : List PrefixPattern) (root : Subtree) →
    StandsFor tree_levels nodes leaves 0 root all →
    Reached nodes leaves prefix all 0 root
at_root nodes leaves prefix all root h = record {
  levels = tree_levels;
  part = all;
  stands = h;
  agreed = all_agree_at_first prefix all;
  same = any_hits prefix all;
}

-- a leaf is there, and its patterns decide
module _ (nodes : List Node) (leaves : List Leaf) (prefix : List Bool) (all : List PrefixPattern) (depth at : ℕ)
    (r : Reached nodes leaves prefix all depth (Few at)) where
  pub leaf_within : at < length leaves
  leaf_within = let (leaf, is, of) = r.stands in slice_get_within leaves at leaf is

  pub at_leaf : (d : Leaf) → (part : List PrefixPattern) × IsLeafOf (get_or leaves at d) part
      × (matches_any prefix all ≡ matches_any prefix part)
  at_leaf d =
      let (leaf, is, of) = r.stands in
      let same : leaf ≡ get_or leaves at d = sym (get_or_from_slice_get leaves at leaf d is) in
      (r.part, subst (λ l. IsLeafOf l r.part) same of, r.same ∙ sym (any_hits prefix r.part))

node_in : (nodes : List Node) (leaves : List Leaf) (depth at levels : ℕ) (part : List PrefixPattern) →
    StandsFor levels nodes leaves depth (Inner at) part →
    (node : Node) × (slice_get nodes at ≡ Some node)
node_in nodes leaves depth at zero part h = absurd h
node_in nodes leaves depth at (suc levels) part (node, is, own, below, zeros, ones) = (node, is)

-- a node is there
pub node_within : (nodes : List Node) (leaves : List Leaf) (prefix : List Bool) (all : List PrefixPattern) (depth at : ℕ) →
    Reached nodes leaves prefix all depth (Inner at) → at < length nodes
node_within nodes leaves prefix all depth at r =
    let (node, is) = node_in nodes leaves depth at r.levels r.part r.stands in
    slice_get_within nodes at node is

-- a node of which all is known that a walk needs
pub record IsMet (nodes : List Node) (leaves : List Leaf) (prefix : List Bool) (all : List PrefixPattern) (depth : ℕ)
    (node : Node) : Type 0 where
  pub levels : ℕ
  pub part : List PrefixPattern
  pub own : IsUnionOfEnds depth node.own part
  pub below : IsUnion node.below part
  pub zero_side : StandsFor levels nodes leaves (depth + 1) node.zero (side false depth part)
  pub one_side : StandsFor levels nodes leaves (depth + 1) node.one (side true depth part)
  pub agreed : AllAgree depth prefix part
  pub same : matches_any prefix all ≡ list_any (hits prefix) part

met_at : (nodes : List Node) (leaves : List Leaf) (prefix : List Bool) (all : List PrefixPattern) (depth at : ℕ)
    (node : Node) (levels : ℕ)
    (part : List PrefixPattern) → slice_get nodes at ≡ Some node → StandsFor levels nodes leaves depth (Inner at) part →
    AllAgree depth prefix part → matches_any prefix all ≡ list_any (hits prefix) part → IsMet nodes leaves prefix all depth node
met_at nodes leaves prefix all depth at node zero part here h agree same = absurd h
met_at nodes leaves prefix all depth at node (suc levels) part here (found, is, own, below, zeros, ones) agree same =
    let e : found ≡ node = cc in
    subst (IsMet nodes leaves prefix all depth) e (record {
      levels = levels;
      part = part;
      own = own;
      below = below;
      zero_side = zeros;
      one_side = ones;
      agreed = agree;
      same = same;
    })

pub met : (nodes : List Node) (leaves : List Leaf) (prefix : List Bool) (all : List PrefixPattern) (depth at : ℕ) (node : Node) →
    slice_get nodes at ≡ Some node → Reached nodes leaves prefix all depth (Inner at) → IsMet nodes leaves prefix all depth node
met nodes leaves prefix all depth at node here r = met_at nodes leaves prefix all depth at node r.levels r.part here r.stands r.agreed
    r.same

pub met_here : (nodes : List Node) (leaves : List Leaf) (prefix : List Bool) (all : List PrefixPattern) (depth at : ℕ) (d : Node) →
    Reached nodes leaves prefix all depth (Inner at) → IsMet nodes leaves prefix all depth (get_or nodes at d)
met_here nodes leaves prefix all depth at d r =
    let within = node_within nodes leaves prefix all depth at r in
    met nodes leaves prefix all depth at (get_or nodes at d) (slice_get-get_or nodes at d within) r

-- a list without an item at a place is not longer
pub over_from_none : {A : Type 0} (xs : List A) (i : ℕ) → slice_get xs i ≡ None → length xs ≤ i
over_from_none [] i e = omega arith
over_from_none (x ∷ xs) zero e = cc
over_from_none (x ∷ xs) (suc i) e = let more = over_from_none xs i e in omega arith

child_side : (nodes : List Node) (leaves : List Leaf) (depth levels : ℕ) (node : Node) (part : List PrefixPattern) (b : Bool) →
    StandsFor levels nodes leaves (depth + 1) node.zero (side false depth part) →
    StandsFor levels nodes leaves (depth + 1) node.one (side true depth part) →
    StandsFor levels nodes leaves (depth + 1) (child b node) (side b depth part)
child_side nodes leaves depth levels node part false zeros ones = zeros
child_side nodes leaves depth levels node part true zeros ones = ones

module _ (nodes : List Node) (leaves : List Leaf) (prefix : List Bool) (all : List PrefixPattern) (depth : ℕ) (node : Node)
    (limit : length prefix ≤ address_length) (m : IsMet nodes leaves prefix all depth node) where
  pub own_found : has_length node.own (length prefix) ≡ true → matches_any prefix all ≡ true
  own_found h = m.same ∙ own_hits depth prefix m.part m.agreed (sym (m.own (length prefix) limit) ∙ h)

  pub ended : length prefix ≤ depth → matches_any prefix all ≡ has_length node.below (length prefix)
  ended over = m.same ∙ below_hits depth prefix m.part m.agreed over ∙ sym (m.below (length prefix) limit)

  pub gone_down : (b : Bool) → has_length node.own (length prefix) ≡ false → slice_get prefix depth ≡ Some b →
      Reached nodes leaves prefix all (depth + 1) (child b node)
  gone_down b own bit = record {
    levels = m.levels;
    part = side b depth m.part;
    stands = child_side nodes leaves depth m.levels node m.part b m.zero_side m.one_side;
    agreed = all_agree_below depth prefix b m.part m.agreed bit;
    same = m.same ∙ goes_down depth prefix b m.part m.agreed bit (sym (m.own (length prefix) limit) ∙ own);
  }
