-- Worked rows: three nodes in a row, of which one hears another through a filter.
use Rattle.std.proofs.Common.{◌≡◌, true, false, None, [], ◌∷◌, refl}
use Rattle.filter_verifier.specs.VerifiedView.{VerifiedView}
use Rattle.domain_routes.specs.Edits.{importing}
use Rattle.domain_routes.specs.PlanView.{PeerView, PlanView, is_linked, stranger}
use Rattle.domain_routes.specs.Still.{BetweenView, after_anew, after_filter, after_link, is_unfiltered, loose_between, unchanged}

abbrev friend : PeerView
friend = record { linked = true; imports = None; exports = None }

abbrev row : PlanView
row = record {
  size = 3;
  prefixes = [] ∷ [] ∷ [] ∷ [];
  rows = (stranger ∷ friend ∷ stranger ∷ []) ∷ (friend ∷ stranger ∷ friend ∷ []) ∷ (stranger ∷ friend ∷ stranger ∷ []) ∷ [];
}

module _ (f : VerifiedView) where
  -- node 1 has a filter for what it receives from node 0
  abbrev filtered : PlanView
  filtered = importing f 1 0 row

  -- a link came or went: it may be there or not, its filter stays, and no other link is touched
  abbrev flapped : BetweenView
  flapped = after_link 0 1 (unchanged filtered)

  flap_is_loose : (loose_between flapped).links 1 0 ≡ true
  flap_is_loose = refl

  other_is_not : (loose_between flapped).links 1 2 ≡ false
  other_is_not = refl

  filter_stays : (loose_between flapped).filters 1 0 ≡ false
  filter_stays = refl

  -- where it was set anew, it may be any; that of what node 0 receives from node 1 is none of it
  abbrev replaced : BetweenView
  replaced = after_filter 1 0 (unchanged filtered)

  filter_is_loose : (loose_between replaced).filters 1 0 ≡ true
  filter_is_loose = refl

  none_is_left : is_unfiltered replaced.most 1 0 ≡ true
  none_is_left = refl

  link_may_go : is_linked replaced.least 0 1 ≡ false
  link_may_go = refl

  -- set in the other direction, the filter stays
  other_way : is_unfiltered (after_filter 0 1 (unchanged filtered)).most 1 0 ≡ false
  other_way = refl

-- node 1 began anew: both links came and went, and no third one
anew_first : (loose_between (after_anew row 1 (unchanged row))).links 0 1 ≡ true
anew_first = refl

anew_second : (loose_between (after_anew row 1 (unchanged row))).links 2 1 ≡ true
anew_second = refl

anew_no_third : (loose_between (after_anew row 1 (unchanged row))).links 0 2 ≡ false
anew_no_third = refl

-- of node 0 only its own
anew_of_the_first : (loose_between (after_anew row 0 (unchanged row))).links 1 2 ≡ false
anew_of_the_first = refl
