-- A plan without links and filters.
use Rattle.std.proofs.Common.{◌≡◌, ℕ, ◌<◌, ◌≤◌, List, [], Bool, length, replicate, slice_index_or, ap, subst, sym, refl, ◌∙◌, arith, ⊎_elim}
use Rattle.std.proofs.lemmas.Bool.{cases_lt}
use Rattle.std.proofs.lemmas.List.{get_or-replicate, get_or_past, length-replicate}
use Rattle.netchange_core.specs.Kept.{FitsSize}
use Rattle.domain_routes.specs.Edits.{unlinked}
use Rattle.domain_routes.specs.PlanView.{IsPlan, IsSize, PeerView, peer, stranger}

-- an element of a list of one thing, or that thing past its end
of_replicate : {X : Type 0} (n i : ℕ) (x : X) → slice_index_or (replicate n x) i x ≡ x
of_replicate n i x = ⊎_elim
    (λ (less : i < n). get_or-replicate n i x x less)
    (λ (more : n ≤ i). get_or_past (replicate n x) i x (omega (arith, length-replicate n x, more)))
    (cases_lt i n)

pub strange : (prefixes : List (List Bool)) (u w : ℕ) → peer (unlinked prefixes) u w ≡ stranger
strange prefixes u w = ⊎_elim
    (λ (less : u < length prefixes).
    ap (λ (r : List PeerView). slice_index_or r w stranger)
    (get_or-replicate (length prefixes) u (replicate (length prefixes) stranger) [] less)
    ∙ of_replicate (length prefixes) w stranger)
    (λ (more : length prefixes ≤ u).
    ap (λ (r : List PeerView). slice_index_or r w stranger)
    (get_or_past (replicate (length prefixes) (replicate (length prefixes) stranger)) u []
    (omega (arith, length-replicate (length prefixes) (replicate (length prefixes) stranger), more))))
    (cases_lt u (length prefixes))

pub unlinked_plan : (prefixes : List (List Bool)) → IsSize (length prefixes) → IsPlan (unlinked prefixes)
unlinked_plan prefixes size = record {
  size = size;
  one_a_node = refl;
  places = record {
    rows = length-replicate (length prefixes) (replicate (length prefixes) stranger);
    places = λ u short. ap (λ (r : List PeerView). length r)
        (get_or-replicate (length prefixes) u (replicate (length prefixes) stranger) [] short)
        ∙ length-replicate (length prefixes) stranger;
  };
  apart = λ u. ap (λ (c : PeerView). c.linked) (strange prefixes u u);
  both_ways = λ u w. ap (λ (c : PeerView). c.linked) (strange prefixes u w ∙ sym (strange prefixes w u));
  imports = λ u w. subst (λ (c : PeerView). FitsSize (length prefixes) c.imports) (sym (strange prefixes u w)) tt;
  exports = λ u w. subst (λ (c : PeerView). FitsSize (length prefixes) c.exports) (sym (strange prefixes u w)) tt;
}
