-- What a router tells programs has no float.
use Rattle.std.proofs.Common.{◌≡◌, ◌∙◌, ◌||◌, ℕ, zero, suc, Bool, true, false, List, [], ◌∷◌, ◌++◌, Option, Some, None, refl, ap}
use Rattle.netchange_core.specs.Best.{best}
use Rattle.netchange_core.specs.World.{World}
use Rattle.serde_json.specs.Data.{Data}
use Rattle.serde_json.specs.View.{items_of}
use Rattle.serde_json.specs.Written.{has_float, items_have_float}
use Rattle.router_status.specs.Objects.{all_routes_data, below, filter_or_null, link_data, links_data, next_hop, number_or_null}
use Rattle.router_status.specs.Objects.{route_data, routes_data, session_in, status_data, text_or_null}
use Rattle.router_status.specs.Status.{LinkView, NamedView, StatusView, name_of}
use Rattle.router_status.specs.declared.status.FilterStatus.{FilterStatus}

neither : (a b : Bool) → a ≡ false → b ≡ false → (a || b) ≡ false
neither a b p q = ap (λ (x : Bool). x || b) p ∙ q

first_not : (a b : Bool) → (a || b) ≡ false → a ≡ false
first_not false b h = refl
first_not true b h = h

second_not : (a b : Bool) → (a || b) ≡ false → b ≡ false
second_not false b h = h
second_not true b h = cc

number_not : (number : Option ℕ) → has_float (number_or_null number) ≡ false
number_not None = refl
number_not (Some n) = refl

text_not : (text : Option (List ℕ)) → has_float (text_or_null text) ≡ false
text_not None = refl
text_not (Some t) = refl

-- the same of a part and of those behind it
also_not : (d : Data) (rest : Bool) → has_float d ≡ false → rest ≡ false → (has_float d || rest) ≡ false
also_not d rest p q = neither (has_float d) rest p q

filter_not : (filter : Option FilterStatus) (named : Option NamedView) → has_float (filter_or_null filter named) ≡ false
filter_not None named = refl
filter_not (Some filter) named = also_not (text_or_null (name_of filter named)) false (text_not (name_of filter named)) refl

-- ---- the router

link_not : (link : LinkView) → has_float (link_data link) ≡ false
link_not link =
    also_not (text_or_null link.ended) _ (text_not link.ended)
    (also_not (filter_or_null link.export_status link.export_named) _ (filter_not link.export_status link.export_named)
    (also_not (filter_or_null link.import_status link.import_named) _ (filter_not link.import_status link.import_named)
    (also_not (number_or_null (session_in link.state)) _ (number_not (session_in link.state))
    (also_not (number_or_null link.unheard) false (number_not link.unheard) refl))))

links_not : (links : List LinkView) → items_have_float (links_data links) ≡ false
links_not [] = refl
links_not (link ∷ links) = neither (has_float (link_data link)) (items_have_float (links_data links)) (link_not link) (links_not links)

pub status_not : (status : StatusView) → has_float (status_data status) ≡ false
status_not status =
    also_not (number_or_null status.bytes) _ (number_not status.bytes)
    (also_not (text_or_null status.domain) _ (text_not status.domain)
    (neither (items_have_float (links_data status.links)) _ (links_not status.links)
    (also_not (number_or_null status.saved) _ (number_not status.saved)
    (also_not (number_or_null status.segments) false (number_not status.segments) refl))))

-- ---- its routes

route_not : (w : World) (node : ℕ) → has_float (route_data w node) ≡ false
route_not w node =
    neither (has_float (number_or_null (next_hop (best w node).via))) false (number_not (next_hop (best w node).via)) refl

both_not : (xs ys : List Data) → items_have_float (items_of xs) ≡ false → items_have_float (items_of ys) ≡ false
    → items_have_float (items_of (xs ++ ys)) ≡ false
both_not [] ys p q = q
both_not (x ∷ xs) ys p q =
    neither (has_float x) (items_have_float (items_of (xs ++ ys))) (first_not (has_float x) (items_have_float (items_of xs)) p)
    (both_not xs ys (second_not (has_float x) (items_have_float (items_of xs)) p) q)

below_not : (data_of : ℕ → Data) → ((node : ℕ) → has_float (data_of node) ≡ false) → (n : ℕ) → items_have_float (items_of (below n data_of)) ≡ false
unfolding below
below_not data_of each zero = refl
below_not data_of each (suc n) =
    both_not (below n data_of) (data_of n ∷ []) (below_not data_of each n) (neither (has_float (data_of n)) false (each n) refl)

pub routes_not : (w : World) → has_float (all_routes_data w) ≡ false
routes_not w =
    neither (items_have_float (routes_data w)) false (below_not (route_data w) (route_not w) w.opening.size) refl
