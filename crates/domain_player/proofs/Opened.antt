-- Routers that are just opened, one after another.
use Rattle.std.proofs.Common.{◌≡◌, ⊎_elim, ℕ, ◌+◌, ◌<◌, ◌≤◌, List, [], ◌∷◌, ◌++◌, length, refl, sym, ap, ◌∙◌, arith, length-append}
use Rattle.std.specs.Prelude.{Bool}
use Rattle.std.proofs.lemmas.Bool.{cases_lt}
use Rattle.std.proofs.lemmas.List.{get_or_append_left, get_or_push}
use Rattle.netchange_core.specs.Calls.{opened}
use Rattle.netchange_core.specs.OpeningView.{IsOpening}
use Rattle.netchange_core.specs.World.{World}
use Rattle.routing_domain.specs.Domain.{AreOpenings, IsInOrder, IsSame, opened_domain}
use Rattle.routing_domain.proofs.Same.{same_in_order}
use Rattle.routing_domain.proofs.Starting.{opened_in_order}
use Rattle.domain_player.specs.Play.{AreOpened, domain_of, nowhere, opening_of, router_at}

pub opened_more : (prefixes : List (List Bool)) (ts : List World) (t : World) (k : ℕ) → AreOpened prefixes k ts →
    t ≡ opened (opening_of prefixes k) → AreOpened prefixes (k + 1) (ts ++ t ∷ [])
opened_more prefixes ts t k before this = record {
  one_a_node = omega (arith, before.one_a_node, length-append ts (t ∷ []));
  each = λ u below.
      ⊎_elim
      (λ early. get_or_append_left ts (t ∷ []) nowhere u (omega (arith, early, before.one_a_node)) ∙ before.each u early)
      (λ late.
      let last : u ≡ k = omega (arith, below, late) in
      ap (router_at (ts ++ t ∷ [])) last ∙ get_or_push ts t nowhere k before.one_a_node ∙ this ∙ ap (λ x. opened (opening_of prefixes x)) (sym last))
      (cases_lt u k);
}

pub is_opening : (prefixes : List (List Bool)) (u : ℕ) → 2 ≤ length prefixes → length prefixes ≤ 250 → u < length prefixes → IsOpening (opening_of prefixes u)
is_opening prefixes u least most member = record { from_two = least; to_largest = most; member = member; one_a_node = refl }

pub opened_same : (prefixes : List (List Bool)) (ts : List World) → AreOpened prefixes (length prefixes) ts →
    IsSame (opened_domain (length prefixes) (opening_of prefixes)) (domain_of ts [])
opened_same prefixes ts all = record { size = all.one_a_node; routers = all.each; flights = λ u w from to. refl }

pub opened_routers_in_order : (prefixes : List (List Bool)) (ts : List World) → AreOpened prefixes (length prefixes) ts → IsInOrder (domain_of ts [])
opened_routers_in_order prefixes ts all =
    same_in_order (opened_domain (length prefixes) (opening_of prefixes)) (domain_of ts []) (opened_same prefixes ts all)
    (opened_in_order (length prefixes) (opening_of prefixes) (record { size = λ u below. refl; me = λ u below. refl }))

-- the domain of no nodes
pub closed_in_order : IsInOrder (domain_of [] [])
closed_in_order = record {
  size = λ u below. absurd (omega (arith, below));
  me = λ u below. absurd (omega (arith, below));
  tables = λ u below. absurd (omega (arith, below));
  sound = λ u below. absurd (omega (arith, below));
  apart = λ u below. absurd (omega (arith, below));
  both_ways = λ u w below. absurd (omega (arith, below));
  within = λ u w below. absurd (omega (arith, below));
  silent = λ u w below. absurd (omega (arith, below));
  told = λ u w v below. absurd (omega (arith, below));
}
