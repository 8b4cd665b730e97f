-- Two routers enter that the channel between them is there, or failed.
use Rattle.std.proofs.Common.{◌≡◌, ℕ, ◌<◌, true, false, List, [], length, slice_set, refl}
use Rattle.std.proofs.Common.{sym, ap, ◌∙◌, arith, inl, inr, get_or-set_other, length-set}
use Rattle.std.proofs.lemmas.Bool.{cases_Bool}
use Rattle.netchange_core.specs.declared.event.Event.{Event}
use Rattle.netchange_core.specs.declared.event.Event.TheVariants as event
use Rattle.netchange_core.specs.Calls.{session_of}
use Rattle.netchange_core.specs.Next.{is_no_neighbour, next}
use Rattle.netchange_core.specs.World.{World}
use Rattle.routing_domain.specs.Domain.{Domain, IsInOrder, are_linked}
use Rattle.routing_domain.specs.Events.{cuts, enters, enters_in, in_session, links}
use Rattle.domain_player.specs.Play.{domain_of, nowhere, router_at}
use Rattle.domain_player.proofs.Domains.{enters_as, enters_in_as, nothing_lost}
use Rattle.domain_player.proofs.Entering.{is_neighbour}

-- in a domain in order: another node is a possible neighbour, and links are the same from both ends
pub other_is_neighbour : (d : Domain) (u w : ℕ) → IsInOrder d → u < d.size → w < d.size → (u ≡ w → ⊥) → is_no_neighbour (d.router u).opening w ≡ false
other_is_neighbour d u w o from to apart =
    is_neighbour (d.router u).opening w (omega (arith, to, o.size u from)) (λ same. apart (sym (o.me u from) ∙ sym same))

pub unlinked_back : (d : Domain) (u w : ℕ) → IsInOrder d → u < d.size → w < d.size → are_linked d u w ≡ false → are_linked d w u ≡ false
unlinked_back d u w o from to unlinked = elim (cases_Bool (are_linked d w u)) [
  | inl linked ↦ absurd (let h : true ≡ false = sym (o.both_ways w u to from linked) ∙ unlinked in cc)
  | inr down ↦ down
]

pub linked_apart : (d : Domain) (u w : ℕ) → IsInOrder d → u < d.size → are_linked d u w ≡ true → u ≡ w → ⊥
linked_apart d u w o from linked same =
    let h : true ≡ false = sym linked ∙ ap (are_linked d u) (sym same) ∙ o.apart u from in cc

-- the other router, after one entered its event
pub router_still : (ws : List World) (u w : ℕ) (r : World) → (u ≡ w → ⊥) → router_at (slice_set ws u r) w ≡ router_at ws w
router_still ws u w r apart = get_or-set_other ws u w r nowhere (λ e. apart (sym e))

pub links_as : (ws : List World) (u w : ℕ) (r s : World) → u < length ws → w < length ws →
    r ≡ (next (router_at ws u) (event.Up w)).world → s ≡ (next (router_at (slice_set ws u r) w) (event.Up u)).world →
    domain_of (slice_set (slice_set ws u r) w s) [] ≡ links (domain_of ws []) u w
links_as ws u w r s from to first second =
    enters_as (slice_set ws u r) [] w s (event.Up u) (omega (arith, to, length-set ws u r)) second
    ∙ ap (λ e. enters e w (event.Up u)) (enters_as ws [] u r (event.Up w) from first)

abbrev pub goes : ℕ → Event
goes s = event.Down s

pub cuts_as : (ws : List World) (u w : ℕ) (r s : World) → u < length ws → w < length ws → (u ≡ w → ⊥) →
    r ≡ in_session (router_at ws u) (session_of (router_at ws u) w) goes →
    s ≡ in_session (router_at (slice_set ws u r) w) (session_of (router_at (slice_set ws u r) w) u) goes →
    domain_of (slice_set (slice_set ws u r) w s) [] ≡ cuts (domain_of ws []) u w
cuts_as ws u w r s from to apart first second =
    enters_in_as (slice_set ws u r) [] w s (session_of (router_at (slice_set ws u r) w) u) goes (omega (arith, to, length-set ws u r)) second
    ∙ ap (λ e. enters_in e w (session_of (router_at (slice_set ws u r) w) u) goes)
    (enters_in_as ws [] u r (session_of (router_at ws u) w) goes from first)
    ∙ ap (λ t. enters_in down w (session_of t u) goes) (router_still ws u w r apart)
    ∙ sym (nothing_lost (enters_in down w (session_of (router_at ws w) u) goes) u w (λ a b. refl))
  where
    down : Domain
    down = enters_in (domain_of ws []) u (session_of (router_at ws u) w) goes
