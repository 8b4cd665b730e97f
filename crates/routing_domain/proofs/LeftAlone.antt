-- A whole network that is left alone stays whole, and runs as its domain does.
use mathlib.Core.Logic.{inl, inr}
use Rattle.std.proofs.Common.{◌≡◌, ⊎_elim, ℕ, ◌<◌, true, false, cond, List, length, take, refl, sym, ap, ◌∙◌, arith}
use Rattle.std.proofs.lemmas.Bool.{cases_Bool}
use Rattle.netchange_core.specs.declared.message.Message.{Message}
use Rattle.netchange_core.specs.Next.{dequeued}
use Rattle.netchange_core.specs.World.{changed}
use Rattle.routing_domain.specs.Domain.{Domain, IsInOrder, KeepsLinksAndFilters, are_linked, neighbour}
use Rattle.routing_domain.specs.Network.{IsOrderly, IsWhole, Network, gets, hands}
use Rattle.routing_domain.specs.Runs.{IsStep, ReceivesOne, SendsSome}
use Rattle.routing_domain.specs.Steps.{IsNext, sends, with_router}
use Rattle.routing_domain.proofs.Emptied.{none_taken}
use Rattle.routing_domain.proofs.Ending.{step_keeps}
use Rattle.routing_domain.proofs.Running.{step_keeps_order}
use Rattle.routing_domain.proofs.Whole.{in_order}

-- a step of its domain, after which the directions are what they were, leaves it whole
stays_whole : (n m : Network) → IsInOrder n.domain → IsWhole n → IsStep n.domain m.domain → ((x y : ℕ) → m.carries x y ≡ n.carries x y) → IsWhole m
stays_whole n m o whole step carries =
    let after : IsInOrder m.domain = step_keeps_order n.domain m.domain o step in
    let kept : KeepsLinksAndFilters n.domain m.domain = step_keeps n.domain m.domain step in
    record {
      both_ways = after.both_ways;
      carried = λ u w from to linked.
          carries u w ∙ whole.carried u w (omega (arith, from, kept.size)) (omega (arith, to, kept.size)) (sym (kept.linked u w) ∙ linked);
      silent = after.silent;
    }

pub handing_is_sending : (n : Network) (u w max : ℕ) → IsOrderly n → IsWhole n → u < n.domain.size → w < n.domain.size →
    0 < length (take max (neighbour n.domain u w).queue) → (SendsSome n.domain (hands n u w max).domain) × (IsWhole (hands n u w max))
handing_is_sending n u w max orderly whole from to some = (step, stays_whole n (hands n u w max) o whole (inr (inl step)) (λ x y. refl))
  where
    d : Domain
    d = n.domain

    o : IsInOrder d
    o = in_order n orderly whole

    linked : are_linked d u w ≡ true
    linked = ⊎_elim
        (λ (up : are_linked d u w ≡ true). up)
        (λ (down : are_linked d u w ≡ false). absurd (none_taken max (neighbour d u w).queue (((o.sound u from).queues w to).idle down) some))
        (cases_Bool (are_linked d u w))

    step : SendsSome d (hands n u w max).domain
    step = record {
      from = u;
      to = w;
      max = max;
      member = from;
      member_there = to;
      some = some;
      after = ap (λ c. cond c (sends d u w max) (with_router d u (changed (d.router u) w (dequeued max)))) (whole.carried u w from to linked);
    }

pub getting_is_receiving : (n : Network) (u w : ℕ) (m : Message) (rest : List Message) → IsOrderly n → IsWhole n → IsNext n.domain u w m rest →
    (ReceivesOne n.domain (gets n u w m rest).domain) × (IsWhole (gets n u w m rest))
getting_is_receiving n u w m rest orderly whole next =
    (step, stays_whole n (gets n u w m rest) (in_order n orderly whole) whole (inl step) (λ x y. refl))
  where
    step : ReceivesOne n.domain (gets n u w m rest).domain
    step = record { from = u; to = w; message = m; rest = rest; is_next = next; after = refl }
