-- What the way through the nearest node that is not done leaves as it was.
use Rattle.std.proofs.Common.{◌≡◌, ◌≢◌, ⊎_elim, ℕ, suc, ◌<◌, ◌≤◌, Bool, true, false, sym, ap, ◌∙◌, arith}
use Rattle.std.proofs.lemmas.Bool.{cases_Bool, cases_eq}
use Rattle.routing_domain.specs.Rest.{NeverNearer, Topology}
use Rattle.domain_routes.specs.declared.best.Best.{Best}
use Rattle.domain_routes.specs.Offers.{ComesBefore}
use Rattle.domain_routes.specs.Solving.{AreBestSoFar, AreOffered, IsNearest}

-- a node is done, and its neighbours were offered the way through it
pub record IsRound (m : Topology) (to : ℕ) (old new : ℕ → Best) (before after : ℕ → Bool) (w : ℕ) : Type 0 where
  pub nearer : NeverNearer m
  pub destination : to < m.size
  pub settled : AreBestSoFar m to old before
  pub nearest : IsNearest m.size old before w
  pub offered : AreOffered m w old new
  pub done : after w ≡ true
  pub others : (x : ℕ) → x ≢ w → after x ≡ before x

-- the way through the node is longer than its own route
longer : (m : Topology) (to : ℕ) (old new : ℕ → Best) (before after : ℕ → Bool) (w : ℕ) → IsRound m to old new before after w → (u : ℕ) → u < m.size →
    (old w).dist < suc (m.filtered u w (old w).dist)
longer m to old new before after w r u short =
    omega (arith, r.nearer u w (old w).dist short r.nearest.member (r.settled.bounded w r.nearest.member))

not_before : (route : Best) (length hop : ℕ) → route.dist < length → ComesBefore length hop route → ⊥
not_before route length hop less before = ⊎_elim (λ shorter. omega (arith, less, shorter)) (λ tie. omega (arith, less, tie.0)) before

-- who is no farther than the node keeps its route
pub keeps : (m : Topology) (to : ℕ) (old new : ℕ → Best) (before after : ℕ → Bool) (w : ℕ) → IsRound m to old new before after w →
    (u : ℕ) → u < m.size → (old u).dist ≤ (old w).dist → new u ≡ old u
keeps m to old new before after w r u short near =
    ⊎_elim
    (λ linked. ⊎_elim
    (λ taken. absurd (not_before (old u) (suc (m.filtered u w (old w).dist)) w
    (omega (arith, longer m to old new before after w r u short, near)) (taken.1)))
    (λ kept. kept.0)
    ((r.offered u short).taken linked))
    (λ apart. (r.offered u short).kept apart)
    (cases_Bool (m.linked u w))

-- and so does the node itself, and each that was done
pub keeps_done : (m : Topology) (to : ℕ) (old new : ℕ → Best) (before after : ℕ → Bool) (w : ℕ) → IsRound m to old new before after w →
    (x : ℕ) → x < m.size → after x ≡ true → new x ≡ old x
keeps_done m to old new before after w r x short done =
    keeps m to old new before after w r x short
    (⊎_elim
    (λ same. omega (arith, ap (λ n. (old n).dist) same))
    (λ other. r.settled.order x w short r.nearest.member (sym (r.others x other) ∙ done) r.nearest.waits)
    (cases_eq x w))

-- no route becomes as short as the node's, where it waits
pub no_nearer : (m : Topology) (to : ℕ) (old new : ℕ → Best) (before after : ℕ → Bool) (w : ℕ) → IsRound m to old new before after w →
    (u : ℕ) → u < m.size → before u ≡ false → (old w).dist ≤ (new u).dist
no_nearer m to old new before after w r u short waits =
    let far : (old w).dist ≤ (old u).dist = r.nearest.least u short waits in
    ⊎_elim
    (λ linked. ⊎_elim
    (λ taken. omega (arith, longer m to old new before after w r u short, ap dist taken.0))
    (λ kept. omega (arith, far, ap dist kept.0))
    ((r.offered u short).taken linked))
    (λ apart. omega (arith, far, ap dist ((r.offered u short).kept apart)))
    (cases_Bool (m.linked u w))
  where
    dist : Best → ℕ
    dist b = b.dist
