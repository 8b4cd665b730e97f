-- What a change of a domain does: the domain before it and the domain after it, of as many nodes. (This project's own choice.)
use Rattle.std.specs.Prelude.{◌≡◌, ℕ, nat_lt, Bool, true, false, not, ◌&&◌, ◌||◌, if◌then◌else◌, List, [], ◌∷◌, ◌++◌}
use Rattle.domain_routes.specs.PlanView.{PlanView, is_linked}
use Rattle.domain_routes.specs.declared.best.Best.{Best}
use Rattle.domain_cmds.specs.Failures.{IsCutOff, all_nodes, count_below, is_lost, lists_below, sum_below}
use Rattle.domain_cmds.specs.Rests.{AreAllRoutes}
use Rattle.domain_cmds.specs.Texts.{is_same, route_of}
use Rattle.domain_cmds.specs.declared.comparing.Comparison.{Comparison}
use Rattle.domain_cmds.specs.declared.comparing.Harm.{Harm}
use Rattle.domain_cmds.specs.declared.comparing.Turn.{Turn}
use Rattle.domain_cmds.specs.declared.comparing.Turn.TheVariants.{Lost, Gained, Changed}
use Rattle.domain_cmds.specs.declared.failure.Failing.{Failing}
use Rattle.domain_cmds.specs.declared.failure.Failing.TheVariants.{Link}

-- ---- routes

-- one node has a route to another
abbrev pub reaches : ℕ → List (List Best) → ℕ → ℕ → Bool
reaches size all u v = nat_lt (route_of size all u v).dist size

-- a route is no more, is new, or has another distance or next hop
abbrev pub has_turned : Turn → ℕ → List (List Best) → List (List Best) → ℕ → ℕ → Bool
has_turned Lost size before after u v = reaches size before u v && not (reaches size after u v)
has_turned Gained size before after u v = not (reaches size before u v) && reaches size after u v
has_turned Changed size before after u v =
    reaches size before u v && reaches size after u v && not (is_same (route_of size after u v) (route_of size before u v))

abbrev pub turned_at : Turn → ℕ → List (List Best) → List (List Best) → ℕ → ℕ → List (ℕ × ℕ)
turned_at turn size before after u v = if has_turned turn size before after u v then (u, v) ∷ [] else []

abbrev pub turned_of : Turn → ℕ → List (List Best) → List (List Best) → ℕ → List (ℕ × ℕ)
turned_of turn size before after u = lists_below size (turned_at turn size before after u)

-- whose routes to whom have turned so
abbrev pub turned : Turn → ℕ → List (List Best) → List (List Best) → List (ℕ × ℕ)
turned turn size before after = lists_below size (turned_of turn size before after)

-- ---- failures

-- A failure takes the route of one node to another now, which it did not take then: now there is one without it, and then there was one with it.
abbrev pub is_taken_anew : ℕ → Failing → List (List Best) → List (List Best) → List (List Best) → ℕ → ℕ → Bool
is_taken_anew size what then_failed now now_failed u v = is_lost size what now now_failed u v && reaches size then_failed u v

abbrev pub taken_anew_of : ℕ → Failing → List (List Best) → List (List Best) → List (List Best) → ℕ → ℕ
taken_anew_of size what then_failed now now_failed u = count_below size (is_taken_anew size what then_failed now now_failed u)

abbrev pub taken_anew : ℕ → Failing → List (List Best) → List (List Best) → List (List Best) → ℕ
taken_anew size what then_failed now now_failed = sum_below size (taken_anew_of size what then_failed now now_failed)

-- all routes at rest where something has failed: without a link that is not there the plan is what it was
abbrev pub AreRoutesWithout : Failing → PlanView → List (List Best) → Type 0
AreRoutesWithout what plan routes = (later : PlanView) × IsCutOff what plan later × AreAllRoutes later routes

-- how many routes a failure takes that it did not take before the change, and how many it takes no longer
abbrev pub harm_of : ℕ → Failing → List (List Best) → List (List Best) → List (List Best) → List (List Best) → Harm
harm_of size what before before_failed after after_failed = record {
  what = what;
  loses = taken_anew size what before_failed after after_failed;
  keeps = taken_anew size what after_failed before before_failed;
}

abbrev pub IsHarm : PlanView → PlanView → List (List Best) → List (List Best) → Failing → Harm → Type 0
IsHarm p q before after what harm = (before_failed : List (List Best)) × AreRoutesWithout what p before_failed
    × (after_failed : List (List Best)) × AreRoutesWithout what q after_failed
    × (harm ≡ harm_of p.size what before before_failed after after_failed)

-- a link of either domain, once
abbrev pub link_of_either : PlanView → PlanView → ℕ → ℕ → List Failing
link_of_either p q u w = if nat_lt u w && (is_linked p u w || is_linked q u w) then Link u w ∷ [] else []

abbrev pub links_of_either : PlanView → PlanView → ℕ → List Failing
links_of_either p q u = lists_below p.size (link_of_either p q u)

abbrev pub all_links_of_either : PlanView → PlanView → List Failing
all_links_of_either p q = lists_below p.size (links_of_either p q)

-- all that may fail, before or after
abbrev pub all_failing : PlanView → PlanView → List Failing
all_failing p q = all_links_of_either p q ++ all_nodes p

-- a failure does what it did not do, or no longer does what it did
abbrev pub has_turned_harm : Harm → Bool
has_turned_harm harm = nat_lt 0 harm.loses || nat_lt 0 harm.keeps

-- those of these failures of which that is so, in the same order
abbrev pub AreHarms : PlanView → PlanView → List (List Best) → List (List Best) → List Failing → List Harm → Type 0
AreHarms p q before after [] harms = harms ≡ []
AreHarms p q before after (what ∷ others) harms = (harm : Harm) × IsHarm p q before after what harm
    × (more : List Harm) × AreHarms p q before after others more × (harms ≡ (if has_turned_harm harm then harm ∷ more else more))

-- those of these were added to a list
abbrev pub AddsHarms : PlanView → PlanView → List (List Best) → List (List Best) → List Failing → List Harm → List Harm → Type 0
AddsHarms p q before after whats old new = (added : List Harm) × AreHarms p q before after whats added × (new ≡ old ++ added)

-- ---- a comparison

-- what contracts see of a comparison
pub record ComparisonView : Type 0 where
  pub size : ℕ
  pub lost : List (ℕ × ℕ)
  pub gained : List (ℕ × ℕ)
  pub changed : List (ℕ × ℕ)
  pub harms : List Harm

abbrev pub comparison_view : Comparison → ComparisonView
comparison_view c = record { size = c.size; lost = c.lost.items; gained = c.gained.items; changed = c.changed.items; harms = c.harms.items }

abbrev pub comparison_of : ℕ → List (List Best) → List (List Best) → List Harm → ComparisonView
comparison_of size before after harms = record {
  size = size;
  lost = turned Lost size before after;
  gained = turned Gained size before after;
  changed = turned Changed size before after;
  harms = harms;
}

-- what the change of one domain to another does
abbrev pub IsComparison : PlanView → PlanView → ComparisonView → Type 0
IsComparison p q found = (before : List (List Best)) × AreAllRoutes p before × (after : List (List Best)) × AreAllRoutes q after
    × (harms : List Harm) × AreHarms p q before after (all_failing p q) harms × (found ≡ comparison_of p.size before after harms)

-- some failure takes routes that it did not take
abbrev pub has_loss : List Harm → Bool
has_loss [] = false
has_loss (harm ∷ more) = nat_lt 0 harm.loses || has_loss more

abbrev pub has_some : List (ℕ × ℕ) → Bool
has_some [] = false
has_some (pair ∷ more) = true

-- something is lost: a route, or what remained when something failed
abbrev pub loses_something : ComparisonView → Bool
loses_something found = has_some found.lost || has_loss found.harms
