-- What each single failure changes: that of a link, or of a node with all its links. (This project's own choice.)
use Rattle.std.specs.Prelude.{◌≡◌, ◌≢◌, ℕ, suc, zero, ◌+◌, ◌<◌, ◌==◌, nat_lt, not, ◌&&◌, if◌then◌else◌, Bool, true, false, List, [], ◌∷◌, ◌++◌}
use Rattle.domain_routes.specs.Edits.{linking}
use Rattle.domain_routes.specs.PlanView.{PlanView, is_linked, peer}
use Rattle.domain_routes.specs.Reach.{phases_to_rest}
use Rattle.domain_routes.specs.Still.{least_below, lesser_of_two}
use Rattle.domain_routes.specs.declared.best.Best.{Best}
use Rattle.domain_cmds.specs.Rests.{AreAllRoutes}
use Rattle.domain_cmds.specs.Texts.{distances, is_same, route_of}
use Rattle.domain_cmds.specs.declared.failure.Failing.{Failing}
use Rattle.domain_cmds.specs.declared.failure.Failing.TheVariants.{Link, Node}
use Rattle.domain_cmds.specs.declared.failure.FailureEffect.{FailureEffect}

-- ---- what may fail

-- the lists of all numbers below one, from 0 upwards, as one list
abbrev pub lists_below : {X : Type 0} → ℕ → (ℕ → List X) → List X
lists_below zero list = []
lists_below (suc n) list = lists_below n list ++ list n

-- a link, once: by the lesser of its nodes
abbrev pub link_at : PlanView → ℕ → ℕ → List Failing
link_at plan u w = if nat_lt u w && is_linked plan u w then Link u w ∷ [] else []

abbrev pub links_of : PlanView → ℕ → List Failing
links_of plan u = lists_below plan.size (link_at plan u)

abbrev pub all_links : PlanView → List Failing
all_links plan = lists_below plan.size (links_of plan)

abbrev pub all_nodes : PlanView → List Failing
all_nodes plan = lists_below plan.size (λ x. Node x ∷ [])

-- ---- the plan where it has failed

-- a node has no link, and all else is as it was
pub record IsAlone (x : ℕ) (p q : PlanView) : Type 0 where
  pub size : q.size ≡ p.size
  pub prefixes : q.prefixes ≡ p.prefixes
  pub others : (u w : ℕ) → u ≢ x → w ≢ x → is_linked q u w ≡ is_linked p u w
  pub from_it : (w : ℕ) → w < p.size → is_linked q x w ≡ false
  pub to_it : (u : ℕ) → u < p.size → is_linked q u x ≡ false
  pub imports : (u w : ℕ) → (peer q u w).imports ≡ (peer p u w).imports
  pub exports : (u w : ℕ) → (peer q u w).exports ≡ (peer p u w).exports

-- a link that fails is cut, in both directions, and of a node that fails all links
abbrev pub IsCutOff : Failing → PlanView → PlanView → Type 0
IsCutOff (Link u w) p q = q ≡ linking false u w p
IsCutOff (Node x) p q = IsAlone x p q

-- ---- what changes, of the routes before and after

-- how many numbers below one pass a test
abbrev pub one_if : Bool → ℕ
one_if b = if b then 1 else 0

abbrev pub count_below : ℕ → (ℕ → Bool) → ℕ
count_below zero test = 0
count_below (suc n) test = count_below n test + one_if (test n)

-- the sum of the values at the numbers below one
abbrev pub sum_below : ℕ → (ℕ → ℕ) → ℕ
sum_below zero f = 0
sum_below (suc n) f = sum_below n f + f n

-- a node that fails counts neither as one that loses others nor as one that others lose
abbrev pub is_told : Failing → ℕ → Bool
is_told (Link u w) v = true
is_told (Node x) v = not (v == x)

-- the route of one node to another has another distance or next hop
abbrev pub is_changed : ℕ → Failing → List (List Best) → List (List Best) → ℕ → ℕ → Bool
is_changed size what before after u v =
    is_told what u && is_told what v && not (is_same (route_of size after u v) (route_of size before u v))

abbrev pub changed_of : ℕ → Failing → List (List Best) → List (List Best) → ℕ → ℕ
changed_of size what before after u = count_below size (is_changed size what before after u)

abbrev pub changed_routes : ℕ → Failing → List (List Best) → List (List Best) → ℕ
changed_routes size what before after = sum_below size (changed_of size what before after)

-- one node reached another, and does no longer
abbrev pub is_lost : ℕ → Failing → List (List Best) → List (List Best) → ℕ → ℕ → Bool
is_lost size what before after u v =
    is_told what u && is_told what v && nat_lt (route_of size before u v).dist size && not (nat_lt (route_of size after u v).dist size)

abbrev pub lost_of : ℕ → Failing → List (List Best) → List (List Best) → ℕ → ℕ
lost_of size what before after u = count_below size (is_lost size what before after u)

abbrev pub lost_routes : ℕ → Failing → List (List Best) → List (List Best) → ℕ
lost_routes size what before after = sum_below size (lost_of size what before after)

-- Below this bound all distances to a node are what they were: the lesser of both where they are two, and the size where none is another. For
-- a link it is the bound behind `still` (`failures_stand_still_as_cuts`).
abbrev pub told_lesser : ℕ → Failing → List (List Best) → List (List Best) → ℕ → ℕ → ℕ
told_lesser size what before after v u =
    if is_told what u then lesser_of_two size (distances size before v u) (distances size after v u) else size

abbrev pub still_told : ℕ → Failing → List (List Best) → List (List Best) → ℕ → ℕ
still_told size what before after v = least_below size size (told_lesser size what before after v)

-- some node has another distance to this one
abbrev pub is_moved : ℕ → Failing → List (List Best) → List (List Best) → ℕ → Bool
is_moved size what before after v = is_told what v && nat_lt (still_told size what before after v) size

abbrev pub moved_nodes : ℕ → Failing → List (List Best) → List (List Best) → ℕ
moved_nodes size what before after = count_below size (is_moved size what before after)

-- the least of these bounds: the size where no distance is another
abbrev pub still_to : ℕ → Failing → List (List Best) → List (List Best) → ℕ → ℕ
still_to size what before after v = if is_told what v then still_told size what before after v else size

abbrev pub still_near : ℕ → Failing → List (List Best) → List (List Best) → ℕ
still_near size what before after = least_below size size (still_to size what before after)

abbrev pub failure_of : ℕ → Failing → List (List Best) → List (List Best) → FailureEffect
failure_of size what before after = record {
  what = what;
  changed = changed_routes size what before after;
  lost = lost_routes size what before after;
  moved = moved_nodes size what before after;
  rounds = phases_to_rest size (distances size after);
  still = still_near size what before after;
}

-- what one failure changes: what the plan where it has failed says, asked by itself
abbrev pub IsFailure : PlanView → List (List Best) → Failing → FailureEffect → Type 0
IsFailure plan before what failure =
    (later : PlanView) × IsCutOff what plan later × (after : List (List Best)) × AreAllRoutes later after
    × (failure ≡ failure_of plan.size what before after)

-- what each of them changes by itself, in the same order
abbrev pub AreFailures : PlanView → List (List Best) → List Failing → List FailureEffect → Type 0
AreFailures plan before [] [] = Unit {0}
AreFailures plan before [] (failure ∷ more) = ⊥
AreFailures plan before (what ∷ others) [] = ⊥
AreFailures plan before (what ∷ others) (failure ∷ more) = IsFailure plan before what failure × AreFailures plan before others more

-- the failures of these were added to a list
abbrev pub AddsFailures : PlanView → List (List Best) → List Failing → List FailureEffect → List FailureEffect → Type 0
AddsFailures plan before whats old new = (added : List FailureEffect) × AreFailures plan before whats added × (new ≡ old ++ added)
