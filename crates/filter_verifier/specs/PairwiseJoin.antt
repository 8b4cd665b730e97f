-- The join of two, from which the sweep makes the join of all. Only bodies are proved against these.
use Rattle.std.specs.Prelude.{◌==◌, min, max, ◌&&◌, if◌then◌else◌, Option, Some, None, List, [], ◌∷◌, length}
use Rattle.filter_verifier.specs.declared.fact.Fact.{Fact}
use Rattle.filter_verifier.specs.declared.fact.Fact.TheVariants as fact
use Rattle.filter_verifier.specs.AbstractFrameView.{AbstractFrameView}
use Rattle.filter_verifier.specs.InStateView.{InStateView, Unreached, UnlikeDepths, Known}
use Rattle.filter_verifier.specs.Ranges.{RangeView}

-- two ranges: the smallest that holds both, at least the metric received if both are
abbrev pub join_two_ranges : RangeView → RangeView → RangeView
join_two_ranges a b = record {
  low = min a.low b.low;
  high = max a.high b.high;
  at_least_received = a.at_least_received && b.at_least_received;
}

-- two facts
abbrev pub join_two_facts : Fact → Fact → Option Fact
join_two_facts (fact.Int a) (fact.Int b) = Some (fact.Int (join_two_ranges a b))
join_two_facts fact.Bool fact.Bool = Some fact.Bool
join_two_facts fact.Ip fact.Ip = Some fact.Ip
join_two_facts fact.Prefix fact.Prefix = Some fact.Prefix
join_two_facts _ _ = None

-- what is known at one place on two paths
abbrev pub join_two_at : Option Fact → Option Fact → Option Fact
join_two_at (Some a) (Some b) = join_two_facts a b
join_two_at _ _ = None

-- place by place, as far as the first list goes
abbrev pub join_two_places : List (Option Fact) → List (Option Fact) → List (Option Fact)
join_two_places [] ys = []
join_two_places (x ∷ xs) [] = None ∷ join_two_places xs []
join_two_places (x ∷ xs) (y ∷ ys) = join_two_at x y ∷ join_two_places xs ys

-- two frames
abbrev pub join_two_frames : AbstractFrameView → AbstractFrameView → InStateView
join_two_frames a b =
    if length a.stack == length b.stack
    then Known (record { stack = join_two_places a.stack b.stack; locals = join_two_places a.locals b.locals })
    else UnlikeDepths

-- a frame and an in-state
abbrev pub join_known : AbstractFrameView → InStateView → InStateView
join_known a Unreached = Known a
join_known a UnlikeDepths = UnlikeDepths
join_known a (Known b) = join_two_frames a b

-- two in-states
abbrev pub join_two_states : InStateView → InStateView → InStateView
join_two_states Unreached b = b
join_two_states UnlikeDepths b = UnlikeDepths
join_two_states (Known a) b = join_known a b
