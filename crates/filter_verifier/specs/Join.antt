-- The join of what is known on any number of paths, all at once and in no order: what holds whichever path was taken.
-- (This project's own choice.)
use Rattle.std.specs.Prelude.{ℕ, zero, suc, if◌then◌else◌, Option, Some, None, option_and_then}
use Rattle.std.specs.Prelude.{List, [], ◌∷◌, length, map}
use Rattle.std.specs.List.{list_all}
use Rattle.std.specs.Option.{option_map}
use Rattle.filter_code.specs.Table.{is_bool, is_ip, is_prefix}
use Rattle.filter_verifier.specs.declared.fact.Fact.{Fact}
use Rattle.filter_verifier.specs.declared.fact.Fact.TheVariants as fact
use Rattle.filter_verifier.specs.AbstractFrameView.{AbstractFrameView}
use Rattle.filter_verifier.specs.Facts.{kind_of_fact, all_known}
use Rattle.filter_verifier.specs.InStateView.{InStateView, Unreached, UnlikeDepths, Known}
use Rattle.filter_verifier.specs.Numbers.{any_two_differ, greatest, least}
use Rattle.filter_verifier.specs.Ranges.{RangeView}

-- the join of ranges: the least low, the greatest high, and at least the metric received if all are
abbrev pub join_ranges : List RangeView → RangeView
join_ranges ranges = record {
  low = least (map (λ r. r.low) ranges);
  high = greatest (map (λ r. r.high) ranges);
  at_least_received = list_all (λ r. r.at_least_received) ranges;
}

-- the ranges of facts that are all of ints
abbrev pub ranges_of : List Fact → Option (List RangeView)
ranges_of [] = Some []
ranges_of (fact.Int range ∷ facts) = option_map (λ ranges. range ∷ ranges) (ranges_of facts)
ranges_of (_ ∷ facts) = None

-- the join of facts: that of one kind, or nothing if kinds differ; the join of no facts plays no part
abbrev pub join_facts : List Fact → Option Fact
join_facts [] = None
join_facts facts =
    if list_all (λ f. is_bool (kind_of_fact f)) facts then Some fact.Bool
    else if list_all (λ f. is_ip (kind_of_fact f)) facts then Some fact.Ip
    else if list_all (λ f. is_prefix (kind_of_fact f)) facts then Some fact.Prefix
    else option_map (λ ranges. fact.Int (join_ranges ranges)) (ranges_of facts)

-- the join of what is known at one place: nothing if it is not known on some path
abbrev pub join_place : List (Option Fact) → Option Fact
join_place places = option_and_then join_facts (all_known places)

-- the first of some places, and the others
abbrev pub first_place : List (Option Fact) → Option Fact
first_place [] = None
first_place (place ∷ places) = place

abbrev pub other_places : List (Option Fact) → List (Option Fact)
other_places [] = []
other_places (place ∷ places) = places

-- the join of lists of a number of places, place by place
abbrev pub join_places : ℕ → List (List (Option Fact)) → List (Option Fact)
join_places zero lists = []
join_places (suc count) lists = join_place (map first_place lists) ∷ join_places count (map other_places lists)

-- the join of frames, in a code of a number of local variables: if any two stacks differ in depth, that; otherwise place
-- by place
abbrev pub join_frames : ℕ → List AbstractFrameView → InStateView
join_frames count [] = Unreached
join_frames count (f ∷ frames) =
    if any_two_differ (map (λ g. length g.stack) (f ∷ frames))
    then UnlikeDepths
    else Known (record {
      stack = join_places (length f.stack) (map (λ g. g.stack) (f ∷ frames));
      locals = join_places count (map (λ g. g.locals) (f ∷ frames));
    })
