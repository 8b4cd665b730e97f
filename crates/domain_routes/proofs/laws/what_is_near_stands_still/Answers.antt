use Rattle.domain_routes.proofs.Still.{are_one, distance_stands, is_greatest, via_stands}
use Rattle.domain_routes.proofs.laws.what_is_near_stands_still.Goals as goal

pub returns : goal.returns
returns c = record {
  one = λ size a b. are_one size a b;
  greatest = λ size k a b within agree. is_greatest size a b k within agree;
  distance = λ b p greatest smallest since v there most least all none n m orderly whole of_plan d o phases j happen u short near.
      distance_stands b p v most least n m
      (record {
        greatest = greatest;
        smallest = smallest;
        since = since;
        there = there;
        with_all = all;
        with_none = none;
        orderly = orderly;
        whole = whole;
        of_plan = of_plan;
        start = d;
        in_order = o;
        phases = phases;
        count = j;
        happen = happen;
      }) u short near;
  via = λ b p greatest smallest since v there most least all none n m orderly whole of_plan d o phases j happen u short near same.
      via_stands b p v most least n m
      (record {
        greatest = greatest;
        smallest = smallest;
        since = since;
        there = there;
        with_all = all;
        with_none = none;
        orderly = orderly;
        whole = whole;
        of_plan = of_plan;
        start = d;
        in_order = o;
        phases = phases;
        count = j;
        happen = happen;
      }) u short near same;
}
