-- The join of one frame more than some frames is the join of two: of theirs, and of this frame.
use Rattle.std.proofs.Common.{◌≡◌, ℕ, zero, suc, ◌==◌, ◌||◌, ◌&&◌, min, max, not, Bool, true, false, Option, Some, None, refl}
use Rattle.std.proofs.Common.{ap, sym, ◌∙◌, subst, arith}
use Rattle.std.proofs.Common.{List, [], ◌∷◌, length, map}
use Rattle.std.specs.Prelude.{if◌then◌else◌, option_and_then}
use Rattle.std.specs.List.{list_all, list_any}
use Rattle.std.specs.Option.{option_map}
use Rattle.std.proofs.lemmas.Bool.{and_parts}
use Rattle.std.proofs.lemmas.Bool.Decides.{nat_tests}
use Rattle.filter_code.specs.Table.{is_bool, is_ip, is_prefix}
use Rattle.filter_verifier.specs.declared.fact.Fact.{Fact}
use Rattle.filter_verifier.specs.declared.fact.Fact.TheVariants as fact
use Rattle.filter_verifier.specs.AbstractFrameView.{AbstractFrameView}
use Rattle.filter_verifier.specs.Facts.{kind_of_fact, all_known}
use Rattle.filter_verifier.specs.InStateView.{InStateView, Unreached, UnlikeDepths, Known}
use Rattle.filter_verifier.specs.Join.{join_ranges, ranges_of, join_facts, join_place, first_place}
use Rattle.filter_verifier.specs.Numbers.{any_two_differ}
use Rattle.filter_verifier.specs.Join.{other_places, join_places, join_frames}
use Rattle.filter_verifier.specs.PairwiseJoin.{join_two_ranges, join_two_facts, join_two_at, join_two_places, join_two_states}
use Rattle.filter_verifier.specs.Ranges.{RangeView}

-- ranges
range_is : (low low' high high' : ℕ) (flag flag' : Bool) → low ≡ low' → high ≡ high' → flag ≡ flag' →
    let a : RangeView = record { low = low; high = high; at_least_received = flag } in
    let b : RangeView = record { low = low'; high = high'; at_least_received = flag' } in
    a ≡ b
range_is low low' high high' flag flag' e f g =
    let R : ℕ → ℕ → Bool → RangeView = λ l h b. record { low = l; high = h; at_least_received = b } in
    ap (λ l. R l high flag) e ∙ (ap (λ h. R low' h flag) f ∙ ap (λ b. R low' high' b) g)

both_ways : (a b : Bool) → (a && b) ≡ (b && a)
both_ways true true = refl
both_ways true false = refl
both_ways false true = refl
both_ways false false = refl

and_true : (a : Bool) → (a && true) ≡ a
and_true true = refl
and_true false = refl

range_alone : (r : RangeView) → join_ranges (r ∷ []) ≡ r
range_alone r = range_is r.low r.low (max r.high 0) r.high (r.at_least_received && true) r.at_least_received
    refl (omega arith) (and_true r.at_least_received)

min_both : (a b : ℕ) → min a b ≡ min b a
min_both a b = omega arith

max_both : (a b : ℕ) → max a b ≡ max b a
max_both a b = omega arith

ranges_joined : (s r : RangeView) (ranges : List RangeView) →
    join_ranges (s ∷ (r ∷ ranges)) ≡ join_two_ranges (join_ranges (r ∷ ranges)) s
ranges_joined s r ranges =
    let rest : RangeView = join_ranges (r ∷ ranges) in
    range_is (min s.low rest.low) (min rest.low s.low) (max s.high rest.high) (max rest.high s.high)
    (s.at_least_received && rest.at_least_received) (rest.at_least_received && s.at_least_received)
    (min_both s.low rest.low) (max_both s.high rest.high) (both_ways s.at_least_received rest.at_least_received)

-- facts
fact_alone : (f : Fact) → join_facts (f ∷ []) ≡ Some f
fact_alone (fact.Int r) = ap (λ (x : RangeView). Some (fact.Int x)) (range_alone r)
fact_alone fact.Bool = refl
fact_alone fact.Ip = refl
fact_alone fact.Prefix = refl

ints_joined : (s r : RangeView) (rest : Option (List RangeView)) →
    option_map (λ ranges. fact.Int (join_ranges ranges)) (option_map (λ ranges. s ∷ ranges) (option_map (λ ranges. r ∷ ranges) rest))
    ≡ join_two_at (option_map (λ ranges. fact.Int (join_ranges ranges)) (option_map (λ ranges. r ∷ ranges) rest)) (Some (fact.Int s))
ints_joined s r None = refl
ints_joined s r (Some ranges) = ap (λ (x : RangeView). Some (fact.Int x)) (ranges_joined s r ranges)

ints_unlike : (f : Fact) (r : RangeView) (rest : Option (List RangeView)) → ((s : RangeView) → join_two_facts (fact.Int s) f ≡ None) →
    None ≡ join_two_at (option_map (λ ranges. fact.Int (join_ranges ranges)) (option_map (λ ranges. r ∷ ranges) rest)) (Some f)
ints_unlike f r None e = refl
ints_unlike f r (Some ranges) e = sym (e (join_ranges (r ∷ ranges)))

one_kind : (g f : Fact) (b : Bool) → join_two_facts g f ≡ Some g → (if b then Some g else None) ≡ join_two_at (if b then Some g else None) (Some f)
one_kind g f true e = sym e
one_kind g f false e = refl

other_kind : (g f : Fact) (b : Bool) → join_two_facts g f ≡ None → None ≡ join_two_at (if b then Some g else None) (Some f)
other_kind g f true e = sym e
other_kind g f false e = refl

facts_joined : (f g : Fact) (facts : List Fact) → join_facts (f ∷ (g ∷ facts)) ≡ join_two_at (join_facts (g ∷ facts)) (Some f)
facts_joined (fact.Int s) (fact.Int r) facts = ints_joined s r (ranges_of facts)
facts_joined f (fact.Int r) facts = ints_unlike f r (ranges_of facts) (λ s. refl)
facts_joined fact.Bool fact.Bool facts = one_kind fact.Bool fact.Bool (list_all (λ f. is_bool (kind_of_fact f)) facts) refl
facts_joined f fact.Bool facts = other_kind fact.Bool f (list_all (λ g. is_bool (kind_of_fact g)) facts) refl
facts_joined fact.Ip fact.Ip facts = one_kind fact.Ip fact.Ip (list_all (λ f. is_ip (kind_of_fact f)) facts) refl
facts_joined f fact.Ip facts = other_kind fact.Ip f (list_all (λ g. is_ip (kind_of_fact g)) facts) refl
facts_joined fact.Prefix fact.Prefix facts = one_kind fact.Prefix fact.Prefix (list_all (λ f. is_prefix (kind_of_fact f)) facts) refl
facts_joined f fact.Prefix facts = other_kind fact.Prefix f (list_all (λ g. is_prefix (kind_of_fact g)) facts) refl

-- places
place_alone : (x : Option Fact) → join_place (x ∷ []) ≡ x
place_alone None = refl
place_alone (Some f) = fact_alone f

nothing_at : (x : Option Fact) → None ≡ join_two_at x None
nothing_at None = refl
nothing_at (Some f) = refl

known_joined : (f g : Fact) (known : Option (List Fact)) →
    option_and_then join_facts (option_and_then (λ facts. Some (f ∷ facts)) (option_and_then (λ facts. Some (g ∷ facts)) known))
    ≡ join_two_at (option_and_then join_facts (option_and_then (λ facts. Some (g ∷ facts)) known)) (Some f)
known_joined f g None = refl
known_joined f g (Some facts) = facts_joined f g facts

unknown_joined : (known : Option (List Fact)) → None ≡ join_two_at (option_and_then join_facts known) None
unknown_joined known = nothing_at (option_and_then join_facts known)

place_joined : (x y : Option Fact) (places : List (Option Fact)) → join_place (x ∷ (y ∷ places)) ≡ join_two_at (join_place (y ∷ places)) x
place_joined None y places = unknown_joined (all_known (y ∷ places))
place_joined (Some f) None places = refl
place_joined (Some f) (Some g) places = known_joined f g (all_known places)

-- lists of places
places_alone : (count : ℕ) (xs : List (Option Fact)) → length xs ≡ count → join_places count (xs ∷ []) ≡ xs
places_alone zero [] e = refl
places_alone zero (x ∷ xs) e = absurd (omega arith)
places_alone (suc count) [] e = absurd (omega arith)
places_alone (suc count) (x ∷ xs) e =
    let rest : join_places count (xs ∷ []) ≡ xs = places_alone count xs (omega arith) in
    ap (λ (y : Option Fact). y ∷ join_places count (xs ∷ [])) (place_alone x) ∙ ap (λ (ys : List (Option Fact)). x ∷ ys) rest

places_joined : (count : ℕ) (xs ys : List (Option Fact)) (lists : List (List (Option Fact))) →
    join_places count (xs ∷ (ys ∷ lists)) ≡ join_two_places (join_places count (ys ∷ lists)) xs
places_joined zero xs ys lists = refl
places_joined (suc count) [] ys lists =
    let others : List (List (Option Fact)) = map other_places lists in
    ap (λ (zs : List (Option Fact)). None ∷ zs) (places_joined count [] (other_places ys) others)
places_joined (suc count) (x ∷ xs) ys lists =
    let others : List (List (Option Fact)) = map other_places lists in
    ap (λ (y : Option Fact). y ∷ join_places count (xs ∷ (other_places ys ∷ others))) (place_joined x (first_place ys) (map first_place lists))
    ∙ ap (λ (zs : List (Option Fact)). join_two_at (join_place (first_place ys ∷ map first_place lists)) x ∷ zs)
    (places_joined count xs (other_places ys) others)

pub joined_count : (count : ℕ) (lists : List (List (Option Fact))) → length (join_places count lists) ≡ count
joined_count zero lists = refl
joined_count (suc count) lists = ap suc (joined_count count (map other_places lists))

-- depths: any two differ exactly where one differs from the first
same_number : (n : ℕ) → (n == n) ≡ true
same_number n = grind (arith, nat_tests)

is_number : (m n : ℕ) → (m == n) ≡ true → m ≡ n
is_number m n e = grind (arith, nat_tests)

turned_test : (m n : ℕ) (b : Bool) → (n == m) ≡ b → (m == n) ≡ b
turned_test m n true e = grind (arith, nat_tests)
turned_test m n false e = grind (arith, nat_tests)

both_false : (a b : Bool) → a ≡ false → b ≡ false → (a || b) ≡ false
both_false false b e h = h
both_false true b e h = cc

first_true : (a b : Bool) → a ≡ true → (a || b) ≡ true
first_true true b e = refl
first_true false b e = cc

not_alike : (m n : ℕ) (b : Bool) → (n == m) ≡ b → not (m == n) ≡ not b
not_alike m n b e = ap not (turned_test m n b e)

none_differs : (d : ℕ) (numbers : List ℕ) → list_all (λ n. n == d) numbers ≡ true → list_any (λ n. not (d == n)) numbers ≡ false
none_differs d [] e = refl
none_differs d (n ∷ numbers) e =
    let parts = and_parts (n == d) (list_all (λ m. m == d) numbers) e in
    both_false (not (d == n)) (list_any (λ m. not (d == m)) numbers) (not_alike d n true parts.0) (none_differs d numbers parts.1)

either_differs : (b rest found : Bool) → (b && rest) ≡ false → (rest ≡ false → found ≡ true) → (not b || found) ≡ true
either_differs true rest found e h = h e
either_differs false rest found e h = refl

some_differs : (d : ℕ) (numbers : List ℕ) → list_all (λ n. n == d) numbers ≡ false → list_any (λ n. not (d == n)) numbers ≡ true
some_differs d [] e = cc
some_differs d (n ∷ numbers) e =
    ap (λ (b : Bool). b || list_any (λ m. not (d == m)) numbers) (not_alike d n (n == d) refl)
    ∙ either_differs (n == d) (list_all (λ m. m == d) numbers) (list_any (λ m. not (d == m)) numbers) e (some_differs d numbers)

no_pair_differs : (d : ℕ) (firsts numbers : List ℕ) → list_all (λ n. n == d) firsts ≡ true → list_all (λ n. n == d) numbers ≡ true →
    list_any (λ m. list_any (λ n. not (m == n)) numbers) firsts ≡ false
no_pair_differs d [] numbers e h = refl
no_pair_differs d (m ∷ firsts) numbers e h =
    let parts = and_parts (m == d) (list_all (λ n. n == d) firsts) e in
    both_false (list_any (λ n. not (m == n)) numbers) (list_any (λ k. list_any (λ n. not (k == n)) numbers) firsts)
    (subst (λ k. list_any (λ n. not (k == n)) numbers ≡ false) (sym (is_number m d parts.0)) (none_differs d numbers h))
    (no_pair_differs d firsts numbers parts.1 h)

with_itself : (d : ℕ) (numbers : List ℕ) → list_all (λ n. n == d) numbers ≡ true → list_all (λ n. n == d) (d ∷ numbers) ≡ true
with_itself d numbers e = ap (λ (b : Bool). b && list_all (λ n. n == d) numbers) (same_number d) ∙ e

differ_as : (d : ℕ) (numbers : List ℕ) (b : Bool) → list_all (λ n. n == d) numbers ≡ b → any_two_differ (d ∷ numbers) ≡ not b
differ_as d numbers true e = no_pair_differs d (d ∷ numbers) (d ∷ numbers) (with_itself d numbers e) (with_itself d numbers e)
differ_as d numbers false e =
    first_true (list_any (λ n. not (d == n)) (d ∷ numbers))
    (list_any (λ m. list_any (λ n. not (m == n)) (d ∷ numbers)) numbers)
    (ap (λ (b : Bool). b || list_any (λ n. not (d == n)) numbers) (not_alike d d true (same_number d)) ∙ some_differs d numbers e)

differ_from_first : (d : ℕ) (numbers : List ℕ) → any_two_differ (d ∷ numbers) ≡ not (list_all (λ n. n == d) numbers)
differ_from_first d numbers = differ_as d numbers (list_all (λ n. n == d) numbers) refl

-- frames
pub joined_with_none : (a : InStateView) → join_two_states a Unreached ≡ a
joined_with_none Unreached = refl
joined_with_none UnlikeDepths = refl
joined_with_none (Known frame) = refl

abbrev frame_with : List (Option Fact) → List (Option Fact) → InStateView
frame_with stack locals = Known (record { stack = stack; locals = locals })

frame_same : (stack stack' locals locals' : List (Option Fact)) → stack ≡ stack' → locals ≡ locals' →
    frame_with stack locals ≡ frame_with stack' locals'
frame_same stack stack' locals locals' e h = ap (λ s. frame_with s locals) e ∙ ap (λ l. frame_with stack' l) h

-- one frame alone
pub joined_alone : (count : ℕ) (f : AbstractFrameView) → length f.locals ≡ count → join_frames count (f ∷ []) ≡ Known f
joined_alone count f wide =
    let alone : InStateView = frame_with (join_places (length f.stack) (f.stack ∷ [])) (join_places count (f.locals ∷ [])) in
    ap (λ (b : Bool). if b then UnlikeDepths else alone) (differ_from_first (length f.stack) [])
    ∙ frame_same (join_places (length f.stack) (f.stack ∷ [])) f.stack (join_places count (f.locals ∷ [])) f.locals
    (places_alone (length f.stack) f.stack refl) (places_alone count f.locals wide)

-- one frame more than some
module _ (count : ℕ) (f g : AbstractFrameView) (frames : List AbstractFrameView) where
  abbrev depths : List ℕ
  depths = map (λ (h : AbstractFrameView). length h.stack) frames

  abbrev stacks : List (List (Option Fact))
  stacks = map (λ (h : AbstractFrameView). h.stack) frames

  abbrev variables : List (List (Option Fact))
  variables = map (λ (h : AbstractFrameView). h.locals) frames

  abbrev all : InStateView
  all = frame_with (join_places (length f.stack) (f.stack ∷ (g.stack ∷ stacks))) (join_places count (f.locals ∷ (g.locals ∷ variables)))

  abbrev others : InStateView
  others = frame_with (join_places (length g.stack) (g.stack ∷ stacks)) (join_places count (g.locals ∷ variables))

  -- the others, with this frame
  abbrev together : InStateView
  together = frame_with (join_two_places (join_places (length g.stack) (g.stack ∷ stacks)) f.stack)
      (join_two_places (join_places count (g.locals ∷ variables)) f.locals)

  together_is : join_two_states others (Known f) ≡ (if length g.stack == length f.stack then together else UnlikeDepths)
  together_is = ap (λ (n : ℕ). if n == length f.stack then together else UnlikeDepths) (joined_count (length g.stack) (g.stack ∷ stacks))

  all_is : length g.stack ≡ length f.stack → all ≡ together
  all_is same =
      frame_same _ _ _ _
      (places_joined (length f.stack) f.stack g.stack stacks
      ∙ ap (λ (n : ℕ). join_two_places (join_places n (g.stack ∷ stacks)) f.stack) (sym same))
      (places_joined count f.locals g.locals variables)

  -- by whether this frame is as deep as the next, and whether the others are as deep as that one
  as_deep : (alike : Bool) → length g.stack ≡ length f.stack →
      (if not alike then UnlikeDepths else all) ≡ join_two_states (if not alike then UnlikeDepths else others) (Known f)
  as_deep false same = refl
  as_deep true same =
      all_is same
      ∙ sym (together_is ∙ ap (λ (b : Bool). if b then together else UnlikeDepths)
      (ap (λ (n : ℕ). n == length f.stack) same ∙ same_number (length f.stack)))

  deeper_or_less : (alike : Bool) → (length g.stack == length f.stack) ≡ false →
      UnlikeDepths ≡ join_two_states (if not alike then UnlikeDepths else others) (Known f)
  deeper_or_less false e = refl
  deeper_or_less true e = sym (together_is ∙ ap (λ (b : Bool). if b then together else UnlikeDepths) e)

  by_depth : (same : Bool) → (length g.stack == length f.stack) ≡ same →
      (if not (same && list_all (λ n. n == length f.stack) depths) then UnlikeDepths else all)
      ≡ join_two_states (if not (list_all (λ n. n == length g.stack) depths) then UnlikeDepths else others) (Known f)
  by_depth true e =
      let same : length g.stack ≡ length f.stack = is_number (length g.stack) (length f.stack) e in
      ap (λ (m : ℕ). if not (list_all (λ n. n == m) depths) then UnlikeDepths else all) (sym same)
      ∙ as_deep (list_all (λ n. n == length g.stack) depths) same
  by_depth false e = deeper_or_less (list_all (λ n. n == length g.stack) depths) e

  joined_to_some : join_frames count (f ∷ (g ∷ frames)) ≡ join_two_states (join_frames count (g ∷ frames)) (Known f)
  joined_to_some =
      ap (λ (b : Bool). if b then UnlikeDepths else all) (differ_from_first (length f.stack) (length g.stack ∷ depths))
      ∙ (by_depth (length g.stack == length f.stack) refl
      ∙ sym (ap (λ (b : Bool). join_two_states (if b then UnlikeDepths else others) (Known f))
      (differ_from_first (length g.stack) depths)))

-- one frame more
pub joined_one_more : (count : ℕ) (f : AbstractFrameView) (frames : List AbstractFrameView) → length f.locals ≡ count →
    join_frames count (f ∷ frames) ≡ join_two_states (join_frames count frames) (Known f)
joined_one_more count f [] wide = joined_alone count f wide
joined_one_more count f (g ∷ frames) wide = joined_to_some count f g frames
