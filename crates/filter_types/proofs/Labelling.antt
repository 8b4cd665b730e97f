-- Labels share a number if and only if two of their ranges do, which are of different labels.
use Rattle.std.proofs.Common.{◌≡◌, ℕ, zero, suc, ◌+◌, ◌<◌, ◌≤◌, ◌⊎◌, inl, inr, List, [], ◌∷◌, ◌++◌, length, map, take, get_or}
use Rattle.std.proofs.Common.{refl, sym, ap, subst, ◌∙◌, arith, Vec, Global}
use Rattle.std.proofs.Math.ListN.{get_or-map}
use Rattle.std.proofs.lemmas.Bool.{cases_order}
use Rattle.std.proofs.lemmas.List as lists
use Rattle.std.proofs.lemmas.List.Elements.{All-contains, Contains-append_cases, Contains-append_left, Contains-append_right, Contains-get_or}
use Rattle.std.specs.List.{All, Contains}
use Rattle.int_sets.specs.Holding.{NumberRange, Holds, HoldsAny}
use Rattle.filter_syntax.specs.Syntax.{range_of, view_range}
use Rattle.filter_syntax.specs.SyntaxCommands.{view_label}
use Rattle.filter_syntax.specs.declared.tree.command.Command.{Command}
use Rattle.filter_syntax.specs.declared.tree.command.Label.{Label}
use Rattle.filter_syntax.specs.declared.tree.command.Label.TheVariants as label
use Rattle.filter_syntax.specs.declared.tree.set.SetRange.{SetRange}
use Rattle.filter_types.specs.Labels.{AreAllApart, label_ranges}
use Rattle.filter_types.specs.Sweep.{AreDisjoint, AreApartBefore, AreAllApartBefore, labelled, labelled_range, part_ranges, written_range}
use Rattle.filter_types.specs.declared.labels.Labelled.{Labelled}
use Rattle.filter_types.proofs.Lists.{map_next}

plus_none : (n : ℕ) → n ≡ n + 0
plus_none n = omega arith

plus_one : (n k : ℕ) → n + 1 + k ≡ n + suc k
plus_one n k = omega arith

-- the ranges of one more label come last
pub labelled_push : (n : ℕ) (labels : List (List NumberRange)) (label : List NumberRange)
    → labelled n (labels ++ label ∷ []) ≡ labelled n labels ++ map (labelled_range (n + length labels)) label
labelled_push n [] label = lists.append-nil (map (labelled_range n) label) ∙ ap (λ m. map (labelled_range m) label) (plus_none n)
labelled_push n (first ∷ labels) label =
    ap (λ rest. map (labelled_range n) first ++ rest) (labelled_push (n + 1) labels label)
    ∙ ap (λ m. map (labelled_range n) first ++ (labelled (n + 1) labels ++ map (labelled_range m) label)) (plus_one n (length labels))
    ∙ sym (lists.append_assoc (map (labelled_range n) first) (labelled (n + 1) labels) _)

ranges_fused : (xs : List SetRange) → map range_of (map view_range xs) ≡ map written_range xs
ranges_fused [] = refl
ranges_fused (x ∷ xs) = ap (λ (rest : List NumberRange). written_range x ∷ rest) (ranges_fused xs)

-- the ranges of a label are those that are written in it
pub written_ranges : (x : Label) (ranges : Vec SetRange Global) (xs : List SetRange) → x ≡ label.Ranges ranges → xs ≡ ranges.items
    → label_ranges (view_label x) ≡ map written_range xs
written_ranges x ranges xs is is_ranges =
    ap (λ y. label_ranges (view_label y)) is ∙ ranges_fused ranges.items ∙ ap (map written_range) (sym is_ranges)

-- one more range of a label
pub gathered_range : (n i : ℕ) (before now : List Labelled) (ranges : List SetRange) (r : SetRange) → i < length ranges → r ≡ get_or ranges i r
    → now ≡ before ++ map (labelled_range n) (map written_range (take i ranges))
    → now ++ labelled_range n (written_range r) ∷ [] ≡ before ++ map (labelled_range n) (map written_range (take (i + 1) ranges))
gathered_range n i before now ranges r low at is =
    let so_far : List Labelled = map (labelled_range n) (map written_range (take i ranges)) in
    let one = labelled_range n (written_range r) in
    let longer : map (labelled_range n) (map written_range (take (i + 1) ranges)) ≡ so_far ++ one ∷ [] =
    ap (map (labelled_range n)) (map_next written_range ranges i r low at)
    ∙ lists.map-append (labelled_range n) (map written_range (take i ranges)) (written_range r ∷ []) in
    ap (λ xs. xs ++ one ∷ []) is ∙ lists.append_assoc before so_far (one ∷ []) ∙ ap (λ xs. before ++ xs) (sym longer)

-- one more label
pub gathered_label : (i : ℕ) (before now : List Labelled) (parts : List (Label × Vec Command Global)) (p : Label × Vec Command Global)
    → i < length parts → p ≡ get_or parts i p → before ≡ labelled 0 (map part_ranges (take i parts))
    → now ≡ before ++ map (labelled_range i) (part_ranges p) → now ≡ labelled 0 (map part_ranges (take (i + 1) parts))
gathered_label i before now parts p low at is added =
    let so_far : List (List NumberRange) = map part_ranges (take i parts) in
    let count : 0 + length so_far ≡ i =
    omega (arith, lists.length-map (take i parts) part_ranges, lists.length-take-le i parts (omega (arith, low))) in
    added ∙ ap (λ xs. xs ++ map (labelled_range i) (part_ranges p)) is
    ∙ ap (λ m. labelled 0 so_far ++ map (labelled_range m) (part_ranges p)) (sym count)
    ∙ sym (ap (labelled 0) (map_next part_ranges parts i p low at) ∙ labelled_push 0 so_far (part_ranges p))

-- a range of a label is among the ranges of all
there : (n m i : ℕ) (labels : List (List NumberRange)) (d : List NumberRange) (r : NumberRange) → m ≡ n + i → i < length labels
    → Contains (get_or labels i d) r → Contains (labelled n labels) (labelled_range m r)
there n m i [] d r is inside has = absurd (omega (arith, inside))
there n m zero (label ∷ labels) d r is inside has =
    let same : n ≡ m = omega (arith, is) in
    Contains-append_left (map (labelled_range n) label) (labelled (n + 1) labels) (labelled_range m r)
    (subst (λ k. Contains (map (labelled_range n) label) (labelled_range k r)) same
    (has.0, omega (arith, has.1, lists.length-map label (labelled_range n)), get_or-map (labelled_range n) label has.0 r ∙ ap (labelled_range n) has.2))
there n m (suc i) (label ∷ labels) d r is inside has =
    Contains-append_right (map (labelled_range n) label) (labelled (n + 1) labels) (labelled_range m r)
    (there (n + 1) m i labels d r (omega (arith, is)) (omega (arith, inside)) has)

-- where a range is found that is among those of all labels
record IsOf (n : ℕ) (labels : List (List NumberRange)) (x : Labelled) : Type 0 where
  place : ℕ
  inside : place < length labels
  number : x.label ≡ n + place
  has : (d : List NumberRange) → Contains (get_or labels place d) x.range

of_first : (n : ℕ) (label : List NumberRange) (labels : List (List NumberRange)) (x : Labelled) → Contains (map (labelled_range n) label) x
    → IsOf n (label ∷ labels) x
of_first n label labels x has =
    let within : has.0 < length label = omega (arith, has.1, lists.length-map label (labelled_range n)) in
    let is : labelled_range n (get_or label has.0 x.range) ≡ x =
    sym (lists.get_or-map (labelled_range n) label has.0 x.range x within) ∙ has.2 in
    record {
      place = 0;
      inside = omega arith;
      number = omega (arith, ap (λ (y : Labelled). y.label) is);
      has = λ d. (has.0, within, ap (λ (y : Labelled). y.range) is);
    }

of_later : (n : ℕ) (label : List NumberRange) (labels : List (List NumberRange)) (x : Labelled) → IsOf (n + 1) labels x → IsOf n (label ∷ labels) x
of_later n label labels x of = record {
  place = suc of.place;
  inside = omega (arith, of.inside);
  number = omega (arith, of.number);
  has = of.has;
}

found_step : (n : ℕ) (label : List NumberRange) (labels : List (List NumberRange)) (x : Labelled)
    → (Contains (labelled (n + 1) labels) x → IsOf (n + 1) labels x)
    → Contains (map (labelled_range n) label) x ⊎ Contains (labelled (n + 1) labels) x → IsOf n (label ∷ labels) x
found_step n label labels x rest (inl here) = of_first n label labels x here
found_step n label labels x rest (inr later) = of_later n label labels x (rest later)

found : (n : ℕ) (labels : List (List NumberRange)) (x : Labelled) → Contains (labelled n labels) x → IsOf n labels x
found n [] x has = absurd (omega (arith, has.1))
found n (label ∷ labels) x has =
    found_step n label labels x (found (n + 1) labels x)
    (Contains-append_cases (map (labelled_range n) label) (labelled (n + 1) labels) x has)

-- what any of a label's ranges holds, one of them does
range_of_any : (number : ℕ) (label : List NumberRange) → HoldsAny number label → (r : NumberRange) × Contains label r × Holds number r
range_of_any number label any = (any.1, (any.0, any.2, any.3), any.4)

any_of_range : (number : ℕ) (label : List NumberRange) (r : NumberRange) → Contains label r → Holds number r → HoldsAny number label
any_of_range number label r has holds = (has.0, r, has.1, has.2, holds)

-- labels up to a number are apart if their ranges are
pub labels_apart : (count : ℕ) (labels : List (List NumberRange)) → count ≤ length labels → AreAllApartBefore count (labelled 0 labels)
    → AreAllApart (take count labels)
labels_apart count labels within all i j d before inside number here later =
    let long : length (take count labels) ≡ count = lists.length-take-le count labels within in
    let below : j < count = omega (arith, inside, long) in
    let first = range_of_any number (get_or labels i d) (rw (lists.get_or-take count labels i d (omega (arith, before, below))) at here) in
    let second = range_of_any number (get_or labels j d) (rw (lists.get_or-take count labels j d below) at later) in
    let x = labelled_range i first.0 in
    let y = labelled_range j second.0 in
    let has_x : Contains (labelled 0 labels) x = there 0 i i labels d first.0 (omega arith) (omega (arith, before, below, within)) first.1 in
    let has_y : Contains (labelled 0 labels) y = there 0 j j labels d second.0 (omega arith) (omega (arith, below, within)) second.1 in
    let row : All (AreApartBefore count x) (labelled 0 labels) =
    All-contains (λ z. All (AreApartBefore count z) (labelled 0 labels)) (labelled 0 labels) x all has_x in
    All-contains (AreApartBefore count x) (labelled 0 labels) y row has_y (omega (arith, before, below)) below (λ e. omega (arith, before, e)) number
    first.2 second.2

-- and ranges of labels that are apart are
in_order_apart : (count : ℕ) (labels : List (List NumberRange)) (x y : Labelled) → count ≤ length labels → AreAllApart (take count labels)
    → IsOf 0 labels x → IsOf 0 labels y → x.label < y.label → y.label < count → AreDisjoint x.range y.range
in_order_apart count labels x y within all of_x of_y before below number holds_x holds_y =
    let long : length (take count labels) ≡ count = lists.length-take-le count labels within in
    let i = of_x.place in
    let j = of_y.place in
    let low_i : i < count = omega (arith, of_x.number, before, below) in
    let low_j : j < count = omega (arith, of_y.number, below) in
    all i j [] (omega (arith, of_x.number, of_y.number, before)) (omega (arith, low_j, long)) number
    (rw (lists.get_or-take count labels i [] low_i) (any_of_range number (get_or labels i []) x.range (of_x.has []) holds_x))
    (rw (lists.get_or-take count labels j [] low_j) (any_of_range number (get_or labels j []) y.range (of_y.has []) holds_y))

pub ranges_apart : (count : ℕ) (labels : List (List NumberRange)) → count ≤ length labels → AreAllApart (take count labels)
    → AreAllApartBefore count (labelled 0 labels)
ranges_apart count labels within all k d inside i e bound low below differ number holds_x holds_y =
    let xs = labelled 0 labels in
    let x = get_or xs k d in
    let y = get_or xs i e in
    let of_x = found 0 labels x (Contains-get_or xs k d inside) in
    let of_y = found 0 labels y (Contains-get_or xs i e bound) in
    by_case x y of_x of_y low below differ holds_x holds_y (cases_order x.label y.label) where
      by_case : (x y : Labelled) → IsOf 0 labels x → IsOf 0 labels y → x.label < count → y.label < count → (x.label ≡ y.label → ⊥)
          → Holds number x.range → Holds number y.range → (x.label ≡ y.label) ⊎ ((x.label < y.label) ⊎ (y.label < x.label)) → ⊥
      by_case x y of_x of_y low below differ holds_x holds_y (inl same) = differ same
      by_case x y of_x of_y low below differ holds_x holds_y (inr (inl before)) =
          in_order_apart count labels x y within all of_x of_y before below number holds_x holds_y
      by_case x y of_x of_y low below differ holds_x holds_y (inr (inr after)) =
          in_order_apart count labels y x within all of_y of_x after low number holds_y holds_x
