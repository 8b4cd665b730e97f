use Rattle.std.proofs.Common.{rules, ◌≡◌, ◌<◌, ◌≤◌, true, inl, inr, length, map, refl, sym, subst, arith}
use Rattle.std.proofs.lemmas.List.{append-nil, length-map}
use Rattle.filter_syntax.specs.Syntax.{range_of, view_range}
use Rattle.filter_compiler.specs.Translation.{ranges_set}
use Rattle.filter_compiler.specs.Written.{Gathers}
use Rattle.filter_compiler.proofs.Gathering.{few_ranges, many_ranges, put_past, put_within}
use Rattle.filter_compiler.proofs.sets.SetLists.put_ranges.Goals as goal
use Rattle.filter_compiler.proofs.sets.SetLists.put_ranges.Goals.{then-from-ge-INT_SET_LIMIT-via-then-from-ge-INT_SET_LIMIT, then-from-ge-INT_SET_LIMIT-via-else-from-ge-INT_SET_LIMIT+then-set-gt-RANGE_LIMIT}
use Rattle.filter_compiler.proofs.sets.SetLists.put_ranges.Goals.{else-self-via-then-self+else-is_err, else-self-via-else-self}

pub returns-then-from-ge-INT_SET_LIMIT : goal.returns-then-from-ge-INT_SET_LIMIT
returns-then-from-ge-INT_SET_LIMIT c =
    let set = map view_range c.args.set.now in
    let same : length (map range_of set) ≡ length c.args.set.now = omega (arith, length-map set range_of, length-map c.args.set.now view_range) in
    let from = c.from.ensures in
    elim c.then-from-ge-INT_SET_LIMIT.branch [
      | then-from-ge-INT_SET_LIMIT-via-then-from-ge-INT_SET_LIMIT w ↦
          let full : 64 ≤ c.args.self.now.numbers.ints = (let over = w.if-from-ge-INT_SET_LIMIT.true in omega arith) in
          put_past c.args.self.now _ (ranges_set set) (λ n counted. c.after_ints-self.ensures n set counted)
          (λ before h. many_ranges c.args.self.now set before h (inl full)) refl refl
      | then-from-ge-INT_SET_LIMIT-via-else-from-ge-INT_SET_LIMIT+then-set-gt-RANGE_LIMIT w ↦
          let large : 1024 < length (map range_of set) = (let over = w.if-set-gt-RANGE_LIMIT.true in omega arith) in
          put_past c.args.self.now _ (ranges_set set) (λ n counted. c.after_ints-self.ensures n set counted)
          (λ before h. many_ranges c.args.self.now set before h (inr large)) refl refl
    ]

pub returns-then-is_err : goal.returns-then-is_err
returns-then-is_err c =
    let set = map view_range c.args.set.now in
    let low : c.args.self.now.numbers.ints < 64 = omega (arith, c.from.ensures, c.if-from-ge-INT_SET_LIMIT.false) in
    let small : length (map range_of set) ≤ 1024 =
    omega (arith, c.if-set-gt-RANGE_LIMIT.false, length-map set range_of, length-map c.args.set.now view_range) in
    put_within c.args.self.now _ (ranges_set set) (λ n counted. c.after_ints-self.ensures n set counted)
    (λ before h. few_ranges c.args.self.now set before h low small) refl (λ e. cc) (λ e. cc) (λ e. cc)

pub returns-else-self : goal.returns-else-self
returns-else-self c =
    let set = map view_range c.args.set.now in
    let low : c.args.self.now.numbers.ints < 64 = omega (arith, c.from.ensures, c.if-from-ge-INT_SET_LIMIT.false) in
    let small : length (map range_of set) ≤ 1024 =
    omega (arith, c.if-set-gt-RANGE_LIMIT.false, length-map set range_of, length-map c.args.set.now view_range) in
    elim c.else-self.branch [
      | else-self-via-then-self+else-is_err w ↦
          subst (λ o. Gathers c.args.self.now o (ranges_set set)) (sym w.self-is)
          (put_within c.args.self.now _ (ranges_set set) (λ n counted. c.after_ints-self.ensures n set counted)
          (λ before h. few_ranges c.args.self.now set before h low small) refl (λ e. e) (λ e. sym (append-nil c.args.self.now.patterns.items)) (λ e. search rules))
      | else-self-via-else-self w ↦
          subst (λ o. Gathers c.args.self.now o (ranges_set set)) (sym w.self-is)
          (put_within c.args.self.now _ (ranges_set set) (λ n counted. c.after_ints-self.ensures n set counted)
          (λ before h. few_ranges c.args.self.now set before h low small) refl (λ e. e)
          (λ (e : c.args.self.now.kept ≡ true). absurd (let f = w.if-self.false in cc))
          (λ (e : c.args.self.now.kept ≡ true). absurd (let f = w.if-self.false in cc)))
    ]
