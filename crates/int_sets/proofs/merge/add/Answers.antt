use Rattle.std.proofs.Common.{◌≡◌, ◌-◌, ◌<◌, ◌≤◌, ap, get_or, length, sym, ◌∙◌, arith}
use Rattle.std.proofs.lemmas.List.{get_or_default}
use Rattle.int_sets.specs.Holding.{NumberRange}
use Rattle.int_sets.proofs.Merging.{numbers_kept, still_rising}
use Rattle.int_sets.proofs.merge.add.Goals as goal
use Rattle.int_sets.proofs.merge.add.Goals.{else-count-gt0-via-then-count-gt0+else-low-high, else-count-gt0-via-else-count-gt0}

pub returns-then-low-high-clause-numbers : goal.returns-then-low-high-clause-numbers
returns-then-low-high-clause-numbers c = λ number.
    let ranges = c.args.merged.now.items in
    let last = c.index-then-low-high.result.now in
    let count : c.len-count.result ≡ length ranges = omega (arith, c.args.merged.now.ok.0) in
    let some : 0 < length ranges = omega (arith, c.if-count-gt0.true) in
    let seen : c.index.result.now ≡ last =
    c.index.ensures ∙ get_or_default ranges (c.len-count.result - 1) c.index.result.now last (omega arith) ∙ sym c.index-then-low-high.ensures in
    let is : last ≡ get_or ranges (length ranges - 1) last = rw (← count) c.index-then-low-high.ensures in
    let order : last.low ≤ c.args.range.low = rw is (c.requires.before (length ranges - 1) last (omega arith)) in
    let reached : c.args.range.low ≤ last.high =
    omega (arith, c.low.ensures.low, c.if-low-high.true, c.high.ensures, ap (λ r. r.high) seen) in
    rw (c.up_to.ensures, c.high-then-low-high.ensures, count) (numbers_kept number ranges last c.args.range some is order reached)

pub returns-clause-rising : goal.returns-clause-rising
returns-clause-rising c =
    let ranges = c.args.merged.now.items in
    let count : c.len-count.result ≡ length ranges = omega (arith, c.args.merged.now.ok.0) in
    let past : (d : NumberRange) → 0 < length ranges → (get_or ranges (length ranges - 1) d).high ≤ c.args.range.high =
    elim c.else-count-gt0.branch [
      | else-count-gt0-via-then-count-gt0+else-low-high w ↦ (λ d some.
          let seen : w.index.result.now ≡ get_or ranges (length ranges - 1) d =
          rw count at w.index.ensures ∙ get_or_default ranges (length ranges - 1) w.index.result.now d (omega arith) in
          omega (arith, w.low.ensures.order, w.if-low-high.false, w.high.ensures, ap (λ r. r.high) seen))
      | else-count-gt0-via-else-count-gt0 w ↦ (λ d some. absurd (omega (arith, w.if-count-gt0.false)))
    ] in
    rw c.in_ok-push.ensures.items (still_rising ranges c.args.range c.requires.rising c.requires.before past)
