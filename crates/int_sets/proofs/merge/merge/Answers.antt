use Rattle.std.proofs.Common.{◌≡◌, ◌||◌, sym, ap, ◌∙◌, get_or, take, arith}
use Rattle.std.proofs.lemmas.List.{get_or_default}
use Rattle.std.proofs.lemmas.List.Folds.{list_any_more}
use Rattle.int_sets.specs.Holding.{holds, holds_any}
use Rattle.int_sets.proofs.merge.merge.Goals as goal

pub loop-range-preserved : goal.loop-range-preserved
loop-range-preserved c =
    let sorted = c.deref-range-items.result.now in
    let at = c.loop-range.range-index in
    let range = c.range-item.result in
    let is : range ≡ get_or sorted at range = c.range-item.is in
    record {
      rising = c.in_ok-add.ensures.rising;
      before = λ later d past inside k e found.
          let same : get_or sorted at d ≡ range = get_or_default sorted at d range (omega arith) ∙ sym is in
          omega (
            arith,
            c.in_ok-add.ensures.before k e found,
            rw (← c.deref-range-items.ensures.value) at c.in_ok-sorted.ensures.order at later d (omega arith) inside,
            ap (λ r. r.low) same,
          );
      same = λ number.
          c.in_ok-add.ensures.numbers number
          ∙ ap (λ b. b || holds number range) (c.loop-range.invariant.same number)
          ∙ ap (λ r. holds_any number (take at sorted) || holds number r) is
          ∙ sym (list_any_more (holds number) sorted at range (omega arith));
    }
