use Rattle.std.proofs.Common.{◌≡◌, ◌+◌, ◌-◌, ◌/◌, sym, subst, ◌∙◌, arith}
use Rattle.filter_types.specs.Sweep.{AreAllApartBefore}
use Rattle.filter_types.proofs.Sweeping.{sweep_true, sweep_false}
use Rattle.filter_types.proofs.labels.count_apart.Goals as goal

pub loop-low-preserved-then-are_apart : goal.loop-low-preserved-then-are_apart
loop-low-preserved-then-are_apart c = record {
  order = omega (arith, c.loop-low-test.true);
  limit = c.loop-low.invariant.limit;
  apart = sweep_true _ c.args.sorted.now c.requires.rising c.requires.ordered (sym c.are_apart.ensures ∙ c.if-are_apart.true);
  most = c.loop-low.invariant.most;
}

pub loop-low-preserved : goal.loop-low-preserved
loop-low-preserved c =
    let middle = c.loop-low.high - (c.loop-low.high - c.loop-low.low) / 2 in
    let same : middle - 1 + 1 ≡ middle = omega (arith, c.loop-low-test.true) in
    record {
      order = omega (arith, c.loop-low-test.true);
      limit = omega (arith, c.loop-low.invariant.limit);
      apart = c.loop-low.invariant.apart;
      most = λ low all.
          sweep_false middle c.args.sorted.now c.requires.rising c.requires.ordered (sym c.are_apart.ensures ∙ c.if-are_apart.false)
          (subst (λ n. AreAllApartBefore n c.args.sorted.now) same all);
    }

pub returns-clause-most : goal.returns-clause-most
returns-clause-most c low all =
    let same : c.loop-low.low ≡ c.loop-low.high = omega (arith, c.loop-low-test.false, c.loop-low.invariant.order) in
    c.loop-low.invariant.most (omega (arith, same, low)) (subst (λ n. AreAllApartBefore (n + 1) c.args.sorted.now) same all)
