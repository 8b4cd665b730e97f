use Rattle.std.proofs.Common.{◌≡◌, ◌+◌, ◌≤◌, length, map, sym, ap, subst, ◌∙◌, arith}
use Rattle.std.proofs.lemmas.List.{length-map, take_all}
use Rattle.filter_types.specs.Sweep.{AreAllApartBefore, labelled, part_ranges}
use Rattle.filter_types.proofs.Labelling.{gathered_label, labels_apart, ranges_apart}
use Rattle.filter_types.proofs.parts.first_shared_label.Goals as goal

pub loop-number-preserved : goal.loop-number-preserved
loop-number-preserved c = record {
  gathered =
      gathered_label c.loop-number.number c.loop-number.gathered.items c.gather_label.new.gathered.items c.args.parts.now
      c.index-parts-number.result c.loop-number-test.true c.index-parts-number.is c.loop-number.invariant.gathered
      c.in_ok-gather_label.ensures.added;
  ordered = c.in_ok-gather_label.ensures.ordered;
}

pub returns-clause-apart : goal.returns-clause-apart
returns-clause-apart c =
    let parts = c.args.parts.now in
    let whole : c.loop-number.gathered.items ≡ labelled 0 (map part_ranges parts) =
    c.loop-number.invariant.gathered
    ∙ ap (λ xs. labelled 0 (map part_ranges xs)) (take_all c.loop-number.number parts (omega (arith, c.loop-number-test.false))) in
    labels_apart c.first_shared.result (map part_ranges parts) (omega (arith, c.first_shared.ensures.limit, length-map parts part_ranges))
    (subst (AreAllApartBefore c.first_shared.result) whole c.first_shared.ensures.apart)

pub returns-clause-most : goal.returns-clause-most
returns-clause-most c low all =
    let parts = c.args.parts.now in
    let whole : c.loop-number.gathered.items ≡ labelled 0 (map part_ranges parts) =
    c.loop-number.invariant.gathered
    ∙ ap (λ xs. labelled 0 (map part_ranges xs)) (take_all c.loop-number.number parts (omega (arith, c.loop-number-test.false))) in
    let within : c.first_shared.result + 1 ≤ length (map part_ranges parts) = omega (arith, low, length-map parts part_ranges) in
    c.first_shared.ensures.most low
    (subst (AreAllApartBefore (c.first_shared.result + 1)) (sym whole) (ranges_apart (c.first_shared.result + 1) (map part_ranges parts) within all))
