use Rattle.std.proofs.Common.{length, refl, arith}
use Rattle.std.proofs.lemmas.Option.{slice_get_read, slice_get_within}
use Rattle.bird_import.specs.Reasons.{HasNameBefore}
use Rattle.bird_import.proofs.Below.{none_more}
use Rattle.bird_import.proofs.conversions.is_named_before.Goals as goal

pub returns-then-has_name_before : goal.returns-then-has_name_before
returns-then-has_name_before c =
    let items = c.args.config.now.items.now in
    let is = slice_get_read items (length items) c.loop-other.other-index c.other-item.result refl c.loop-other-test.true c.other-item.is in
    (λ _. (c.loop-other.other-index, c.other-item.result, is, c.if-has_name_before.ensures.0 refl), λ _. refl)

pub loop-other-preserved : goal.loop-other-preserved
loop-other-preserved c =
    let items = c.args.config.now.items.now in
    let is = slice_get_read items (length items) c.loop-other.other-index c.other-item.result refl c.loop-other-test.true c.other-item.is in
    let not : HasNameBefore c.other-item.result c.args.item.now → ⊥ = λ named. grind (arith, c.if-has_name_before.ensures.1 named) in
    none_more (λ other. HasNameBefore other c.args.item.now) items c.loop-other.other-index c.other-item.result is not c.loop-other.invariant

pub returns : goal.returns
returns c = (
  λ no. absurd cc,
  λ named. absurd (c.loop-other.invariant named.0 named.1
      (omega (arith, c.loop-other-test.false, slice_get_within c.args.config.now.items.now named.0 named.1 named.2)) named.2 named.3),
)
