use Rattle.domain_reports.specs.Reports.{effect_data}
use Rattle.domain_reports.specs.Views.{effect_view}
use Rattle.domain_reports.proofs.Listing.{all_shown, one_more_shown}
use Rattle.domain_reports.proofs.filter.effects_value.Goals as goal

pub loop-effect-preserved : goal.loop-effect-preserved
loop-effect-preserved c =
    one_more_shown effect_data effect_view c.args.effects.now c.loop-effect.effect-index c.effect-item.result c.loop-effect.list.items c.push.new.self.items
    c.in_ok-effect_value.field-0 c.loop-effect-test.true c.effect-item.is c.in_ok-push.ensures.items c.loop-effect.invariant c.in_ok-effect_value.ensures

pub returns : goal.returns
returns c =
    all_shown effect_data effect_view c.args.effects.now c.loop-effect.effect-index c.loop-effect.list c.loop-effect-test.false c.loop-effect.invariant
