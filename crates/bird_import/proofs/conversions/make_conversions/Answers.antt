use Rattle.std.proofs.Common.{length, refl}
use Rattle.std.proofs.lemmas.Option.{slice_get_read}
use Rattle.bird_import.proofs.Reached.{one_conversion}
use Rattle.bird_import.proofs.conversions.make_conversions.Goals as goal

pub loop-item-preserved : goal.loop-item-preserved
loop-item-preserved c =
    let items = c.args.config.now.items.now in
    let is = slice_get_read items (length items) c.loop-item.item-index c.item-item.result refl c.loop-item-test.true c.item-item.is in
    one_conversion c.args.config.now items c.loop-item.item-index c.item-item.result _ _ is c.loop-item.invariant c.in_ok-push_conversion.ensures
