use Rattle.bird_import.proofs.Following.{none_yet}
use Rattle.bird_import.proofs.items.find_items.Goals as goal

pub loop-statement-init : goal.loop-statement-init
loop-statement-init c = none_yet c.args.words.now 0 c.new.result.items c.new.ensures.items

pub loop-statement-preserved : goal.loop-statement-preserved
loop-statement-preserved c = c.in_ok-go_through.ensures c.loop-statement.invariant

pub returns : goal.returns
returns c = c.loop-statement.invariant.are
