use Rattle.std.proofs.Common.{◌∙◌, sym}
use Rattle.filter_lint.proofs.Watched.{none_watched, one_watched}
use Rattle.filter_lint.specs.Watching.{is_watched}
use Rattle.filter_lint.proofs.watching.watched_places.Goals as goal

pub loop-at-init : goal.loop-at-init
loop-at-init c = c.new-watched.ensures.items ∙ sym (none_watched (is_watched c.args.source.now))

pub loop-at-preserved : goal.loop-at-preserved
loop-at-preserved c =
    one_watched (is_watched c.args.source.now) c.loop-at.at c.loop-at.watched.items c.push.new.self.items c.is_watched.result
    c.loop-at.invariant c.is_watched.ensures c.in_ok-push.ensures.items
