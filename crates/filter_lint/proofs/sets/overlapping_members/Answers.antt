use Rattle.std.proofs.Common.{◌++◌, ◌∙◌, List, ap, sym}
use Rattle.filter_lint.proofs.Found.{more_of, none_of}
use Rattle.filter_lint.specs.Sets.{overlaps_by}
use Rattle.filter_lint.specs.declared.warning.Warning.{Warning}
use Rattle.filter_lint.proofs.sets.overlapping_members.Goals as goal

pub loop-at-init : goal.loop-at-init
loop-at-init c = c.new-found.ensures.items ∙ sym (none_of (overlaps_by c.args.source.now))

pub loop-at-preserved : goal.loop-at-preserved
loop-at-preserved c =
    more_of (overlaps_by c.args.source.now) c.loop-at.at c.loop-at.found.items c.extend_from_slice.new.self.items
    c.loop-at.invariant
    (c.in_ok-extend_from_slice.ensures.items ∙ ap (λ (more : List Warning). c.loop-at.found.items ++ more)
    (c.as_slice.ensures.value ∙ c.in_ok-more.ensures))
