-- One line more is added, or it is not.
use Rattle.std.proofs.Common.{◌∙◌, refl}
use Rattle.ncroute.proofs.DomainIncluded.{all_added, none_added, one_added, one_lacks}
use Rattle.ncroute.proofs.domain_loading.include_filters.Goals as goal

pub loop-line-init : goal.loop-line-init
loop-line-init g c = record {
  goes = none_added (g.F.Folder.opens c.args.files.now) c.args.source.now c.args.text.now c.args.console.now c.new-out.result.items c.new-out.ensures.items;
  unwritten = refl;
}

pub loop-line-preserved : goal.loop-line-preserved
loop-line-preserved g c = record {
  goes = one_added (g.F.Folder.opens c.args.files.now) c.args.source.now c.args.text.now c.args.console.now c.loop-line.size c.size_behind-size.result
      c.loop-line.left.now c.loop-line.out.items c.in-Some.line.now c.in-Some.rest.now c.loop-line.console c.loop-line.invariant.goes
      c.in-Some.ensures.found c.size_behind-size.ensures c.push_next.new.out.items c.push_next.new.console c.in_ok-is_added.is_added
      c.in_ok-is_added.ensures.added c.if-not-is_added.false;
  unwritten = c.push_next.ensures.unwritten ∙ c.loop-line.invariant.unwritten;
}

pub returns-then-not-is_added-clause-finished : goal.returns-then-not-is_added-clause-finished
returns-then-not-is_added-clause-finished g c =
    one_lacks (g.F.Folder.opens c.args.files.now) c.args.source.now c.args.text.now c.args.console.now c.loop-line.size c.size_behind-size.result
    c.loop-line.left.now c.loop-line.out.items c.in-Some.line.now c.in-Some.rest.now c.loop-line.console c.loop-line.invariant.goes
    c.in-Some.ensures.found c.size_behind-size.ensures c.push_next.new.out.items c.push_next.new.console c.in_ok-is_added.is_added
    c.in_ok-is_added.ensures.added c.if-not-is_added.true

pub returns-clause-finished : goal.returns-clause-finished
returns-clause-finished g c =
    all_added (g.F.Folder.opens c.args.files.now) c.args.source.now c.args.text.now c.args.console.now c.loop-line.size c.loop-line.left.now
    c.loop-line.out.items c.loop-line.console c.loop-line.invariant.goes c.in_default.ensures.none
