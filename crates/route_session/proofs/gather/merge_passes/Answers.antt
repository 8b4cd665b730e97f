use Rattle.std.proofs.Common.{rules, length, subst, List, ◌∙◌, sym, map-id}
use Rattle.std.proofs.lemmas.Iterator.Consumers.{YieldsList-end, YieldsList-turn}
use Rattle.std.proofs.lemmas.Iterator.Adapters.{YieldsList-from_vec}
use Rattle.route_session.specs.declared.job.Finished.{Finished}
use Rattle.route_session.specs.Jobs.{Gathered}
use Rattle.route_session.proofs.Gathering.{gathered_none, gathered_one, of_router}
use Rattle.route_session.proofs.gather.merge_passes.Goals as goal

pub loop-job-init : goal.loop-job-init
loop-job-init g c = record { of = c.requires.of.0; own = λ x. x; merged = gathered_none c.args.pass.now.fragment }

pub join-requires : goal.join-requires
join-requires g c =
    let turn = YieldsList-turn (YieldsList-from_vec {s = c.into_iter-job-iterator.result} c.args.finished.items (search rules) (search rules))
    c.loop-job.yielded c.loop-job.job-iterator c.loop-job.yielded_by c.next.result c.next.new.self c.in-Some.job c.in-Some.is c.next.ensures.steps in (
      c.loop-job.invariant.of,
      of_router c.args.router.now c.args.finished.items c.in-Some.job (length c.loop-job.yielded) c.requires.of.1 turn.0 turn.1,
    )

pub loop-job-preserved : goal.loop-job-preserved
loop-job-preserved g c = record {
  of = c.join.ensures.of;
  own = λ x. c.join.ensures.own;
  merged = gathered_one c.args.pass.now.fragment c.loop-job.pass.fragment c.loop-job.yielded c.in-Some.job c.join.new.pass.fragment
      c.loop-job.invariant.merged c.join.ensures.merged;
}

pub returns-clause-merged : goal.returns-clause-merged
returns-clause-merged g c =
    let end = YieldsList-end (YieldsList-from_vec {s = c.into_iter-job-iterator.result} c.args.finished.items (search rules) (search rules))
    c.loop-job.yielded c.loop-job.job-iterator c.loop-job.yielded_by c.next.result c.next.new.self c.in-None.is c.next.ensures.steps in
    subst (λ (l : List (Finished _)). Gathered c.args.pass.now.fragment l c.loop-job.pass.fragment) (sym (map-id _) ∙ end.0) c.loop-job.invariant.merged
