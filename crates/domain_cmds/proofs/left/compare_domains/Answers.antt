-- What is told of a change is written, or a front of it.
use Rattle.std.proofs.Common.{refl}
use Rattle.filter_source.proofs.Refused.{of_error}
use Rattle.domain_cmds.proofs.Leaving.{compares, compares_front, compares_not}
use Rattle.domain_cmds.proofs.left.compare_domains.Goals as goal

pub returns-in_err-write_text-in-Ok-clause-err : goal.returns-in_err-write_text-in-Ok-clause-err
returns-in_err-write_text-in-Ok-clause-err g c =
    rw (← c.old.view_is, ← c.new.view_is)
    (of_error c.from_residual.result _ c.in_err-write_text-in-Ok.field-0.0 c.from_residual.ensures.1
    (compares_front c.in_err-write_text-in-Ok.field-0.0 c.args.format c.old.inside.domain c.new.inside.domain
    (g.W.Write.contents c.args.writer.now) (g.W.Write.contents c.write_text.new.writer) c.in-Ok.told.text.items c.as_slice.result.now
    c.in-Ok.told.is_lost c.in-Ok.ensures c.as_slice.ensures.value c.in_err-write_text-in-Ok.ensures.err))

pub returns-in-Ok-clause-ok : goal.returns-in-Ok-clause-ok
returns-in-Ok-clause-ok g c =
    rw (← c.old.view_is, ← c.new.view_is)
    (compares c.args.format c.old.inside.domain c.new.inside.domain (g.W.Write.contents c.args.writer.now)
    (g.W.Write.contents c.write_text.new.writer) c.in-Ok.told.text.items c.as_slice.result.now c.in-Ok.told.is_lost c.in-Ok.ensures
    c.as_slice.ensures.value c.in_ok-write_text-in-Ok.ensures.ok)

pub returns-clause-err : goal.returns-clause-err
returns-clause-err g c = compares_not _ c.args.format c.args.old c.args.new (g.W.Write.contents c.args.writer.now) _ refl refl
