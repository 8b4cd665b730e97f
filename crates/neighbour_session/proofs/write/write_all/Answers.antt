use Rattle.std.proofs.Common.{◌∙◌, ◌+◌, ap, refl, rules, subst, sym}
use Rattle.route_session.specs.LinkTrace.{LinkTrace}
use Rattle.message_streams.specs.Views.{WriterView}
use Rattle.neighbour_session.specs.Links.{GotLinesOf, OutputView}
use Rattle.neighbour_session.specs.Writing.{told_to}
use Rattle.neighbour_session.proofs.Gaining.{sound_both, sound_same}
use Rattle.neighbour_session.proofs.Writing.{HasWritten, min_more, writes_absent, writes_on, writes_stopped, writes_unwritten, written_none}
use Rattle.neighbour_session.proofs.write.write_all.Goals as goal

pub loop-init : goal.loop-init
loop-init g c = record {
  next = tt;
  finite = tt;
  pass = sound_same c.args.router.now c.args.pass.now c.requires.of;
  shares = refl;
  count = 0;
  counted = refl;
  written = subst (λ (v : OutputView). HasWritten 0 c.args.session c.args.pass.now.fragment (told_to c.args.output) c.args.pass.now.fragment v.told)
      (sym c.new-link.ensures) (written_none c.args.session c.args.pass.now.fragment (told_to c.args.output));
}

pub returns-in-Some-end_of_writer-clause-writes : goal.returns-in-Some-end_of_writer-clause-writes
returns-in-Some-end_of_writer-clause-writes g c =
    let end = c.write_newest-end in
    let u = end.new.link.told in
    let later = c.into_writer.result in
    writes_stopped c.args.waits (g.C.SessionGuard.may_be_present c.args.guard.now) c.args.router.now c.loop.invariant.count end.result.1
    c.saturating_add-left_out.result c.args.session c.args.pass.now c.args.output c.loop.pass c.loop.link.told end.result.0 c.in-Some-end_of_writer.why
    end.new.pass u later c.loop.invariant.written end.ensures.written
    (subst (λ (w : WriterView). GotLinesOf w u later) (sym c.requires.named) c.into_writer.ensures.lines) c.in-Some-end_of_writer.ensures.over
    (c.saturating_add-left_out.ensures ∙ min_more c.loop.left_out c.loop.invariant.count end.result.1 c.loop.invariant.counted)

pub returns-then-not-is_present-clause-writes : goal.returns-then-not-is_present-clause-writes
returns-then-not-is_present-clause-writes g c =
    let end = c.write_newest-end in
    let u = end.new.link.told in
    let later = c.into_writer-then-not-is_present.result in
    writes_absent c.args.waits (g.C.SessionGuard.may_be_present c.args.guard.now) c.args.router.now c.loop.invariant.count end.result.1
    c.saturating_add-left_out.result c.args.session c.args.pass.now c.args.output c.loop.pass c.loop.link.told end.result.0 end.new.pass u later
    c.loop.invariant.written end.ensures.written
    (subst (λ (w : WriterView). GotLinesOf w u later) (sym c.requires.named) c.into_writer-then-not-is_present.ensures.lines)
    c.in_default.ensures.goes_on c.if-not-is_present.ensures
    (c.saturating_add-left_out.ensures ∙ min_more c.loop.left_out c.loop.invariant.count end.result.1 c.loop.invariant.counted)

-- the link has not failed where the writer goes on
pub write_owed-requires : goal.write_owed-requires
write_owed-requires g c =
    let end = c.write_newest-end in
    (writes_on c.args.waits c.args.router.now c.loop.invariant.count end.result.1 c.args.session c.args.pass.now.fragment
    (told_to c.args.output) c.loop.pass.fragment c.loop.link.told end.result.0 end.new.pass.fragment end.new.link.told
    c.loop.invariant.written c.in_default.ensures.goes_on end.ensures.written).failures

pub returns-then-not-write_owed-clause-writes : goal.returns-then-not-write_owed-clause-writes
returns-then-not-write_owed-clause-writes g c =
    let end = c.write_newest-end in
    let u = end.new.link.told in
    let later = c.into_writer-then-not-write_owed.result in
    writes_unwritten c.args.waits (g.C.SessionGuard.may_be_present c.args.guard.now) c.args.router.now c.loop.invariant.count end.result.1
    c.saturating_add-left_out.result c.args.session c.args.pass.now c.args.output c.loop.pass c.loop.link.told end.result.0 end.new.pass u later
    c.loop.invariant.written end.ensures.written
    (subst (λ (w : WriterView). GotLinesOf w u later) (sym c.requires.named)
    (subst (λ (t : LinkTrace). GotLinesOf g.T.GivenWriter.writer t later) c.write_owed.ensures.told c.into_writer-then-not-write_owed.ensures.lines))
    c.in_default.ensures.goes_on
    (ap (λ (w : WriterView). w.over) c.into_writer-then-not-write_owed.ensures.writer ∙ c.write_owed.ensures.unwritten (search rules))
    (c.saturating_add-left_out.ensures ∙ min_more c.loop.left_out c.loop.invariant.count end.result.1 c.loop.invariant.counted)

pub loop-preserved : goal.loop-preserved
loop-preserved g c =
    let end = c.write_newest-end in
    record {
      next = tt;
      finite = tt;
      pass = sound_both c.args.router.now c.args.pass.now c.loop.pass end.new.pass c.loop.invariant.pass end.ensures.pass;
      shares = end.ensures.written.written.writes.gained.shares ∙ c.loop.invariant.shares;
      count = c.loop.invariant.count + end.result.1;
      counted = c.saturating_add-left_out.ensures ∙ min_more c.loop.left_out c.loop.invariant.count end.result.1 c.loop.invariant.counted;
      written = subst (λ (t : LinkTrace). HasWritten (c.loop.invariant.count + end.result.1) c.args.session c.args.pass.now.fragment
          (told_to c.args.output) end.new.pass.fragment t) (sym c.write_owed.ensures.told)
          (writes_on c.args.waits c.args.router.now c.loop.invariant.count end.result.1 c.args.session c.args.pass.now.fragment
          (told_to c.args.output) c.loop.pass.fragment c.loop.link.told end.result.0 end.new.pass.fragment end.new.link.told
          c.loop.invariant.written c.in_default.ensures.goes_on end.ensures.written);
    }
