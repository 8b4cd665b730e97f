use Rattle.std.proofs.Common.{◌∙◌, refl, subst, sym}
use Rattle.neighbour_session.specs.Links.{InputView, ReadsLines}
use Rattle.message_streams.specs.Views.{ReaderView}
use Rattle.neighbour_session.specs.Reading.{told_by}
use Rattle.neighbour_session.proofs.Gaining.{sound_both, sound_same}
use Rattle.neighbour_session.proofs.Reading.{HasRead, read_none, reads_absent, reads_on, reads_stopped}
use Rattle.neighbour_session.proofs.read.read_all.Goals as goal

pub loop-init : goal.loop-init
loop-init g c = record {
  next = tt;
  finite = tt;
  pass = sound_same c.args.router.now c.args.pass.now c.requires.of;
  shares = refl;
  read = subst (λ (v : InputView). HasRead c.args.session c.args.pass.now.fragment (told_by c.args.input) c.args.pass.now.fragment v.told)
      (sym c.new-link.ensures) (read_none c.args.session c.args.pass.now.fragment (told_by c.args.input));
}

pub returns-in-Some-end_of_reader-clause-reads : goal.returns-in-Some-end_of_reader-clause-reads
returns-in-Some-end_of_reader-clause-reads g c =
    let link = c.read_turns-cause.new.link in
    reads_stopped c.args.waits (g.C.SessionGuard.may_be_present c.args.guard.now) c.args.router.now c.args.session c.args.pass.now c.args.input
    c.loop.pass c.loop.link.told c.read_turns-cause.result c.in-Some-end_of_reader.why c.read_turns-cause.new.pass
    link.told link.over c.into_reader.result c.loop.invariant.read c.read_turns-cause.ensures.read
    (subst (λ (r : ReaderView). ReadsLines r link.told.handed link.over c.into_reader.result) (sym c.requires.named) c.into_reader.ensures)
    c.in-Some-end_of_reader.ensures.over c.read_turns-cause.ensures.absent

pub returns-then-not-is_present-clause-reads : goal.returns-then-not-is_present-clause-reads
returns-then-not-is_present-clause-reads g c =
    let link = c.read_turns-cause.new.link in
    reads_absent c.args.waits (g.C.SessionGuard.may_be_present c.args.guard.now) c.args.router.now c.args.session c.args.pass.now c.args.input
    c.loop.pass c.loop.link.told c.read_turns-cause.result c.read_turns-cause.new.pass link.told link.over
    c.into_reader-then-not-is_present.result c.loop.invariant.read c.read_turns-cause.ensures.read
    (subst (λ (r : ReaderView). ReadsLines r link.told.handed link.over c.into_reader-then-not-is_present.result) (sym c.requires.named)
    c.into_reader-then-not-is_present.ensures)
    c.in_default.ensures.goes_on c.if-not-is_present.ensures

pub loop-preserved : goal.loop-preserved
loop-preserved g c = record {
  next = tt;
  finite = tt;
  pass = sound_both c.args.router.now c.args.pass.now c.loop.pass c.read_turns-cause.new.pass c.loop.invariant.pass
      c.read_turns-cause.ensures.pass;
  shares = c.read_turns-cause.ensures.read.2.reads.gained.shares ∙ c.loop.invariant.shares;
  read = reads_on c.args.router.now c.args.session c.args.pass.now.fragment (told_by c.args.input) c.loop.pass.fragment c.loop.link.told
      (record { cause = c.read_turns-cause.result; entered = c.read_turns-cause.ensures.read.0; lost = c.read_turns-cause.ensures.read.1 })
      c.read_turns-cause.new.pass.fragment c.read_turns-cause.new.link.told c.loop.invariant.read
      c.in_default.ensures.goes_on c.read_turns-cause.ensures.read.2;
}
