-- The router was run to its end, and the folder of its history was left.
use Rattle.std.proofs.Common.{◌≡◌, ap, inl, refl}
use Rattle.std.specs.Option.{option_map}
use Rattle.program_console.specs.Streaming.{Streams}
use Rattle.ncroute.specs.Routing.{Operated}
use Rattle.ncroute.proofs.Routed.{cut_short, faulted, untouched}
use Rattle.ncroute.proofs.routing.run_setting.Goals as goal

pub returns-in-Ok-clause-finished : goal.returns-in-Ok-clause-finished
returns-in-Ok-clause-finished g c = rw (← c.console.view_is) (inl (
  record {
    refused = c.in-Ok.end.refused;
    saver = c.in-Ok.end.saved;
    operated = c.in-Ok.ensures.operated;
    saved = c.in-Ok.ensures.saved;
    left = c.leave_save.ensures;
    quiet = refl;
  },
  refl,
))

pub returns-in-Err-clause-finished : goal.returns-in-Err-clause-finished
returns-in-Err-clause-finished g c =
    let before : Streams = record {
      reads = g.I.Read.remaining c.console.inside.reader;
      holds = g.W.Write.contents c.console.inside.writer;
      tells = g.E.Write.contents c.console.inside.errors;
    } in
    let after : Streams = record {
      reads = g.I.Read.remaining c.run_router.new.reader;
      holds = g.W.Write.contents c.run_router.new.writer;
      tells = g.E.Write.contents c.end_by_fault.new.errors;
    } in
    let fails = untouched (Operated c.args.setting.plan c.args.setting.filters.entries before after)
    ((c.run_router.new.reader ≡ c.console.inside.reader) × (c.run_router.new.writer ≡ c.console.inside.writer))
    ((after.reads ≡ before.reads) × (after.holds ≡ before.holds))
    (λ same. (ap (λ r. g.I.Read.remaining r) same.0, ap (λ w. g.W.Write.contents w) same.1)) c.in-Err.fault c.in-Err.ensures.failed in
    rw (← c.console.view_is)
    (faulted c.args.setting.plan c.args.setting.filters.entries before after c.in-Err.fault fails
    (g.R.HistoryFolders.keeps c.args.rt.now) c.args.save.now
    (option_map (λ segments. g.R.Segments.SegmentFolder.holds segments) c.args.setting.save) c.end_by_fault.result c.end_by_fault.ensures.told)

pub returns-in-Err-clause-unreported : goal.returns-in-Err-clause-unreported
returns-in-Err-clause-unreported g c =
    let before : Streams = record {
      reads = g.I.Read.remaining c.console.inside.reader;
      holds = g.W.Write.contents c.console.inside.writer;
      tells = g.E.Write.contents c.console.inside.errors;
    } in
    let after : Streams = record {
      reads = g.I.Read.remaining c.run_router.new.reader;
      holds = g.W.Write.contents c.run_router.new.writer;
      tells = g.E.Write.contents c.end_by_fault.new.errors;
    } in
    let fails = untouched (Operated c.args.setting.plan c.args.setting.filters.entries before after)
    ((c.run_router.new.reader ≡ c.console.inside.reader) × (c.run_router.new.writer ≡ c.console.inside.writer))
    ((after.reads ≡ before.reads) × (after.holds ≡ before.holds))
    (λ same. (ap (λ r. g.I.Read.remaining r) same.0, ap (λ w. g.W.Write.contents w) same.1)) c.in-Err.fault c.in-Err.ensures.failed in
    rw (← c.console.view_is)
    (cut_short c.args.setting.plan c.args.setting.filters.entries before after c.in-Err.fault fails
    c.end_by_fault.result c.end_by_fault.ensures.cut)
