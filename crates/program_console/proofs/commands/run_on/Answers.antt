use Rattle.std.proofs.Common.{ℕ, List, Option, inr, sym, ap, subst}
use Rattle.std.proofs.lemmas.Result.{IfErr-weaker, IfOk-weaker}
use Rattle.std.specs.Io.KnownBytes.{Appends}
use Rattle.filter_reports.specs.Reports.{report_of}
use Rattle.program_console.specs.Commands.{ReportsSource}
use Rattle.program_console.specs.Putting.{CutsStreams}
use Rattle.program_console.specs.Streaming.{Streams}
use Rattle.program_console.proofs.commands.run_on.Goals as goal

pub returns-in-Ok-clause-finished : goal.returns-in-Ok-clause-finished
returns-in-Ok-clause-finished g c =
    let report = report_of c.in-Ok.report in
    let after = c.put.new.self in
    let opens = g.F.Folder.opens c.args.files.now in
    let reports = g.C.TextCommand.reports c.args.command.now in
    let same = c.console.view_is in
    IfOk-weaker c.put.result _ _
    (λ status done. record {
      report = report;
      makes = subst (λ (left : Option (List ℕ)). ReportsSource opens reports c.args.unread c.args.source.now report c.args.console.now.reads left)
          (sym done.0.reads)
          (subst
          (λ (s : Streams). ReportsSource opens reports c.args.unread c.args.source.now report s.reads (g.R.Read.remaining c.report_source.new.reader))
          same c.in-Ok.ensures.made);
      written = subst (λ (s : Streams). Appends s.holds after.holds report.out) same done.0.written;
      told = subst (λ (s : Streams). Appends s.tells after.tells report.err) same done.0.told;
      ends = done.1;
    })
    c.put.ensures.done

pub returns-in-Ok-clause-stopped : goal.returns-in-Ok-clause-stopped
returns-in-Ok-clause-stopped g c =
    let report = report_of c.in-Ok.report in
    let opens = g.F.Folder.opens c.args.files.now in
    let reports = g.C.TextCommand.reports c.args.command.now in
    let same = c.console.view_is in
    IfErr-weaker c.put.result _ _
    (λ fault cut. inr (record {
      report = report;
      makes = subst (λ (left : Option (List ℕ)). ReportsSource opens reports c.args.unread c.args.source.now report c.args.console.now.reads left)
          (sym cut.reads)
          (subst
          (λ (s : Streams). ReportsSource opens reports c.args.unread c.args.source.now report s.reads (g.R.Read.remaining c.report_source.new.reader))
          same c.in-Ok.ensures.made);
      is_write = cut.is_write;
      cut = subst (λ (s : Streams). CutsStreams report s c.put.new.self) same cut.cut;
    }))
    c.put.ensures.cut
