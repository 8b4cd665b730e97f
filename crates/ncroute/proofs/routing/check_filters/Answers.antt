-- The filters that are read and verified are those of the words, for the size of the plan.
use Rattle.std.proofs.Common.{ℕ, List, refl, subst}
use Rattle.filter_reports.specs.Faults.{stream_fault}
use Rattle.command_line.specs.declared.filter_words.NamedFile.{NamedFile}
use Rattle.ncroute.specs.Loading.{LacksFilters, StopsLoading}
use Rattle.ncroute.proofs.routing.check_filters.Goals as goal

pub returns-in-Ok-None-clause-finished : goal.returns-in-Ok-None-clause-finished
returns-in-Ok-None-clause-finished g c =
    let opens = g.F.Folder.opens c.args.files.now in
    let known = g.R.Read.remaining c.console.inside.reader in
    let left = g.R.Read.remaining c.load_filters.new.reader in
    let stderr_before = g.E.Write.contents c.console.inside.errors in
    let stderr_after = g.E.Write.contents c.load_filters.new.errors in
    let lacks = rw c.in-Ok-None.field-0-is at c.in-Ok-None.ensures.finished in
    let all = subst (λ (files : List NamedFile). LacksFilters opens files c.args.plan.now.opening.size known left stderr_before stderr_after)
    c.as_slice.ensures.value
    (subst (λ (size : ℕ). LacksFilters opens c.as_slice.result.now size known left stderr_before stderr_after) c.size_of.ensures lacks) in
    rw (← c.console.view_is) (refl, all)

pub returns-clause-stopped : goal.returns-clause-stopped
returns-clause-stopped g c =
    let opens = g.F.Folder.opens c.args.files.now in
    let fault = stream_fault c.in-Err.fault in
    let known = g.R.Read.remaining c.console.inside.reader in
    let left = g.R.Read.remaining c.load_filters.new.reader in
    let stderr_before = g.E.Write.contents c.console.inside.errors in
    let stderr_after = g.E.Write.contents c.load_filters.new.errors in
    let all = subst (λ (files : List NamedFile). StopsLoading opens fault files c.args.plan.now.opening.size known left stderr_before stderr_after)
    c.as_slice.ensures.value
    (subst (λ (size : ℕ). StopsLoading opens fault c.as_slice.result.now size known left stderr_before stderr_after) c.size_of.ensures
    c.in-Err.ensures.stopped) in
    rw (← c.console.view_is) (refl, all)
