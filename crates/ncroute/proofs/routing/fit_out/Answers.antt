-- The filters that are read and verified are those of the words, for the size of the plan.
use Rattle.std.proofs.Common.{ℕ, List, Option, subst, inl, inr, refl}
use Rattle.filter_reports.specs.Faults.{stream_fault}
use Rattle.command_line.specs.declared.filter_words.NamedFile.{NamedFile}
use Rattle.ncroute.specs.Loading.{LacksFilters, LoadsFilters, StopsLoading}
use Rattle.ncroute.specs.Routing.{CutsSave}
use Rattle.ncroute.proofs.routing.fit_out.Goals as goal
use Rattle.ncroute.proofs.routing.fit_out.Goals.{in-None-1, in-None-2, in-Some-1, in-Some-2}
use Rattle.ncroute.proofs.routing.fit_out.Goals.{in-Ok-Some-make_save, in-Ok-None-make_save+in-Some-1, in-Ok-None-make_save+in-None-1}
use Rattle.ncroute.proofs.routing.fit_out.Goals.{in-Err-make_save+in-Some-1, in-Err-make_save+in-None-1}

pub returns-in-Ok-None-clause-finished : goal.returns-in-Ok-None-clause-finished
returns-in-Ok-None-clause-finished g c =
    let opens = g.F.Folder.opens c.args.files.now in
    let known = g.R.Read.remaining c.console.inside.reader in
    let left = g.R.Read.remaining c.load_filters.new.reader in
    let stderr_before = g.E.Write.contents c.console.inside.errors in
    let stderr_after = g.E.Write.contents c.load_filters.new.errors in
    let lacks = rw c.in-Ok-None.field-0-is at c.in-Ok-None.ensures.finished in
    let all = subst (λ (files : List NamedFile). LacksFilters opens files c.args.plan.opening.size known left stderr_before stderr_after)
    c.as_slice-named.ensures.value
    (subst (λ (size : ℕ). LacksFilters opens c.as_slice-named.result.now size known left stderr_before stderr_after) c.size_of-size.ensures lacks) in
    elim c.match-plan-3.branch [
      | in-Some-1 w ↦ rw (w.console-is, ← c.console.view_is) (refl, inl all)
      | in-None-1 w ↦ rw (w.console-is, ← c.console.view_is) (refl, inl all)
    ]

pub returns-in-Err-clause-stopped : goal.returns-in-Err-clause-stopped
returns-in-Err-clause-stopped g c =
    let opens = g.F.Folder.opens c.args.files.now in
    let fault = stream_fault c.in-Err.fault in
    let known = g.R.Read.remaining c.console.inside.reader in
    let left = g.R.Read.remaining c.load_filters.new.reader in
    let stderr_before = g.E.Write.contents c.console.inside.errors in
    let stderr_after = g.E.Write.contents c.load_filters.new.errors in
    let all = subst (λ (files : List NamedFile). StopsLoading opens fault files c.args.plan.opening.size known left stderr_before stderr_after)
    c.as_slice-named.ensures.value
    (subst (λ (size : ℕ). StopsLoading opens fault c.as_slice-named.result.now size known left stderr_before stderr_after) c.size_of-size.ensures
    c.in-Err.ensures.stopped) in
    elim c.match-plan-4.branch [
      | in-Some-2 w ↦ rw (w.console-is, ← c.console.view_is) (refl, inl all)
      | in-None-2 w ↦ rw (w.console-is, ← c.console.view_is) (refl, inl all)
    ]

pub returns-after-make_save-clause-stopped : goal.returns-after-make_save-clause-stopped
returns-after-make_save-clause-stopped g c =
    let opens = g.F.Folder.opens c.args.files.now in
    let known = g.R.Read.remaining c.console.inside.reader in
    let left = g.R.Read.remaining c.load_filters.new.reader in
    let stderr_after = g.E.Write.contents c.make_save.new.errors in
    let names = c.in-Ok-Some.filters.entries in
    let has = rw c.in-Ok-Some.field-0-is at c.in-Ok-Some.ensures.finished in
    let loads = subst (λ (files : List NamedFile). LoadsFilters opens files c.args.plan.opening.size names known left)
    c.as_slice-named.ensures.value
    (subst (λ (size : ℕ). LoadsFilters opens c.as_slice-named.result.now size names known left) c.size_of-size.ensures has.0) in
    elim c.match-make_save.branch [
      | in-Ok-Some-make_save w ↦ rw w.result-is tt
      | in-Ok-None-make_save+in-Some-1 w ↦ rw w.result-is tt
      | in-Ok-None-make_save+in-None-1 w ↦ rw w.result-is tt
      | in-Err-make_save+in-Some-1 w ↦ rw (w.result-is, ← c.console.view_is) (
        refl,
        inr (
          names,
          loads,
          subst (λ (stderr_before : Option (List ℕ)). CutsSave (g.F.HistoryFolders.makes c.args.files.now) (stream_fault w.in-Err-make_save.fault)
              c.args.words.now.save stderr_before stderr_after) has.1 w.in-Err-make_save.ensures.stopped,
        ),
      )
      | in-Err-make_save+in-None-1 w ↦ rw (w.result-is, ← c.console.view_is) (
        refl,
        inr (
          names,
          loads,
          subst (λ (stderr_before : Option (List ℕ)). CutsSave (g.F.HistoryFolders.makes c.args.files.now) (stream_fault w.in-Err-make_save.fault)
              c.args.words.now.save stderr_before stderr_after) has.1 w.in-Err-make_save.ensures.stopped,
        ),
      )
    ]
