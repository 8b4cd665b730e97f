-- The file of the history was not made.
use Rattle.std.proofs.Common.{◌∙◌, List, ℕ, Err, inr, refl, subst, sym}
use Rattle.std.proofs.lemmas.Result.{err_from_is_err_and}
use Rattle.ncroute.specs.Guiding.{GuidesScript, StopsGuided}
use Rattle.ncroute.proofs.running.guide_script.Goals as goal

pub returns-in_ok-tell_uncreated-in-Err-clause-finished : goal.returns-in_ok-tell_uncreated-in-Err-clause-finished
unfolding GuidesScript
returns-in_ok-tell_uncreated-in-Err-clause-finished g c =
    let creates = g.F.Folder.creates c.args.files.now in
    let same = c.as_str.ensures.value ∙ sym c.as_str-in-Err.ensures.value in
    let uncreated = subst (λ (name : List ℕ). creates name (Err c.in-Err.error)) same c.in-Err.ensures in
    let told = c.in_ok-tell_uncreated-in-Err.ensures.ok in
    rw (c.in-Some.is, ← c.console.view_is)
    (inr (c.as_str-in-Err.result.now, told.0, (c.as_str-in-Err.ensures.value, (c.in-Err.error, uncreated)), told.1, refl, refl, refl))

pub returns-in_err-tell_uncreated-in-Err-clause-stopped : goal.returns-in_err-tell_uncreated-in-Err-clause-stopped
unfolding StopsGuided
returns-in_err-tell_uncreated-in-Err-clause-stopped g c =
    let creates = g.F.Folder.creates c.args.files.now in
    let same = c.as_str.ensures.value ∙ sym c.as_str-in-Err.ensures.value in
    let uncreated = subst (λ (name : List ℕ). creates name (Err c.in-Err.error)) same c.in-Err.ensures in
    let cut = c.in_err-tell_uncreated-in-Err.ensures.err in
    let gives = err_from_is_err_and c.from_residual.result c.from_residual.ensures.1 in
    rw (gives.1, gives.2, c.in-Some.is, ← c.console.view_is)
    (inr (c.as_str-in-Err.result.now, cut.0, (c.as_str-in-Err.ensures.value, (c.in-Err.error, uncreated)), cut.1, refl, refl))
