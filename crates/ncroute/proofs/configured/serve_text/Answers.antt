use Rattle.std.proofs.Common.{inl, inr, map, refl}
use Rattle.std.proofs.lemmas.Result.{IfErr-weaker, IfOk-weaker}
use Rattle.std.specs.Prelude.{string_bytes}
use Rattle.router_files.specs.Files.{statement_of}
use Rattle.ncroute.specs.Configured.{CutsText, ServesText}
use Rattle.ncroute.proofs.configured.serve_text.Goals as goal

pub returns-in_default-clause-served : goal.returns-in_default-clause-served
unfolding ServesText
returns-in_default-clause-served g c =
    rw (← c.console.view_is) (IfOk-weaker c.end_by_memory.result _ _ (λ status told. inr (told, refl, refl)) c.end_by_memory.ensures.told)

pub returns-in_default-clause-unreported : goal.returns-in_default-clause-unreported
unfolding CutsText
returns-in_default-clause-unreported g c =
    rw (← c.console.view_is) (IfErr-weaker c.end_by_memory.result _ _ (λ unreported told. inr (told, refl, refl)) c.end_by_memory.ensures.cut)

pub returns-clause-served : goal.returns-clause-served
unfolding ServesText
returns-clause-served g c =
    let file = rw c.as_str.ensures.value at c.in-Ok-read_statements.ensures in
    IfOk-weaker c.serve_statements.result _ _
    (λ status does. inl (
      string_bytes c.in-Ok.folder,
      c.in-Ok.ensures,
      inl (map statement_of c.in-Ok-read_statements.statements.items, file, does),
    ))
    (rw c.as_slice-statements.ensures.value at c.serve_statements.ensures.served)

pub returns-clause-unreported : goal.returns-clause-unreported
unfolding CutsText
returns-clause-unreported g c =
    let file = rw c.as_str.ensures.value at c.in-Ok-read_statements.ensures in
    IfErr-weaker c.serve_statements.result _ _
    (λ unreported does. inl (
      string_bytes c.in-Ok.folder,
      c.in-Ok.ensures,
      inl (map statement_of c.in-Ok-read_statements.statements.items, file, does),
    ))
    (rw c.as_slice-statements.ensures.value at c.serve_statements.ensures.unreported)

pub returns-in-Err-clause-served : goal.returns-in-Err-clause-served
unfolding ServesText
returns-in-Err-clause-served g c =
    let wrong = rw c.as_str.ensures.value at c.in-Err.ensures in
    rw (← c.console.view_is) (IfOk-weaker c.end_by_wrong.result _ _
    (λ status told. inl (string_bytes c.in-Ok.folder, c.in-Ok.ensures, inr (c.in-Err.wrong, wrong, (told, refl, refl))))
    c.end_by_wrong.ensures.told)

pub returns-in-Err-clause-unreported : goal.returns-in-Err-clause-unreported
unfolding CutsText
returns-in-Err-clause-unreported g c =
    let wrong = rw c.as_str.ensures.value at c.in-Err.ensures in
    rw (← c.console.view_is) (IfErr-weaker c.end_by_wrong.result _ _
    (λ unreported told. inl (string_bytes c.in-Ok.folder, c.in-Ok.ensures, inr (c.in-Err.wrong, wrong, (told, refl, refl))))
    c.end_by_wrong.ensures.cut)
