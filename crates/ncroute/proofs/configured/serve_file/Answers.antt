use Rattle.std.proofs.Common.{Some, ap, inl, inr, refl}
use Rattle.std.proofs.lemmas.Result.{IfErr-weaker, IfOk-weaker}
use Rattle.program_words.specs.declared.source.Source.TheVariants.{File}
use Rattle.ncroute.specs.Configured.{CutsFile, ServesFile}
use Rattle.ncroute.proofs.configured.serve_file.Goals as goal

pub returns-in-Err-clause-served : goal.returns-in-Err-clause-served
unfolding ServesFile
returns-in-Err-clause-served g c =
    rw (← c.console.view_is) (IfOk-weaker c.end_by_memory.result _ _ (λ status told. inl (inr (told, refl, refl))) c.end_by_memory.ensures.told)

pub returns-in-Err-clause-unreported : goal.returns-in-Err-clause-unreported
unfolding CutsFile
returns-in-Err-clause-unreported g c =
    rw (← c.console.view_is) (IfErr-weaker c.end_by_memory.result _ _ (λ unreported told. inr (told, refl, refl)) c.end_by_memory.ensures.cut)

pub returns-in-Ok-Some-clause-served : goal.returns-in-Ok-Some-clause-served
unfolding ServesFile
returns-in-Ok-Some-clause-served g c =
    let read = rw c.in-Ok-Some.field-0-is at c.in-Ok-Some.ensures.read in
    IfOk-weaker c.serve_text.result _ _
    (λ status does. inl (inl (
      File c.in-Ok.name,
      ap Some c.in-Ok.ensures.ok,
      inl (c.in-Ok-Some.text.items, c.read_config.new.console, read, does),
    )))
    (rw c.as_slice.ensures.value at c.serve_text.ensures.served)

pub returns-in-Ok-Some-clause-unreported : goal.returns-in-Ok-Some-clause-unreported
unfolding CutsFile
returns-in-Ok-Some-clause-unreported g c =
    let read = rw c.in-Ok-Some.field-0-is at c.in-Ok-Some.ensures.read in
    IfErr-weaker c.serve_text.result _ _
    (λ unreported does. inl (
      File c.in-Ok.name,
      ap Some c.in-Ok.ensures.ok,
      inl (c.in-Ok-Some.text.items, c.read_config.new.console, read, does),
    ))
    (rw c.as_slice.ensures.value at c.serve_text.ensures.unreported)

pub returns-in-Ok-None-clause-served : goal.returns-in-Ok-None-clause-served
unfolding ServesFile
returns-in-Ok-None-clause-served g c =
    inr (File c.in-Ok.name, ap Some c.in-Ok.ensures.ok, rw c.in-Ok-None.field-0-is at c.in-Ok-None.ensures.read, refl)

pub returns-in-Err-read_config-clause-served : goal.returns-in-Err-read_config-clause-served
unfolding ServesFile
returns-in-Err-read_config-clause-served g c =
    let stopped = rw (← c.console-in-Err-read_config.view_is) at c.in-Err-read_config.ensures.stopped in
    IfOk-weaker c.end_by_line.result _ _
    (λ status told. inl (inl (
      File c.in-Ok.name,
      ap Some c.in-Ok.ensures.ok,
      inr (c.in-Err-read_config.fault, _, stopped, ((told.1, told.0), refl, refl)),
    )))
    (rw c.fault_line.ensures at (rw c.as_bytes.ensures.value at c.end_by_line.ensures.told))

pub returns-in-Err-read_config-clause-unreported : goal.returns-in-Err-read_config-clause-unreported
unfolding CutsFile
returns-in-Err-read_config-clause-unreported g c =
    let stopped = rw (← c.console-in-Err-read_config.view_is) at c.in-Err-read_config.ensures.stopped in
    IfErr-weaker c.end_by_line.result _ _
    (λ unreported told. inl (
      File c.in-Ok.name,
      ap Some c.in-Ok.ensures.ok,
      inr (c.in-Err-read_config.fault, _, stopped, ((told.1, told.0), refl, refl)),
    ))
    (rw c.fault_line.ensures at (rw c.as_bytes.ensures.value at c.end_by_line.ensures.cut))
