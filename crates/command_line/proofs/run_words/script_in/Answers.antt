use Rattle.std.proofs.Common.{◌∙◌, Bool, ap, subst}
use Rattle.std.specs.List.{list_any}
use Rattle.program_words.specs.Given.{given_in}
use Rattle.command_line.specs.Meaning.{IsRunning}
use Rattle.program_words.specs.Sources.{is_file}
use Rattle.command_line.proofs.Naming.{filters_named, named_append}
use Rattle.command_line.proofs.run_words.script_in.Goals as goal

pub returns : goal.returns
returns c =
    let how = c.in_ok-how.how in
    record {
      reads = named_append _ _ _ _ (filters_named _ how.filters.items c.in_ok-how.ensures.sets.filters) c.in_ok-sources.ensures;
      sets = subst (λ (has_files : Bool). IsRunning (given_in c.args.matches.now) c.args.terminals has_files how)
          (c.has_files-has_files.ensures ∙ ap (list_any is_file) c.as_slice.ensures.value) c.in_ok-how.ensures.sets;
    }
