use Rattle.std.proofs.Common.{List, ℕ, ◌++◌, ap, ◌∙◌}
use Rattle.std.specs.List.{flat_map}
use Rattle.code_file.specs.Spelling.{bytes_of, int_set}
use Rattle.code_file.proofs.Written.{on_ok, int_sets_written, are_int_sets}
use Rattle.code_file.proofs.writing.put_version_int_sets.Goals as goal

pub returns-in_ok-push-in-Two-clause-written : goal.returns-in_ok-push-in-Two-clause-written
returns-in_ok-push-in-Two-clause-written c =
    let sets = c.args.sets.now in
    rw c.in-Two.is (on_ok c.put_int_sets.result (λ written. written
    ∙ ap (λ (bytes : List ℕ). bytes ++ flat_map (λ s. bytes_of (int_set s)) sets) c.in_ok-push-in-Two.ensures.items
    ∙ int_sets_written c.args.out.now.items sets c.requires.limit) c.put_int_sets.ensures.written)

pub returns-in_ok-push-in-Two-clause-fits : goal.returns-in_ok-push-in-Two-clause-fits
returns-in_ok-push-in-Two-clause-fits c = rw c.in-Two.is
    (on_ok c.put_int_sets.result (are_int_sets c.args.sets.now c.requires.limit) c.put_int_sets.ensures.fits)
