use Rattle.std.proofs.Common.{◌≡◌, ℕ, List, ◌∷◌, [], ◌++◌, ap, subst, ◌∙◌}
use Rattle.std.specs.List.{flat_map}
use Rattle.int_sets.specs.Holding.{NumberRange}
use Rattle.code_file.specs.Spelling.{bytes_of, range, int_set}
use Rattle.code_file.proofs.Written.{int_set_written, is_int_set}
use Rattle.code_file.proofs.writing.put_int_set.Goals as goal

pub returns-clause-written : goal.returns-clause-written
returns-clause-written c =
    let old = c.args.out.now.items in
    let ranges : List NumberRange = c.ranges-ranges.result.now in
    let counted = c.in_ok-extend_from_slice.ensures.items ∙ ap (λ (bytes : List ℕ). old ++ bytes) c.to_be_bytes.ensures in
    let done : c.put_ranges.new.out.items ≡ old ++ bytes_of (int_set ranges) =
    c.in_ok-put_ranges.ensures.written ∙ ap (λ (bytes : List ℕ). bytes ++ flat_map (λ r. bytes_of (range r ∷ [])) ranges)
    counted ∙ int_set_written old ranges in
    subst (λ (rs : List NumberRange). c.put_ranges.new.out.items ≡ old ++ bytes_of (int_set rs)) c.ranges-ranges.ensures.value done

pub returns-clause-fits : goal.returns-clause-fits
returns-clause-fits c = rw (← c.ranges-ranges.ensures.value)
    (is_int_set c.ranges-ranges.result.now c.ranges-ranges.ensures.limit c.in_ok-put_ranges.ensures.fits)
