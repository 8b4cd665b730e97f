use Rattle.std.proofs.Common.{◌≡◌, ℕ, List, ◌∷◌, [], ◌++◌, ap, subst, ◌∙◌}
use Rattle.std.specs.List.{flat_map}
use Rattle.prefix_patterns.specs.Matching.{PrefixPattern}
use Rattle.code_file.specs.Spelling.{bytes_of, pattern, set}
use Rattle.code_file.proofs.Written.{set_written, is_set}
use Rattle.code_file.proofs.writing.put_set.Goals as goal

pub returns-clause-written : goal.returns-clause-written
returns-clause-written c =
    let old = c.args.out.now.items in
    let patterns : List PrefixPattern = c.patterns-patterns.result.now in
    let counted = c.in_ok-extend_from_slice.ensures.items ∙ ap (λ (bytes : List ℕ). old ++ bytes) c.to_be_bytes.ensures in
    let done : c.put_patterns.new.out.items ≡ old ++ bytes_of (set patterns) =
    c.in_ok-put_patterns.ensures.written ∙ ap (λ (bytes : List ℕ). bytes ++ flat_map (λ p. bytes_of (pattern p ∷ [])) patterns)
    counted ∙ set_written old patterns in
    subst (λ (ps : List PrefixPattern). c.put_patterns.new.out.items ≡ old ++ bytes_of (set ps)) c.patterns-patterns.ensures.value done

pub returns-clause-fits : goal.returns-clause-fits
returns-clause-fits c = rw (← c.patterns-patterns.ensures.value)
    (is_set c.patterns-patterns.result.now c.patterns-patterns.ensures.limit c.in_ok-put_patterns.ensures.fits)
