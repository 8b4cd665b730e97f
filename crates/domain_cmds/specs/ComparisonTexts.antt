-- The lines that tell what a change of a domain does. (This project's own choice.)
use Rattle.std.specs.Prelude.{ℕ, List, ◌∷◌, ◌++◌, length, flat_map, codes, decimal}
use Rattle.operator_cmds.specs.Replies.{pair_text}
use Rattle.domain_cmds.specs.Comparing.{ComparisonView}
use Rattle.domain_cmds.specs.FailureTexts.{number_text, what_text}
use Rattle.domain_cmds.specs.declared.comparing.Harm.{Harm}

-- a word and pairs of nodes
abbrev pub pairs_text : List ℕ → List (ℕ × ℕ) → List ℕ
pairs_text word pairs = word ++ flat_map (λ pair. pair_text pair.0 pair.1) pairs

-- what a failure does that it did not do before, on a line of its own
abbrev pub harm_text : Harm → List ℕ
harm_text harm = what_text harm.what ++ number_text (codes " loses ") harm.loses ++ number_text (codes " keeps ") harm.keeps

-- how many lines of failures follow, and these
abbrev pub harms_text : List Harm → List ℕ
harms_text harms = codes "failures " ++ decimal (length harms) ++ flat_map harm_text harms

-- the lines of routes, and those of failures
abbrev pub comparison_text : ComparisonView → List ℕ
comparison_text found = pairs_text (codes "lost") found.lost ++ 10 ∷ pairs_text (codes "gained") found.gained
    ++ 10 ∷ pairs_text (codes "changed") found.changed ++ 10 ∷ harms_text found.harms
