-- The lines that tell what single failures change. (This project's own choice.)
use Rattle.std.specs.Prelude.{ℕ, List, ◌∷◌, ◌++◌, length, flat_map, codes, decimal}
use Rattle.domain_cmds.specs.Texts.{step_text}
use Rattle.domain_cmds.specs.declared.failure.Failing.{Failing}
use Rattle.domain_cmds.specs.declared.failure.Failing.TheVariants.{Link, Node}
use Rattle.domain_cmds.specs.declared.failure.FailureEffect.{FailureEffect}

-- `link U W` or `node U`, on a line of its own
abbrev pub what_text : Failing → List ℕ
what_text (Link u w) = 10 ∷ codes "link" ++ step_text u ++ step_text w
what_text (Node x) = 10 ∷ codes "node" ++ step_text x

-- a word and a number
abbrev pub number_text : List ℕ → ℕ → List ℕ
number_text word n = word ++ decimal n

abbrev pub routes_text : FailureEffect → List ℕ
routes_text f = number_text (codes " changed ") f.changed ++ number_text (codes " lost ") f.lost

abbrev pub felt_text : FailureEffect → List ℕ
felt_text f = number_text (codes " moved ") f.moved ++ number_text (codes " rounds ") f.rounds ++ number_text (codes " still ") f.still

-- what a failure changes
abbrev pub failure_text : FailureEffect → List ℕ
failure_text f = what_text f.what ++ routes_text f ++ felt_text f

-- how many lines follow, and these
abbrev pub failures_text : List FailureEffect → List ℕ
failures_text all = codes "failures " ++ decimal (length all) ++ flat_map failure_text all
