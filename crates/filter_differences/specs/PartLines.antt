-- The lines that tell of parts of the routes. (This project's own choice.)
use Rattle.std.specs.Prelude.{ℕ, ◌-◌, ◌==◌, zero, suc, List, [], ◌∷◌, ◌++◌, codes, count_by, decimal, flat_map, if◌then◌else◌, length, take}
use Rattle.filter_code.specs.Outcomes.{fault_code}
use Rattle.filter_code.specs.declared.outcome.Outcome.{Outcome}
use Rattle.filter_code.specs.declared.outcome.Outcome.TheVariants as outcome
use Rattle.filter_diff.specs.Answers.{undecided}
use Rattle.filter_diff.specs.declared.ending.RunEnding.{RunEnding}
use Rattle.filter_diff.specs.declared.ending.RunEnding.TheVariants as ending
use Rattle.filter_diff.specs.declared.route_part.PartFinding.{PartFinding}
use Rattle.filter_diff.specs.declared.route_part.PartFinding.TheVariants as finding
use Rattle.filter_diff.specs.declared.route_part.RoutePart.{RoutePart}
use Rattle.prefix_patterns.specs.Spelling.{prefix_text}

-- the outcome of a run
abbrev pub outcome_text : Outcome → List ℕ
outcome_text (outcome.Accept metric) = codes "accept " ++ decimal metric
outcome_text outcome.Reject = codes "reject"
outcome_text (outcome.Fault kind at) = codes "fault " ++ fault_code kind ++ 32 ∷ decimal at

-- how the runs on all routes of a part end: `accept` alone is with the metric received
abbrev pub ending_text : RunEnding → List ℕ
ending_text ending.Unchanged = codes "accept"
ending_text (ending.Fixed end) = outcome_text end

-- what was found of a part, before and behind its routes
abbrev pub finding_word : PartFinding → List ℕ
finding_word finding.Undecided = codes "undecided "
finding_word (finding.Differ before after) = codes "differ "

abbrev pub endings_text : PartFinding → List ℕ
endings_text finding.Undecided = []
endings_text (finding.Differ before after) = codes ": " ++ ending_text before ++ codes " | " ++ ending_text after

-- the prefixes of a part, as a pattern of the language
abbrev pub pattern_text : RoutePart → List ℕ
pattern_text part = prefix_text part.prefix ++ codes "{" ++ decimal part.shortest ++ codes "," ++ decimal part.longest ++ codes "}"

-- its metrics
abbrev pub metrics_text : RoutePart → List ℕ
metrics_text part = codes ", metrics " ++ decimal part.least ++ codes ".." ++ decimal part.greatest

-- what is said of a part, and its line
abbrev pub part_words : RoutePart → List ℕ
part_words part = finding_word part.finding ++ pattern_text part ++ metrics_text part ++ endings_text part.finding

abbrev pub part_line : RoutePart → List ℕ
part_line part = part_words part ++ 10 ∷ []

-- how many parts are undecided, where there are several
unfoldable pub undecided_on : List ℕ
undecided_on = codes "undecided on "

abbrev pub several_words : ℕ → List ℕ
several_words count = undecided_on ++ decimal count ++ codes " parts"

-- the domain of routes, by the number of its nodes
unfoldable pub of_a_domain : List ℕ
of_a_domain = codes " of a domain of "

abbrev pub domain_words : ℕ → List ℕ
domain_words size = of_a_domain ++ decimal size ++ codes " nodes"

-- what is said of all routes that lie in no part, where none is undecided
abbrev pub same_routes : List RoutePart → List ℕ
same_routes [] = codes "same on all routes"
same_routes (part ∷ parts) = codes "same on all other routes"

abbrev pub same_words : ℕ → List RoutePart → List ℕ
same_words size parts = same_routes parts ++ domain_words size

-- the last line: on all routes that lie in no part, or how many parts are undecided
abbrev pub last_words : ℕ → ℕ → List RoutePart → List ℕ
last_words size zero parts = same_words size parts
last_words size (suc zero) parts = codes "undecided on 1 part"
last_words size (suc (suc more)) parts = several_words (suc (suc more))

abbrev pub last_line : ℕ → List RoutePart → List ℕ
last_line size parts = last_words size (count_by undecided parts) parts ++ 10 ∷ []

-- so many parts have a line at most, and how many have none is said
abbrev pub shown_limit : ℕ
shown_limit = 1000

unfoldable pub not_shown : List ℕ
not_shown = codes "parts that are not shown: "

abbrev pub hidden_words : ℕ → List ℕ
hidden_words count = not_shown ++ decimal count

abbrev pub hidden_text : ℕ → List ℕ
hidden_text count = if count == 0 then [] else hidden_words count ++ 10 ∷ []

-- the lines of the parts, and the last line
abbrev pub parts_text : ℕ → List RoutePart → List ℕ
parts_text size parts = flat_map part_line (take shown_limit parts) ++ hidden_text (length parts - shown_limit) ++ last_line size parts
