-- The text that tells the whole plan of a domain, and its digest. (This project's own choice.)
use Rattle.std.specs.Prelude.{ℕ, ◌&&◌, ◌++◌, Bool, List, [], ◌∷◌, Option, Some, None, nat_lt, if◌then◌else◌, take, slice_index_or, codes, decimal}
use Rattle.code_file.specs.Spelling.{spelling}
use Rattle.filter_verifier.specs.VerifiedView.{VerifiedView}
use Rattle.hex.specs.Hex.{encode_lower}
use Rattle.prefix_patterns.specs.Spelling.{prefix_text}
use Rattle.sha2.specs.Sha256.{sha256}
use Rattle.domain_routes.specs.PlanView.{PlanView, is_linked, peer}
use Rattle.operator_cmds.specs.Looks.{texts_below}
use Rattle.operator_cmds.specs.declared.event.Direction.{Direction}
use Rattle.operator_cmds.specs.declared.event.Direction.TheVariants as direction

-- ---- the lines

abbrev pub numbered : List ℕ → ℕ → List ℕ
numbered word n = word ++ 32 ∷ decimal n

abbrev pub pair : List ℕ → ℕ → ℕ → List ℕ
pair word u w = numbered word u ++ 32 ∷ decimal w

abbrev pub size_line : ℕ → List ℕ
size_line size = numbered (codes "domain") size ++ 10 ∷ []

abbrev pub prefix_line : ℕ → List Bool → List ℕ
prefix_line v prefix = numbered (codes "prefix") v ++ 32 ∷ prefix_text prefix ++ 10 ∷ []

abbrev pub link_line : ℕ → ℕ → List ℕ
link_line u w = pair (codes "link") u w ++ 10 ∷ []

abbrev pub direction_word : Direction → List ℕ
direction_word direction.Import = codes "import"
direction_word direction.Export = codes "export"

-- a filter between two nodes, by its code: not by its name, nor by the text that it was made of
abbrev pub filter_line : Direction → ℕ → ℕ → VerifiedView → List ℕ
filter_line way u w filter = pair (direction_word way) u w ++ 32 ∷ encode_lower (spelling filter.program) ++ 10 ∷ []

-- ---- the whole text: the size, and of each node its prefix, and of each other node the link to it, told once, and the filters on it

abbrev pub filter_lines : Direction → ℕ → ℕ → Option VerifiedView → List ℕ
filter_lines way u w None = []
filter_lines way u w (Some filter) = filter_line way u w filter

abbrev pub link_lines : PlanView → ℕ → ℕ → List ℕ
link_lines p u w = if nat_lt u w && is_linked p u w then link_line u w else []

abbrev pub peer_lines : PlanView → ℕ → ℕ → List ℕ
peer_lines p u w = link_lines p u w ++ filter_lines direction.Import u w (peer p u w).imports ++ filter_lines direction.Export u w (peer p u w).exports

abbrev pub node_lines : PlanView → ℕ → List ℕ
node_lines p u = prefix_line u (slice_index_or p.prefixes u []) ++ texts_below p.size (peer_lines p u)

abbrev pub plan_text : PlanView → List ℕ
plan_text p = size_line p.size ++ texts_below p.size (node_lines p)

-- the first 8 of the 32 bytes of the text's SHA-256
abbrev pub digest_of : PlanView → List ℕ
digest_of p = take 8 (sha256 (plan_text p))
