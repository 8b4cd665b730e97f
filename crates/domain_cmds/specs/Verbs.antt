-- The first words of commands. (This project's own choice.)
use Rattle.std.specs.Prelude.{ℕ, List, [], ◌∷◌, Option, find, codes}
use Rattle.line_protocol.specs.Words.{is_spelled}
use Rattle.domain_cmds.specs.declared.verb.DomainVerb.{DomainVerb}
use Rattle.domain_cmds.specs.declared.verb.DomainVerb.TheVariants.{Domain, Prefix, Load, Code, Link, Cut, Import, Export}
use Rattle.domain_cmds.specs.declared.verb.DomainVerb.TheVariants.{Anew, Route, Path, Table, Draw, Reach, Mark, Changes, Failures, Settle, Json}

-- how each is written
abbrev pub verb_text : DomainVerb → List ℕ
verb_text Domain = codes "domain"
verb_text Prefix = codes "prefix"
verb_text Load = codes "load"
verb_text Code = codes "code"
verb_text Link = codes "link"
verb_text Cut = codes "cut"
verb_text Import = codes "import"
verb_text Export = codes "export"
verb_text Anew = codes "anew"
verb_text Route = codes "route"
verb_text Path = codes "path"
verb_text Table = codes "table"
verb_text Draw = codes "draw"
verb_text Reach = codes "reach"
verb_text Mark = codes "mark"
verb_text Changes = codes "changes"
verb_text Failures = codes "failures"
verb_text Settle = codes "settle"
verb_text Json = codes "json"

-- all of them
abbrev pub verbs : List DomainVerb
verbs =
    Domain ∷ Prefix ∷ Load ∷ Code ∷ Link ∷ Cut ∷ Import ∷ Export ∷ Anew ∷ Route ∷ Path ∷ Table ∷ Draw ∷ Reach ∷ Mark ∷ Changes ∷ Failures ∷ Settle
    ∷ Json ∷ []

-- the verb that is written so
unfoldable pub verb_in : List ℕ → Option DomainVerb
verb_in word = find (is_spelled verb_text word) verbs
