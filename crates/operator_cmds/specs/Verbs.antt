-- The first words of commands. (This project's own choice.)
use Rattle.std.specs.Prelude.{ℕ, List, [], ◌∷◌, Option, find, codes}
use Rattle.line_protocol.specs.Words.{is_spelled}
use Rattle.operator_cmds.specs.declared.verb.Verb.{Verb}
use Rattle.operator_cmds.specs.declared.verb.Verb.TheVariants.{Network, Prefix, Load, Code, Import, Export, Up, Down, Receive}
use Rattle.operator_cmds.specs.declared.verb.Verb.TheVariants.{Take, Show, Routes, Neighbours, Told, History}

-- how each is written
abbrev pub verb_text : Verb → List ℕ
verb_text Network = codes "network"
verb_text Prefix = codes "prefix"
verb_text Load = codes "load"
verb_text Code = codes "code"
verb_text Import = codes "import"
verb_text Export = codes "export"
verb_text Up = codes "up"
verb_text Down = codes "down"
verb_text Receive = codes "recv"
verb_text Take = codes "take"
verb_text Show = codes "show"
verb_text Routes = codes "routes"
verb_text Neighbours = codes "neighbours"
verb_text Told = codes "told"
verb_text History = codes "history"

-- all of them
abbrev pub verbs : List Verb
verbs = Network ∷ Prefix ∷ Load ∷ Code ∷ Import ∷ Export ∷ Up ∷ Down ∷ Receive ∷ Take ∷ Show ∷ Routes
    ∷ Neighbours ∷ Told ∷ History ∷ []

-- the verb that is written so
unfoldable pub verb_in : List ℕ → Option Verb
verb_in word = find (is_spelled verb_text word) verbs
