-- How the commands are named. (This project's own choice.)
use Rattle.std.specs.Prelude.{ℕ, List, [], ◌∷◌, Option, codes, find}
use Rattle.std.specs.Str.{bytes_eq}
use Rattle.command_line.specs.declared.command_names.CommandName.{CommandName}
use Rattle.command_line.specs.declared.command_names.CommandName.TheVariants as command

abbrev pub name_of : CommandName → List ℕ
name_of command.Check = codes "check"
name_of command.Diff = codes "diff"
name_of command.Domain = codes "domain"
name_of command.Eval = codes "eval"
name_of command.Explain = codes "explain"
name_of command.Filter = codes "filter"
name_of command.Lint = codes "lint"
name_of command.List = codes "list"
name_of command.Net = codes "net"
name_of command.Replay = codes "replay"
name_of command.Rewrite = codes "rewrite"
name_of command.Router = codes "router"
name_of command.Run = codes "run"
name_of command.Test = codes "test"

abbrev pub all_commands : List CommandName
all_commands =
    command.Check ∷ command.Diff ∷ command.Domain ∷ command.Eval ∷ command.Explain ∷ command.Filter ∷ command.Lint
    ∷ command.List ∷ command.Net ∷ command.Replay ∷ command.Rewrite ∷ command.Router ∷ command.Run ∷ command.Test ∷ []

-- the command that a word names
unfoldable pub command_of : List ℕ → Option CommandName
command_of word = find (λ named. bytes_eq word (name_of named)) all_commands
