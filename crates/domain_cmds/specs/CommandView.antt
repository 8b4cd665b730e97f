-- What a contract sees of a command. (The commands are this project's own choice.)
use Rattle.std.specs.Prelude.{ℕ, Bool, List}
use Rattle.operator_cmds.specs.declared.event.Direction.{Direction}
use Rattle.domain_cmds.specs.declared.command.DomainCommand.{DomainCommand}
use Rattle.domain_cmds.specs.declared.command.DomainCommand.TheVariants as command
use Rattle.domain_cmds.specs.declared.command.Question.{Question}

-- names, texts and files are lists of bytes, and a prefix is its bits
pub data CommandView : Type 0 where
  -- the size of the domain
  Domain : ℕ → CommandView
  -- a node, and its prefix
  Prefix : ℕ → List Bool → CommandView
  -- a name, and the text of a filter
  Load : List ℕ → List ℕ → CommandView
  -- a name, and the bytes of a code file
  Code : List ℕ → List ℕ → CommandView
  -- two nodes, and whether they are neighbours from now on
  Link : Bool → ℕ → ℕ → CommandView
  -- a node, a neighbour, and a filter's name
  Use : Direction → ℕ → ℕ → List ℕ → CommandView
  -- a node that begins anew
  Anew : ℕ → CommandView
  Mark : CommandView
  Json : CommandView
  Ask : Question → CommandView

abbrev pub view_of : DomainCommand → CommandView
view_of (command.Domain size) = Domain size.nodes
view_of (command.Prefix node prefix) = Prefix node prefix
view_of (command.Load name text) = Load name.now text.now
view_of (command.Code name bytes) = Code name.now bytes.items
view_of (command.Link linked u w) = Link linked u w
view_of (command.Use direction u w name) = Use direction u w name.now
view_of (command.Anew u) = Anew u
view_of command.Mark = Mark
view_of command.Json = Json
view_of (command.Ask question) = Ask question
