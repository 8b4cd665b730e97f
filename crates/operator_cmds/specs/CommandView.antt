-- What a contract sees of a command. (The commands are this project's own choice.)
use Rattle.std.specs.Prelude.{ℕ, Bool, List, Option}
use Rattle.operator_cmds.specs.declared.command.Command.{Command}
use Rattle.operator_cmds.specs.declared.command.Command.TheVariants as command
use Rattle.operator_cmds.specs.declared.command.Look.{Look as TablesLook}

-- names, texts and files are lists of bytes, and a prefix is its bits
pub data CommandView : Type 0 where
  -- the size of the domain, the node that the router is, and the limit of the history if one is given
  Network : ℕ → ℕ → Option ℕ → CommandView
  -- a node, and its prefix
  Prefix : ℕ → List Bool → CommandView
  -- a name, and the text of a filter
  Load : List ℕ → List ℕ → CommandView
  -- a name, and the bytes of a code file
  Code : List ℕ → List ℕ → CommandView
  -- a node, and a filter's name
  Import : ℕ → List ℕ → CommandView
  Export : ℕ → List ℕ → CommandView
  -- a node
  Up : ℕ → CommandView
  Down : ℕ → CommandView
  -- the node that told, the destination and the distance
  Receive : ℕ → ℕ → ℕ → CommandView
  -- a node
  Take : ℕ → CommandView
  Show : ℕ → CommandView
  Look : TablesLook → CommandView
  -- a position
  History : ℕ → CommandView

abbrev pub view_of : Command → CommandView
view_of (command.Network n) = Network n.size n.me n.limit
view_of (command.Prefix node prefix) = Prefix node prefix
view_of (command.Load name text) = Load name.now text.now
view_of (command.Code name bytes) = Code name.now bytes.items
view_of (command.Import node name) = Import node name.now
view_of (command.Export node name) = Export node name.now
view_of (command.Up node) = Up node
view_of (command.Down node) = Down node
view_of (command.Receive node dest dist) = Receive node dest dist
view_of (command.Take node) = Take node
view_of (command.Show node) = Show node
view_of (command.Look look) = Look look
view_of (command.History from) = History from
