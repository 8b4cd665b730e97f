-- The commands and declarations of the filter language: their trees without places, the lexemes that spell them, and
-- which fit the grammar. As in the BIRD 2.0 User's Guide on filters; what is left out is this project's own choice.
use Rattle.std.specs.Prelude.{◌≡◌, ℕ, ◌&&◌, Bool, true, false, Some, None, List, [], ◌∷◌, ◌++◌, map, Vec}
use Rattle.std.specs.declared.alloc.Global.{Global}
use Rattle.filter_tokens.specs.Lexemes.{Lexeme}
use Rattle.filter_tokens.specs.declared.symbol.Symbol.{Symbol}
use Rattle.filter_tokens.specs.declared.symbol.Symbol.TheVariants as symbols
use Rattle.filter_syntax.specs.declared.tree.command.Command.{Command}
use Rattle.filter_syntax.specs.declared.tree.command.Command.TheFolds.{fold-Command}
use Rattle.filter_syntax.specs.declared.tree.command.Command.TheOpen.{Command-F}
use Rattle.filter_syntax.specs.declared.tree.command.Label.{Label}
use Rattle.filter_syntax.specs.declared.tree.command.Label.TheVariants as label
use Rattle.filter_syntax.specs.declared.tree.command.Target.{Target}
use Rattle.filter_syntax.specs.declared.tree.command.Target.TheVariants as target
use Rattle.filter_syntax.specs.declared.tree.decl.Decl.{Decl}
use Rattle.filter_syntax.specs.declared.tree.decl.Kind.{Kind}
use Rattle.filter_syntax.specs.declared.tree.decl.Kind.TheVariants as kind
use Rattle.filter_syntax.specs.Syntax.{ExprView, RangeView, view, view_range, spelling, spelling_ranges, Fits, FitsRanges, one_less}

-- what an assignment sets: a variable, `rip_metric`, `net`
pub data TargetView : Type 0 where
  to_name : (text : List ℕ) → TargetView
  to_metric : TargetView
  to_net : TargetView

-- what chooses a part of a `case`: ranges, or `else`
pub data LabelView : Type 0 where
  ranges_label : (ranges : List RangeView) → LabelView
  else_label : LabelView

-- a command: `;`, a block, `if` without and with `else`, `case`, an assignment, `accept` and `reject` without and with a text
mutual
  pub data CommandView : Type 0 where
    empty : CommandView
    block : (body : CommandsView) → CommandView
    if_then : (test : ExprView) (chosen : CommandView) → CommandView
    if_else : (test : ExprView) (chosen other : CommandView) → CommandView
    case : (argument : ExprView) (parts : PartsView) → CommandView
    assign : (target : TargetView) (value : ExprView) → CommandView
    accept : (has_text : Bool) → CommandView
    reject : (has_text : Bool) → CommandView

  -- commands one after another
  pub data CommandsView : Type 0 where
    no_commands : CommandsView
    command_then : (first : CommandView) (more : CommandsView) → CommandsView

  -- the parts of a `case` one after another, each a label and commands
  pub data PartsView : Type 0 where
    no_parts : PartsView
    part_then : (label : LabelView) (commands : CommandsView) (more : PartsView) → PartsView

-- a declaration without its place
pub record DeclView : Type 0 where
  pub kind : Kind
  pub name : List ℕ

-- commands one after another, from a list of them
abbrev pub commands_of : List CommandView → CommandsView
commands_of [] = no_commands
commands_of (x ∷ xs) = command_then x (commands_of xs)

-- the parts of a `case`, from a list of them
abbrev pub parts_of : List (LabelView × CommandsView) → PartsView
parts_of [] = no_parts
parts_of (x ∷ xs) = part_then x.0 x.1 (parts_of xs)

-- a label without its places
abbrev pub view_label : Label → LabelView
view_label (label.Ranges ranges) = ranges_label (map view_range ranges.items)
view_label (label.Else at) = else_label

-- a part without its places, where its commands are already so
abbrev pub view_part_step : Label × Vec CommandView Global → LabelView × CommandsView
view_part_step part = (view_label part.0, commands_of part.1.items)

-- what an assignment sets, without its place
abbrev pub view_target : Target → TargetView
view_target (target.Name text) = to_name text
view_target target.RipMetric = to_metric
view_target target.Net = to_net

-- a command without its places, where the commands in it are already so
abbrev pub view_step : Command-F CommandView → CommandView
view_step (Command-F.Empty at) = empty
view_step (Command-F.Block at body) = block (commands_of body.items)
view_step (Command-F.If at test chosen None) = if_then (view test) chosen.value
view_step (Command-F.If at test chosen (Some other)) = if_else (view test) chosen.value other.value
view_step (Command-F.Case at argument parts) = case (view argument) (parts_of (map view_part_step parts.items))
view_step (Command-F.Assign at target value) = assign (view_target target) (view value)
view_step (Command-F.Accept at has_text) = accept has_text
view_step (Command-F.Reject at has_text) = reject has_text

-- a command without its places
abbrev pub view_command : Command → CommandView
view_command = fold-Command CommandView view_step

-- the parts of a `case` without their places
abbrev pub view_part : Label × Vec Command Global → LabelView × CommandsView
view_part part = (view_label part.0, commands_of (map view_command part.1.items))

-- a declaration without its place
abbrev pub view_decl : Decl → DeclView
view_decl d = record { kind = d.kind; name = d.name.items }

-- the keyword of a kind
abbrev pub kind_symbol : Kind → Symbol
kind_symbol kind.Int = symbols.Int
kind_symbol kind.Bool = symbols.Bool
kind_symbol kind.Ip = symbols.Ip
kind_symbol kind.Prefix = symbols.Prefix

-- `type name ;`
abbrev pub spelling_decl : DeclView → List Lexeme
spelling_decl d = Lexeme.symbol (kind_symbol d.kind) ∷ Lexeme.name d.name ∷ Lexeme.symbol symbols.Semicolon ∷ []

-- declarations one after another
abbrev pub spelling_decls : List DeclView → List Lexeme
spelling_decls [] = []
spelling_decls (d ∷ ds) = spelling_decl d ++ spelling_decls ds

-- the lexeme of what is set
abbrev pub spelling_target : TargetView → Lexeme
spelling_target (to_name text) = Lexeme.name text
spelling_target to_metric = Lexeme.symbol symbols.RipMetric
spelling_target to_net = Lexeme.symbol symbols.Net

-- the text, if there is one, and the `;` that ends `accept` and `reject`
abbrev pub spelling_end : Bool → List Lexeme
spelling_end true = Lexeme.quote ∷ Lexeme.symbol symbols.Semicolon ∷ []
spelling_end false = Lexeme.symbol symbols.Semicolon ∷ []

-- the lexemes of a label
abbrev pub spelling_label : LabelView → List Lexeme
spelling_label (ranges_label ranges) = spelling_ranges ranges
spelling_label else_label = Lexeme.symbol symbols.Else ∷ []

-- the lexemes of a command, of commands one after another, and of the parts of a `case`
abbrev mutual
  pub spelling_command : CommandView → List Lexeme
  spelling_command empty = Lexeme.symbol symbols.Semicolon ∷ []
  spelling_command (block body) = Lexeme.symbol symbols.LeftBrace ∷ (spelling_commands body ++ Lexeme.symbol symbols.RightBrace ∷ [])
  spelling_command (if_then test chosen) = Lexeme.symbol symbols.If ∷ (spelling test ++ Lexeme.symbol symbols.Then ∷ spelling_command chosen)
  spelling_command (if_else test chosen other) =
      Lexeme.symbol symbols.If ∷ (spelling test ++ Lexeme.symbol symbols.Then ∷ (spelling_command chosen ++ Lexeme.symbol symbols.Else ∷ spelling_command other))
  spelling_command (case argument parts) =
      Lexeme.symbol symbols.Case ∷ (spelling argument ++ Lexeme.symbol symbols.LeftBrace ∷ (spelling_parts parts ++ Lexeme.symbol symbols.RightBrace ∷ []))
  spelling_command (assign target value) = spelling_target target ∷ Lexeme.symbol symbols.Equal ∷ (spelling value ++ Lexeme.symbol symbols.Semicolon ∷ [])
  spelling_command (accept has_text) = Lexeme.symbol symbols.Accept ∷ spelling_end has_text
  spelling_command (reject has_text) = Lexeme.symbol symbols.Reject ∷ spelling_end has_text

  pub spelling_commands : CommandsView → List Lexeme
  spelling_commands no_commands = []
  spelling_commands (command_then first more) = spelling_command first ++ spelling_commands more

  pub spelling_parts : PartsView → List Lexeme
  spelling_parts no_parts = []
  spelling_parts (part_then label commands more) = spelling_label label ++ Lexeme.symbol symbols.Colon ∷ (spelling_commands commands ++ spelling_parts more)

-- an `else` after the command, unless a `:` follows it, would belong to an `if` in it
abbrev pub is_open : CommandView → Bool
is_open empty = false
is_open (block body) = false
is_open (if_then test chosen) = true
is_open (if_else test chosen other) = is_open other
is_open (case argument parts) = false
is_open (assign target value) = false
is_open (accept has_text) = false
is_open (reject has_text) = false

-- a label of ranges
abbrev pub has_ranges : LabelView → Bool
has_ranges (ranges_label ranges) = true
has_ranges else_label = false

-- a label has at least one range, or is `else` where no earlier part is
abbrev pub FitsLabel : LabelView → Bool → Type 0
FitsLabel (ranges_label ranges) is_first = FitsRanges ranges
FitsLabel else_label is_first = is_first ≡ true

-- a command fits the grammar where this many more levels may nest: an `else` belongs to the nearest `if`
abbrev mutual
  pub FitsCommand : CommandView → ℕ → Type 0
  FitsCommand empty depth = Unit {0}
  FitsCommand (block body) depth = one_less depth (FitsCommands body)
  FitsCommand (if_then test chosen) depth = one_less depth (λ n. Fits test n × FitsCommand chosen n)
  FitsCommand (if_else test chosen other) depth =
      (is_open chosen ≡ false) × one_less depth (λ n. Fits test n × FitsCommand chosen n × FitsCommand other n)
  FitsCommand (case argument parts) depth = one_less depth (λ n. Fits argument n × FitsParts parts true n)
  FitsCommand (assign target value) depth = Fits value depth
  FitsCommand (accept has_text) depth = Unit {0}
  FitsCommand (reject has_text) depth = Unit {0}

  pub FitsCommands : CommandsView → ℕ → Type 0
  FitsCommands no_commands depth = Unit {0}
  FitsCommands (command_then first more) depth = FitsCommand first depth × FitsCommands more depth

  -- at most one part is the `else` part; whether none was before
  pub FitsParts : PartsView → Bool → ℕ → Type 0
  FitsParts no_parts is_first depth = Unit {0}
  FitsParts (part_then label commands more) is_first depth =
      FitsLabel label is_first × FitsCommands commands depth × FitsParts more (is_first && has_ranges label) depth
