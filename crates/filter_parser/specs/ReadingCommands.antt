-- Reading commands, declarations and a filter from a list of lexemes: what is read first, and what is left. It follows the
-- parser; nothing that is published cites it.
use Rattle.std.specs.Prelude.{ℕ, zero, suc, ◌&&◌, ◌||◌, Bool, true, false, List, [], ◌∷◌, ◌++◌, length, map, Option, Some, None, Vec}
use Rattle.std.specs.declared.alloc.Global.{Global}
use Rattle.filter_tokens.specs.Lexemes.{Lexeme, covered}
use Rattle.filter_tokens.specs.declared.symbol.Symbol.{Symbol}
use Rattle.filter_tokens.specs.declared.symbol.Symbol.TheVariants as symbols
use Rattle.filter_tokens.specs.declared.token.Token.{Token}
use Rattle.expression_parser.specs.declared.input.Input.{Input}
use Rattle.filter_parser.specs.declared.parts.Parts.{Parts}
use Rattle.filter_syntax.specs.declared.tree.command.Command.{Command}
use Rattle.filter_syntax.specs.declared.tree.command.Label.{Label}
use Rattle.filter_syntax.specs.declared.tree.decl.Kind.{Kind}
use Rattle.filter_syntax.specs.declared.tree.decl.Kind.TheVariants as kind
use Rattle.expression_parser.specs.Readers.{Reading, Reader, Skip, Turn, ◌>>=◌, ◌>>◌, after◌then◌else◌, with◌then◌else◌}
use Rattle.expression_parser.specs.Readers.{when◌then◌else◌, done, given, is_there, refused}
use Rattle.expression_parser.specs.Readers.{again, stop, turns, symbol, quote, a_name, a_number}
use Rattle.expression_parser.specs.Reading.{expr_at, ranges_from}
use Rattle.expression_parser.specs.Steps.{remaining}
use Rattle.filter_syntax.specs.Syntax.{ExprView, nesting_limit}
use Rattle.filter_syntax.specs.SyntaxCommands.{TargetView, CommandView, CommandsView, LabelView, PartsView}
use Rattle.filter_syntax.specs.SyntaxCommands.{DeclView, commands_of, has_ranges, parts_of}
use Rattle.filter_syntax.specs.SyntaxCommands.{view_command, view_decl, view_label, view_part}

-- a command that the program read, as the reading functions answer it
abbrev pub command_read_of : Command × Input → CommandView × List Lexeme
command_read_of x = (view_command x.0, remaining x.1)

-- commands of the program
abbrev pub body_view : Vec Command Global → CommandsView
body_view body = commands_of (map view_command body.items)

-- a label that the program read
abbrev pub label_read_of : Label × Input → LabelView × List Lexeme
label_read_of x = (view_label x.0, remaining x.1)

-- commands that the program read
abbrev pub commands_read_of : Vec Command Global × Input → CommandsView × List Lexeme
commands_read_of x = (body_view x.0, remaining x.1)

-- parts of a `case` of the program
abbrev pub parts_view : Vec (Label × Vec Command Global) Global → PartsView
parts_view parts = parts_of (map view_part parts.items)

abbrev pub parts_read_of : Vec (Label × Vec Command Global) Global × Input → PartsView × List Lexeme
parts_read_of x = (parts_view x.0, remaining x.1)

-- the text, if there is one, and the `;`
abbrev pub end_of : Reader Bool
end_of =
    after quote then (do symbol symbols.Semicolon; done true)
    else (do symbol symbols.Semicolon; done false)

-- `= e ;`
abbrev pub assign_with : Reader ExprView → TargetView → Reader CommandView
assign_with expr target = do
  symbol symbols.Equal
  value ← expr
  symbol symbols.Semicolon
  done (CommandView.assign target value)

-- what an assignment sets that begins with this token, a name
abbrev pub target_of : List ℕ → Token → TargetView
target_of text token = TargetView.to_name (covered text token)

-- a command begins with this symbol
abbrev pub symbol_begins : Symbol → Bool
symbol_begins symbols.Semicolon = true
symbol_begins symbols.LeftBrace = true
symbol_begins symbols.If = true
symbol_begins symbols.Case = true
symbol_begins symbols.Accept = true
symbol_begins symbols.Reject = true
symbol_begins symbols.RipMetric = true
symbol_begins symbols.Net = true
symbol_begins _ = false

-- a command begins here
abbrev pub command_begins : List Lexeme → Bool
command_begins [] = false
command_begins (Lexeme.name text ∷ ws) = true
command_begins (Lexeme.symbol k ∷ ws) = symbol_begins k
command_begins (Lexeme.number n ∷ ws) = false
command_begins (Lexeme.address a ∷ ws) = false
command_begins (Lexeme.prefix bits ∷ ws) = false
command_begins (Lexeme.quote ∷ ws) = false

-- commands as long as one begins, at most this many
abbrev pub commands_from : Reader CommandView → ℕ → Reader CommandsView
commands_from command zero = refused
commands_from command (suc n) =
    when command_begins then (do
      first ← command
      more ← commands_from command n
      done (CommandsView.command_then first more))
    else done CommandsView.no_commands

-- commands as long as one begins
unfoldable pub commands_with : Reader CommandView → Reader CommandsView
commands_with command ws = commands_from command (suc (length ws)) ws

-- a block, after its `{`
abbrev pub block_with : Reader CommandView → Reader CommandView
block_with command = do
  body ← commands_with command
  symbol symbols.RightBrace
  done (CommandView.block body)

-- a part of a `case` begins here
abbrev pub part_begins : List Lexeme → Bool
part_begins ws = is_there (a_number ws) || is_there (symbol symbols.Else ws)

-- a label of ranges after the first int, and its `:`
abbrev pub ranges_label_from : ℕ → Reader LabelView
ranges_label_from low = do
  ranges ← ranges_from low
  symbol symbols.Colon
  done (LabelView.ranges_label ranges)

-- `else` and `:`, where no part before it is the `else` part
abbrev pub else_label_of : Bool → Reader LabelView
else_label_of true = do
  symbol symbols.Else
  symbol symbols.Colon
  done LabelView.else_label
else_label_of false = refused

-- a label and its `:`
abbrev pub label_of : Bool → Reader LabelView
label_of is_first = with a_number then ranges_label_from else else_label_of is_first

-- a part of a `case`
abbrev pub part_of : Reader CommandsView → Bool → Reader (LabelView × CommandsView)
part_of commands is_first = do
  label ← label_of is_first
  body ← commands
  done (label, body)

-- parts of a `case` as long as one begins, at most this many; whether none before is the `else` part
abbrev pub parts_from : Reader CommandsView → ℕ → Bool → Reader PartsView
parts_from commands zero is_first = refused
parts_from commands (suc n) is_first =
    when part_begins then (do
      part ← part_of commands is_first
      more ← parts_from commands n (is_first && has_ranges part.0)
      done (PartsView.part_then part.0 part.1 more))
    else done PartsView.no_parts

-- the parts of a `case`
unfoldable pub parts_with : Reader CommandsView → Reader PartsView
parts_with commands ws = parts_from commands (suc (length ws)) true ws

-- a `case`, after that word
abbrev pub case_with : Reader ExprView → Reader CommandView → Reader CommandView
case_with expr command = do
  argument ← expr
  symbol symbols.LeftBrace
  parts ← parts_with (commands_with command)
  symbol symbols.RightBrace
  done (CommandView.case argument parts)

-- the `else` of an `if`: no `:` follows it
abbrev pub an_else : Skip
an_else = do
  symbol symbols.Else
  after symbol symbols.Colon then (λ ws. None) else (λ ws. Some ws)

-- what follows the first command of an `if`
abbrev pub else_with : Reader CommandView → ExprView → CommandView → Reader CommandView
else_with command test chosen =
    after an_else then (do
      other ← command
      done (CommandView.if_else test chosen other))
    else done (CommandView.if_then test chosen)

-- an `if`, after that word
abbrev pub if_with : Reader ExprView → Reader CommandView → Reader CommandView
if_with expr command = do
  test ← expr
  symbol symbols.Then
  chosen ← command
  else_with command test chosen

-- what follows `accept`
abbrev pub accepts : Reader CommandView
accepts = do
  has_text ← end_of
  done (CommandView.accept has_text)

-- what follows `reject`
abbrev pub rejects : Reader CommandView
rejects = do
  has_text ← end_of
  done (CommandView.reject has_text)

-- a command that a symbol begins
abbrev pub command_by : Reader ExprView → Reader CommandView → Reader CommandView → Reader CommandView → Symbol → Reader CommandView
command_by expr block if_then cases symbols.Semicolon = done CommandView.empty
command_by expr block if_then cases symbols.LeftBrace = block
command_by expr block if_then cases symbols.If = if_then
command_by expr block if_then cases symbols.Case = cases
command_by expr block if_then cases symbols.Accept = accepts
command_by expr block if_then cases symbols.Reject = rejects
command_by expr block if_then cases symbols.RipMetric = assign_with expr TargetView.to_metric
command_by expr block if_then cases symbols.Net = assign_with expr TargetView.to_net
command_by expr block if_then cases _ = refused

-- a command, by its first lexeme
abbrev pub command_with : Reader ExprView → Reader CommandView → Reader CommandView → Reader CommandView → Reader CommandView
command_with expr block if_then cases [] = None
command_with expr block if_then cases (Lexeme.name text ∷ ws) = assign_with expr (TargetView.to_name text) ws
command_with expr block if_then cases (Lexeme.number n ∷ ws) = None
command_with expr block if_then cases (Lexeme.address a ∷ ws) = None
command_with expr block if_then cases (Lexeme.prefix bits ∷ ws) = None
command_with expr block if_then cases (Lexeme.quote ∷ ws) = None
command_with expr block if_then cases (Lexeme.symbol k ∷ ws) = command_by expr block if_then cases k ws

-- a command where this many more levels may nest
unfoldable pub command_at : ℕ → Reader CommandView
command_at zero = command_with (expr_at zero) refused refused refused
command_at (suc depth) = command_with (expr_at (suc depth)) (block_with (command_at depth)) (if_with (expr_at depth) (command_at depth))
    (case_with (expr_at depth) (command_at depth))

-- a block where this many more levels may nest, this one included
abbrev pub block_at : ℕ → Reader CommandView
block_at zero = refused
block_at (suc depth) = block_with (command_at depth)

-- an `if` where this many more levels may nest, this one included
abbrev pub if_at : ℕ → Reader CommandView
if_at zero = refused
if_at (suc depth) = if_with (expr_at depth) (command_at depth)

-- a `case` where this many more levels may nest, this one included
abbrev pub case_at : ℕ → Reader CommandView
case_at zero = refused
case_at (suc depth) = case_with (expr_at depth) (command_at depth)

-- the kind that a keyword names
abbrev pub kind_of : Symbol → Option Kind
kind_of symbols.Int = Some kind.Int
kind_of symbols.Bool = Some kind.Bool
kind_of symbols.Ip = Some kind.Ip
kind_of symbols.Prefix = Some kind.Prefix
kind_of _ = None

-- a kind's keyword
abbrev pub a_kind : Reader Kind
a_kind [] = None
a_kind (Lexeme.symbol k ∷ ws) = given (kind_of k) ws
a_kind (_ ∷ ws) = None

-- a declaration, after its kind
abbrev pub decl_with : Kind → Reader DeclView
decl_with k = do
  name ← a_name
  symbol symbols.Semicolon
  done (record { kind = k; name = name })

-- one more declaration, if one begins here
abbrev pub decl_turn : Turn (List DeclView)
decl_turn front =
    with a_kind then (λ k. do
      d ← decl_with k
      again (front ++ d ∷ []))
    else stop

-- declarations, as many as there are, after others
unfoldable pub decls_after : List DeclView → Reader (List DeclView)
decls_after front ws = turns decl_turn (length ws) front ws

-- what a filter says: its name, its declarations and its commands
pub record SaidView : Type 0 where
  pub name : List ℕ
  pub decls : List DeclView
  pub body : CommandsView

-- what was read, where nothing is left
abbrev pub nothing_after : {A : Type 0} → A → Reading A
nothing_after x [] = Some x
nothing_after x (w ∷ ws) = None

-- a body from its `{` on, after a name and declarations, and nothing after it
abbrev pub body_of : List ℕ → List DeclView → Reading SaidView
body_of name head = do
  symbol symbols.LeftBrace
  decls ← decls_after head
  body ← commands_with (command_at nesting_limit)
  symbol symbols.RightBrace
  nothing_after (record { name = name; decls = decls; body = body })

-- a filter, and nothing after it
abbrev pub filter_of : Reading SaidView
filter_of = do
  symbol symbols.Filter
  name ← a_name
  head ← decls_after []
  body_of name head

-- what the program's parts of a filter say
abbrev pub view_parts : Parts → SaidView
view_parts x = record { name = x.name.items; decls = map view_decl x.decls.items; body = commands_of (map view_command x.body.items) }
