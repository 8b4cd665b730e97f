-- The commands of the program, and the options and arguments that each takes, as the parser of words reads them. (This project's own choice.)
use Rattle.std.specs.Prelude.{◌≡◌, ℕ, Bool, true, false, List, [], ◌∷◌, Some, codes, filter, fold, map, pos}
use Rattle.std.specs.Borrow.{Bor}
use Rattle.std.specs.Str.{bytes_eq}
use Rattle.clap.specs.Lexer.{usize_max}
use Rattle.clap.specs.Simple.{App, new_app, new_rule, with_rule, with_subcommand}
use Rattle.clap.specs.Walk.{Rule}
use Rattle.clap.specs.declared.builder.action.ArgAction.TheVariants.{Append, SetTrue}
use Rattle.clap.specs.declared.builder.command.Command.{Command}
use Rattle.clap.specs.declared.builder.command.Command.TheViews.{out-Command}
use Rattle.clap.specs.declared.builder.value_parser.ValueParser.TheVariants as parser
use Rattle.refusal_texts.specs.Codes.{lint_codes}
use Rattle.command_line.specs.CommandNames.{name_of}
use Rattle.command_line.specs.declared.command_names.CommandName.{CommandName}
use Rattle.command_line.specs.declared.command_names.CommandName.TheVariants as command
use Rattle.command_line.specs.declared.options.Choices.{Choices}
use Rattle.command_line.specs.declared.options.ParameterKind.{ParameterKind}
use Rattle.command_line.specs.declared.options.ParameterKind.TheVariants.{Flag, Letter, Text, Texts, When, Codes, Format, TestFormat, Number, Count, Argument, Arguments}
use Rattle.command_line.specs.declared.options.Parameter.{Parameter}

-- These are what `--explain`, `--allow` and `--format` may say.
pub record AreChoices (choices : Choices) : Type 0 where
  pub tellings : map (λ word. word.now) choices.words.now ≡ codes "auto" ∷ codes "always" ∷ codes "never" ∷ []
  pub warnings : map (λ word. word.now) choices.codes.now ≡ lint_codes
  pub formats : map (λ word. word.now) choices.formats.now ≡ codes "text" ∷ codes "json" ∷ []
  pub test_formats : map (λ word. word.now) choices.test_formats.now ≡ codes "text" ∷ codes "json" ∷ codes "junit" ∷ []

-- an argument of this name, an option that takes a value, and one that takes none
abbrev pub argument : List ℕ → Rule
argument name = record (new_rule name) { value_names = 1 }

abbrev pub option : List ℕ → Rule
option name = record (argument name) { long = Some name }

abbrev pub flag : List ℕ → Rule
flag name = record (new_rule name) { long = Some name; action = Some SetTrue }

-- what is written in this way
abbrev pub written : Choices → List ℕ → ParameterKind → Rule
written choices name Flag = flag name
written choices name (Letter letter) = record (flag name) { short = Some letter }
written choices name Text = option name
written choices name Texts = record (option name) { action = Some Append }
written choices name When = record (option name) { parser = Some (parser.Names choices.words) }
written choices name Codes = record (option name) { parser = Some (parser.Names choices.codes); action = Some Append }
written choices name Format = record (option name) { parser = Some (parser.Names choices.formats) }
written choices name TestFormat = record (option name) { parser = Some (parser.Names choices.test_formats) }
written choices name Number = record (option name) { parser = Some (parser.Signed (pos 0) (pos 4294967295)) }
written choices name Count = record (option name) { parser = Some (parser.Unsigned 0 18446744073709551615) }
written choices name Argument = argument name
written choices name Arguments = record (argument name) {
  action = Some Append;
  range = Some (record { start_inclusive = 0; end_inclusive = usize_max });
}

-- which command takes something, its name, how it is written, and whether it has to be there
pub record Taken : Type 0 where
  pub taker : List ℕ
  pub name : List ℕ
  pub kind : ParameterKind
  pub is_required : Bool

abbrev pub takes : CommandName → List ℕ → ParameterKind → Taken
takes command name kind = record { taker = name_of command; name = name; kind = kind; is_required = false }

abbrev pub needs : CommandName → List ℕ → ParameterKind → Taken
needs command name kind = record { taker = name_of command; name = name; kind = kind; is_required = true }

-- all that is taken, in the order in which the help shows it
unfoldable pub all_taken : List Taken
all_taken =
    needs command.Check (codes "size") Number ∷ takes command.Check (codes "code") Flag ∷ takes command.Check (codes "names") Flag
    ∷ takes command.Check (codes "quiet") (Letter 113) ∷ takes command.Check (codes "warn") Flag
    ∷ takes command.Check (codes "format") Format ∷ takes command.Check (codes "explain") When ∷ takes command.Check (codes "file") Arguments
    ∷ needs command.Diff (codes "size") Number ∷ takes command.Diff (codes "limit") Count ∷ takes command.Diff (codes "format") Format
    ∷ takes command.Diff (codes "explain") When
    ∷ needs command.Diff (codes "old") Argument ∷ needs command.Diff (codes "new") Argument
    ∷ takes command.Explain (codes "code") Argument
    ∷ needs command.Filter (codes "size") Number ∷ takes command.Filter (codes "why") Flag ∷ takes command.Filter (codes "coverage") Flag
    ∷ takes command.Filter (codes "explain") When ∷ needs command.Filter (codes "file") Argument
    ∷ needs command.Lint (codes "size") Number ∷ takes command.Lint (codes "limit") Count ∷ takes command.Lint (codes "allow") Codes
    ∷ takes command.Lint (codes "order") Flag ∷ takes command.Lint (codes "format") Format ∷ takes command.Lint (codes "explain") When
    ∷ takes command.Lint (codes "file") Arguments
    ∷ takes command.List (codes "size") Number ∷ takes command.List (codes "code") Flag ∷ takes command.List (codes "explain") When
    ∷ takes command.List (codes "file") Argument
    ∷ takes command.Test (codes "limit") Count ∷ takes command.Test (codes "format") TestFormat ∷ takes command.Test (codes "explain") When ∷ takes command.Test (codes "file") Arguments
    ∷ takes command.Eval (codes "explain") When
    ∷ takes command.Rewrite (codes "old") Flag
    ∷ takes command.Domain (codes "compare") Text ∷ takes command.Domain (codes "format") Format ∷ takes command.Domain (codes "page") Text
    ∷ takes command.Domain (codes "explain") When ∷ takes command.Domain (codes "file") Argument
    ∷ takes command.Replay (codes "file") Arguments
    ∷ takes command.Router (codes "config") Text ∷ takes command.Router (codes "check") Flag
    ∷ takes command.Router (codes "domain") Text ∷ takes command.Router (codes "allow-other-domain") Flag
    ∷ takes command.Router (codes "size") Number ∷ takes command.Router (codes "node") Number ∷ takes command.Router (codes "prefix") Texts
    ∷ takes command.Router (codes "link") Texts ∷ takes command.Router (codes "hold") Number
    ∷ takes command.Router (codes "retry") Number ∷ takes command.Router (codes "queue") Number
    ∷ takes command.Router (codes "filter") Texts ∷ takes command.Router (codes "import") Texts ∷ takes command.Router (codes "export") Texts
    ∷ takes command.Router (codes "control") Texts ∷ takes command.Router (codes "stay") Flag
    ∷ takes command.Router (codes "limit") Number ∷ takes command.Router (codes "save") Text ∷ takes command.Router (codes "segments") Number
    ∷ takes command.Router (codes "routes") Text ∷ takes command.Router (codes "settle") Number ∷ takes command.Router (codes "log") Text
    ∷ takes command.Run (codes "filter") Texts ∷ takes command.Run (codes "save") Text ∷ takes command.Run (codes "stop") Flag
    ∷ takes command.Run (codes "explain") When ∷ takes command.Run (codes "file") Arguments ∷ []

-- the rule of what is taken
abbrev pub rule_for : Choices → Taken → Rule
rule_for choices taken = record (written choices taken.name taken.kind) { required = taken.is_required }

-- the rules of a command, in order
abbrev pub rules_of : Choices → List ℕ → List Taken → List Rule
rules_of choices name taken = map (rule_for choices) (filter (λ t. bytes_eq t.taker name) taken)

-- a command
unfoldable pub command_app : Choices → List ℕ → App
command_app choices name = fold with_rule (new_app name) (rules_of choices name all_taken)

-- the commands, in the order in which the help shows them
abbrev pub listed : List (List ℕ)
listed =
    map name_of
    (command.Check ∷ command.Diff ∷ command.Explain ∷ command.Filter ∷ command.Lint ∷ command.List ∷ command.Test
    ∷ command.Eval ∷ command.Rewrite ∷ command.Domain ∷ command.Net ∷ command.Replay ∷ command.Router ∷ command.Run ∷ [])

-- the program without its commands: it wants one, and shows help where there are no words
abbrev pub bare_program : App
bare_program =
    let bare = new_app (codes "ncroute") in
    record bare { top = record bare.top { has_version = true; arg_required_else_help = true; subcommand_required = true } }

-- the program
abbrev pub program : Choices → App
program choices = fold with_subcommand bare_program (map (λ name. (command_app choices name).top) listed)

-- a command has an argument that its subcommands take too
abbrev pub has_globals : Command → Bool
has_globals command = (out-Command command).has_globals

-- an entry of the table of parameters, as what is taken
abbrev pub taken_by : Bor (List ℕ) × Parameter → Taken
taken_by entry =
    record { taker = entry.0.now; name = entry.1.name.now; kind = entry.1.kind; is_required = entry.1.is_required }
