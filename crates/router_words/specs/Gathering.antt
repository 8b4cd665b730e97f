-- The options of a router that the command line says, with those that its file says. (This project's own choice.)
use Rattle.std.specs.Prelude.{◌≡◌, ◌<◌, ℕ, Bool, true, false, ◌||◌, ◌++◌, List, [], ◌∷◌, Option, Some, None, if◌then◌else◌}
use Rattle.std.specs.Prelude.{is_some, length, map, option_and_then, slice_get, string_bytes}
use Rattle.std.specs.List.{flat_map, list_any}
use Rattle.std.specs.Option.{option_map}
use Rattle.std.specs.Str.{bytes_eq}
use Rattle.command_line.specs.declared.filter_words.NamedFile.{NamedFile}
use Rattle.program_words.specs.Sources.{path_of}
use Rattle.command_line.specs.declared.router_words.RouterWords.{RouterWords}
use Rattle.line_protocol.specs.Names.{is_name}
use Rattle.router_files.specs.Again.{IsAgain, NoneAgain}
use Rattle.router_files.specs.Files.{StatementView, statement_of}
use Rattle.router_files.specs.Said.{SaidView, Given, Number, Text, Named}
use Rattle.router_files.specs.declared.options.RouterOption.{RouterOption}
use Rattle.router_files.specs.declared.options.RouterOption.TheVariants as option
use Rattle.router_words.specs.Stated.{is_of, nth_stated}
use Rattle.router_words.specs.declared.gathering.Clash.{Clash}
use Rattle.router_words.specs.declared.gathering.Clash.TheVariants.{Again, Wrong}
use Rattle.router_words.specs.declared.gathering.StatementFault.{StatementFault}
use Rattle.router_words.specs.declared.gathering.StatementFault.TheVariants as fault

-- ---- a line that is not to be there beside the command line

-- the command line says an option that may be said once
abbrev pub says : RouterWords → RouterOption → Bool
says words option.Size = is_some words.size
says words option.Node = is_some words.node
says words option.Limit = is_some words.limit
says words option.Queue = is_some words.queue
says words option.Retry = is_some words.retry
says words option.Hold = is_some words.hold
says words option.Segments = is_some words.segments
says words option.Settle = is_some words.settle
says words option.Save = is_some words.save
says words option.Routes = is_some words.routes
says words option.Log = is_some words.log
says words option.Stay = words.stays
says words option.Domain = is_some words.domain
says words option.AllowOtherDomain = words.allows_other
says words option.Prefix = false
says words option.Filter = false
says words option.Import = false
says words option.Export = false
says words option.Link = false
says words option.Control = false

-- it gives this name to a filter
abbrev pub gives_name : RouterWords → List ℕ → Bool
gives_name words name = list_any (λ named. bytes_eq (string_bytes named.name) name) words.filters.items

-- a filter has a name as scripts have them, and no two have one
abbrev pub fault_of_name : RouterWords → List ℕ → Option StatementFault
fault_of_name words name =
    if is_name name then (if gives_name words name then Some fault.Beside else None) else Some fault.Name

abbrev pub fault_of_said : RouterWords → RouterOption → SaidView → Option StatementFault
fault_of_said words option (Named name file) = fault_of_name words name
fault_of_said words option _ = if says words option then Some fault.Beside else None

abbrev pub fault_of : RouterWords → StatementView → Option StatementFault
fault_of words statement = fault_of_said words statement.option statement.said

-- no line before this index is refused by itself
abbrev pub NoneWrongBefore : RouterWords → List StatementView → ℕ → Type 0
NoneWrongBefore words statements end =
    (n : ℕ) (statement : StatementView) → n < end → slice_get statements n ≡ Some statement → fault_of words statement ≡ None

abbrev pub NoneWrong : RouterWords → List StatementView → Type 0
NoneWrong words statements = NoneWrongBefore words statements (length statements)

-- this is the first that is
abbrev pub IsFirstWrong : RouterWords → List StatementView → Clash → Type 0
IsFirstWrong words statements (Again later earlier) = ⊥
IsFirstWrong words statements (Wrong statement why) = (n : ℕ) × (slice_get statements n ≡ Some (statement_of statement.now))
    × (fault_of words (statement_of statement.now) ≡ Some why) × NoneWrongBefore words statements n

-- no line is wrong, and none says again what an earlier one says
abbrev pub Fit : RouterWords → List StatementView → Type 0
Fit words statements = NoneAgain statements × NoneWrong words statements

-- this is the first that does so, or else the first that is wrong
abbrev pub IsClash : RouterWords → List StatementView → Clash → Type 0
IsClash words statements (Again later earlier) = IsAgain statements (record { later = later; earlier = earlier })
IsClash words statements (Wrong statement why) = NoneAgain statements × IsFirstWrong words statements (Wrong statement why)

-- ---- what both say together

abbrev pub number_said : SaidView → Option ℕ
number_said (Number n) = Some n
number_said _ = None

abbrev pub number_in : StatementView → Option ℕ
number_in statement = number_said statement.said

abbrev pub text_said : SaidView → Option (List ℕ)
text_said (Text text) = Some text
text_said _ = None

abbrev pub text_in : StatementView → Option (List ℕ)
text_in statement = text_said statement.said

-- the number of an option: that of the command line, or else that of the file
abbrev pub number_of : Option ℕ → RouterOption → List StatementView → Option ℕ
number_of (Some n) option statements = Some n
number_of None option statements = option_and_then number_in (nth_stated option 0 statements)

-- its text, likewise
abbrev pub stated_text : RouterOption → List StatementView → Option (List ℕ)
stated_text option statements = option_and_then text_in (nth_stated option 0 statements)

abbrev pub text_of : Option (List ℕ) → RouterOption → List StatementView → Option (List ℕ)
text_of (Some text) option statements = Some text
text_of None option statements = stated_text option statements

-- what a line says of an option, if it does
abbrev pub as_list : Option (List ℕ) → List (List ℕ)
as_list None = []
as_list (Some text) = text ∷ []

abbrev pub texts_in : RouterOption → StatementView → List (List ℕ)
texts_in option statement = if is_of option statement then as_list (text_in statement) else []

-- what the file says of an option, and then what the command line says
abbrev pub texts_of : RouterOption → List StatementView → List (List ℕ) → List (List ℕ)
texts_of option statements given = flat_map (texts_in option) statements ++ given

-- a filter: its name, and the file of its text; none where that is standard input
abbrev pub filter_of : NamedFile → List ℕ × Option (List ℕ)
filter_of named = (string_bytes named.name, path_of named.source)

abbrev pub filters_said : SaidView → List (List ℕ × Option (List ℕ))
filters_said (Named name file) = (name, Some file) ∷ []
filters_said _ = []

abbrev pub filters_in : StatementView → List (List ℕ × Option (List ℕ))
filters_in statement = filters_said statement.said

-- All options, as if the command line had said them.
pub record Gathers (words : RouterWords) (statements : List StatementView) (all : RouterWords) : Type 0 where
  pub config : all.config ≡ None
  pub checks : all.checks ≡ words.checks
  pub domain : option_map (λ text. string_bytes text) all.domain
      ≡ text_of (option_map (λ text. string_bytes text) words.domain) option.Domain statements
  pub allows_other : all.allows_other ≡ (words.allows_other || is_some (nth_stated option.AllowOtherDomain 0 statements))
  pub size : all.size ≡ number_of words.size option.Size statements
  pub node : all.node ≡ number_of words.node option.Node statements
  pub limit : all.limit ≡ number_of words.limit option.Limit statements
  pub queue : all.queue ≡ number_of words.queue option.Queue statements
  pub retry : all.retry ≡ number_of words.retry option.Retry statements
  pub hold : all.hold ≡ number_of words.hold option.Hold statements
  pub save : option_map (λ text. string_bytes text) all.save
      ≡ text_of (option_map (λ text. string_bytes text) words.save) option.Save statements
  pub segments : all.segments ≡ number_of words.segments option.Segments statements
  pub routes : option_map (λ text. string_bytes text) all.routes
      ≡ text_of (option_map (λ text. string_bytes text) words.routes) option.Routes statements
  pub settle : all.settle ≡ number_of words.settle option.Settle statements
  pub log : option_map (λ text. string_bytes text) all.log
      ≡ text_of (option_map (λ text. string_bytes text) words.log) option.Log statements
  pub stays : all.stays ≡ (words.stays || is_some (nth_stated option.Stay 0 statements))
  pub prefixes : map (λ text. string_bytes text) all.prefixes.items
      ≡ texts_of option.Prefix statements (map (λ text. string_bytes text) words.prefixes.items)
  pub filters : map filter_of all.filters.items ≡ flat_map filters_in statements ++ map filter_of words.filters.items
  pub imports : map (λ text. string_bytes text) all.imports.items
      ≡ texts_of option.Import statements (map (λ text. string_bytes text) words.imports.items)
  pub exports : map (λ text. string_bytes text) all.exports.items
      ≡ texts_of option.Export statements (map (λ text. string_bytes text) words.exports.items)
  pub links : map (λ text. string_bytes text) all.links.items
      ≡ texts_of option.Link statements (map (λ text. string_bytes text) words.links.items)
  pub controls : map (λ text. string_bytes text) all.controls.items
      ≡ texts_of option.Control statements (map (λ text. string_bytes text) words.controls.items)
