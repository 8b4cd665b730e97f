-- What the words behind each command ask for: which of them sets what. (This project's own choice.)
use Rattle.std.specs.Prelude.{◌≡◌, ◌⊎◌, ◌&&◌, ◌||◌, ℕ, Bool, true, false, List, [], MatchOption, Option, Some, None, codes}
use Rattle.std.specs.Prelude.{if◌then◌else◌, is_some, length, map, nat_lt, not, option_map, slice_get, string_bytes, unwrap_or, ⊤}
use Rattle.std.specs.List.{list_any}
use Rattle.std.specs.Option.{option_map_or}
use Rattle.std.specs.Str.{bytes_eq}
use Rattle.clap.specs.Words.{IsAmong, Row, fault_of, subcommand_of}
use Rattle.clap.specs.declared.error.kind.ErrorKind.{ErrorKind}
use Rattle.report_formats.specs.declared.format.Format.{Format}
use Rattle.report_formats.specs.declared.format.Format.TheVariants as formats
use Rattle.report_formats.specs.declared.format.TestFormat.{TestFormat}
use Rattle.report_formats.specs.declared.format.TestFormat.TheVariants as test_formats
use Rattle.command_line.specs.CommandNames.{command_of}
use Rattle.command_line.specs.Filters.{HasWrong, NameFirst}
use Rattle.program_words.specs.Given.{is_set, number_of, word_of, words_of}
use Rattle.command_line.specs.Pages.{IsPage, explained, page_head}
use Rattle.command_line.specs.Parameters.{AreChoices, program}
use Rattle.command_line.specs.Readings.{readings}
use Rattle.command_line.specs.Reads.{file, filter_sources, names_read, sources_of}
use Rattle.command_line.specs.Sources.{AreNamed}
use Rattle.command_line.specs.Telling.{is_explained}
use Rattle.program_words.specs.Showing.{status_of}
use Rattle.program_words.specs.Sources.{dash, is_file}
use Rattle.command_line.specs.declared.command_names.CommandName.{CommandName}
use Rattle.command_line.specs.declared.command_names.CommandName.TheVariants as command
use Rattle.line_protocol.specs.declared.faults.StreamFault.{StreamFault}
use Rattle.line_protocol.specs.declared.faults.StreamFault.TheVariants.{Memory, Write}
use Rattle.report_formats.specs.declared.options.DiffOptions.{DiffOptions}
use Rattle.command_line.specs.declared.filter_words.NamedFile.{NamedFile}
use Rattle.command_line.specs.declared.filter_words.WrongFilter.{WrongFilter}
use Rattle.report_formats.specs.declared.options.LintOptions.{LintOptions}
use Rattle.command_line.specs.declared.options.Choices.{Choices}
use Rattle.report_formats.specs.declared.options.CheckOptions.{CheckOptions}
use Rattle.command_line.specs.declared.requests.Request.{Request}
use Rattle.command_line.specs.declared.requests.Request.TheVariants as request
use Rattle.command_line.specs.declared.requests.RouteReport.{RouteReport}
use Rattle.command_line.specs.declared.requests.RouteReport.TheVariants.{Verdicts, Reasons, Coverage}
use Rattle.command_line.specs.declared.requests.RunOptions.{RunOptions}
use Rattle.program_words.specs.declared.source.Source.{Source}
use Rattle.command_line.specs.declared.requests.Trying.{Trying}
use Rattle.command_line.specs.declared.router_words.RouterWords.{RouterWords}
use Rattle.command_line.specs.declared.telling.Telling.{Telling}
use Rattle.command_line.specs.declared.telling.Telling.TheVariants.{Auto, Always, Never}
use Rattle.command_line.specs.declared.terminals.Terminals.{Terminals}
use Rattle.report_formats.specs.declared.options.TestOptions.{TestOptions}
use Rattle.command_line.specs.declared.words.Invocation.{Invocation}
use Rattle.command_line.specs.declared.words.Invocation.TheVariants.{Asked, Network, Router, Shown}

-- the classes of routes that are tried where no number of them is said
abbrev pub usual_limit : ℕ
usual_limit = 1000000

-- what the value of `--explain` says
abbrev pub telling_named : List ℕ → Telling
telling_named word = if bytes_eq word (codes "always") then Always else if bytes_eq word (codes "never") then Never else Auto

abbrev pub telling_of : List Row → Telling
telling_of given = option_map_or telling_named (word_of (codes "explain") given) Auto

-- what the value of `--format` says
abbrev pub format_named : List ℕ → Format
format_named word = if bytes_eq word (codes "json") then formats.Json else formats.Text

abbrev pub format_of : List Row → Format
format_of given = option_map_or format_named (word_of (codes "format") given) formats.Text

-- and that of `test`
abbrev pub test_format_named : List ℕ → TestFormat
test_format_named word =
    if bytes_eq word (codes "json") then test_formats.Json else if bytes_eq word (codes "junit") then test_formats.Junit else test_formats.Tap

abbrev pub test_format_of : List Row → TestFormat
test_format_of given = option_map_or test_format_named (word_of (codes "format") given) test_formats.Tap

-- a refusal is told in words, where sources are files that were named or not
abbrev pub tells : List Row → Terminals → Bool → Bool
tells given terminals has_files = is_explained (telling_of given) terminals.errors has_files

-- how `check` checks sources, of which some are files or none is: all that is asked for beside the report has refusals told
pub record IsChecking (given : List Row) (terminals : Terminals) (has_files : Bool) (how : CheckOptions) : Type 0 where
  pub is_code : how.is_code ≡ is_set (codes "code") given
  pub has_names : how.has_names ≡ is_set (codes "names") given
  pub is_quiet : how.is_quiet ≡ is_set (codes "quiet") given
  pub warning_limit : how.warning_limit ≡ (if is_set (codes "warn") given then Some usual_limit else None)
  pub format : how.format ≡ format_of given
  pub is_explained : how.is_explained ≡ tells given terminals has_files
  pub tells_people : how.tells_people ≡ (has_files
      || (how.is_explained || (how.has_names || (how.is_quiet || is_some how.warning_limit))))

-- the words say this size: none is meant where none is said
abbrev pub SaysSize : List Row → ℕ → Type 0
SaysSize given size = number_of 32 (codes "size") given ≡ Some size

-- how `diff` compares filters on the routes of a domain of a size, of which one is in a file
abbrev pub comparing_of : List Row → Terminals → ℕ → DiffOptions
comparing_of given terminals size = record {
  size = size;
  limit = unwrap_or (number_of 64 (codes "limit") given) usual_limit;
  format = format_of given;
  is_explained = tells given terminals true;
}

-- how `lint` looks through filters
pub record IsLinting (given : List Row) (terminals : Terminals) (sources : List Source) (how : LintOptions) : Type 0 where
  pub size : SaysSize given how.size
  pub limit : how.limit ≡ unwrap_or (number_of 64 (codes "limit") given) usual_limit
  pub allowed : map (λ copy. string_bytes copy) how.allowed.items ≡ words_of (codes "allow") given
  pub format : how.format ≡ format_of given
  pub asks_order : how.asks_order ≡ is_set (codes "order") given
  pub is_explained : how.is_explained ≡ tells given terminals (list_any is_file sources)

-- how `test` runs test files
abbrev pub testing_of : List Row → Terminals → List Source → TestOptions
testing_of given terminals sources = record {
  limit = unwrap_or (number_of 64 (codes "limit") given) usual_limit;
  format = test_format_of given;
  is_explained = tells given terminals (list_any is_file sources);
}

-- what `filter` writes of routes
abbrev pub report_of : List Row → RouteReport
report_of given = if is_set (codes "why") given then Reasons else if is_set (codes "coverage") given then Coverage else Verdicts

-- `--why` and `--coverage` do not go together
abbrev pub asks_twice : List Row → Bool
asks_twice given = is_set (codes "why") given && is_set (codes "coverage") given

-- how `filter` tries a filter, which is in a file since standard input has the routes
pub record IsTrying (given : List Row) (terminals : Terminals) (how : Trying) : Type 0 where
  pub size : number_of 32 (codes "size") given ≡ Some how.size
  pub report : how.report ≡ report_of given
  pub is_explained : how.is_explained ≡ tells given terminals true
  pub tells_routes : how.tells_routes ≡ tells given terminals false

-- the words of `filter` name a file
abbrev pub names_file : List Row → Bool
names_file given = option_map_or (λ name. not (bytes_eq name dash)) (word_of file given) false

-- the filters of `--filter`, in order
abbrev pub AreFilters : List Row → List NamedFile → Type 0
AreFilters given filters =
    let words = words_of (codes "filter") given in NameFirst words (length words) filters

-- a word of `--filter` is wrong
abbrev pub HasWrongFilter : List Row → Type 0
HasWrongFilter given = (wrong : WrongFilter) × HasWrong (words_of (codes "filter") given) wrong

-- how `run` carries a script out, of which some is in files or none is
pub record IsRunning (given : List Row) (terminals : Terminals) (has_files : Bool) (how : RunOptions) : Type 0 where
  pub is_explained : how.is_explained ≡ tells given terminals has_files
  pub stops : how.stops ≡ is_set (codes "stop") given
  pub save : option_map (λ copy. string_bytes copy) how.save ≡ word_of (codes "save") given
  pub filters : AreFilters given how.filters.items

-- what the words of `router` say; a file may say the rest
pub record IsRouting (given : List Row) (words : RouterWords) : Type 0 where
  pub config : option_map (λ copy. string_bytes copy) words.config ≡ word_of (codes "config") given
  pub checks : words.checks ≡ is_set (codes "check") given
  pub domain : option_map (λ copy. string_bytes copy) words.domain ≡ word_of (codes "domain") given
  pub allows_other : words.allows_other ≡ is_set (codes "allow-other-domain") given
  pub size : words.size ≡ number_of 32 (codes "size") given
  pub node : words.node ≡ number_of 32 (codes "node") given
  pub limit : words.limit ≡ number_of 32 (codes "limit") given
  pub queue : words.queue ≡ number_of 32 (codes "queue") given
  pub retry : words.retry ≡ number_of 32 (codes "retry") given
  pub hold : words.hold ≡ number_of 32 (codes "hold") given
  pub save : option_map (λ copy. string_bytes copy) words.save ≡ word_of (codes "save") given
  pub segments : words.segments ≡ number_of 32 (codes "segments") given
  pub routes : option_map (λ copy. string_bytes copy) words.routes ≡ word_of (codes "routes") given
  pub settle : words.settle ≡ number_of 32 (codes "settle") given
  pub log : option_map (λ copy. string_bytes copy) words.log ≡ word_of (codes "log") given
  pub stays : words.stays ≡ is_set (codes "stay") given
  pub prefixes : map (λ copy. string_bytes copy) words.prefixes.items ≡ words_of (codes "prefix") given
  pub filters : AreFilters given words.filters.items
  pub imports : map (λ copy. string_bytes copy) words.imports.items ≡ words_of (codes "import") given
  pub exports : map (λ copy. string_bytes copy) words.exports.items ≡ words_of (codes "export") given
  pub links : map (λ copy. string_bytes copy) words.links.items ≡ words_of (codes "link") given
  pub controls : map (λ copy. string_bytes copy) words.controls.items ≡ words_of (codes "control") given

-- `domain` is asked for a page and for a comparison, of which there is none on a page
abbrev pub pages_a_comparison : List Row → Bool
pages_a_comparison given = is_some (word_of (codes "page") given) && is_some (word_of (codes "compare") given)

-- it is said how a comparison is written, and none is asked for
abbrev pub formats_no_comparison : List Row → Bool
formats_no_comparison given = is_some (word_of (codes "format") given) && not (is_some (word_of (codes "compare") given))

-- what the words behind a command set in a request
abbrev pub Sets : CommandName → List Row → Terminals → Request → Type 0
Sets command.Check given terminals (request.Check how sources) =
    SaysSize given how.size × IsChecking given terminals (list_any is_file sources.items) how
Sets command.Diff given terminals (request.Diff how old new) = SaysSize given how.size × (how ≡ comparing_of given terminals how.size)
Sets command.Domain given terminals (request.Domain source tells_people) =
    (tells_people ≡ tells given terminals (is_file source)) × (word_of (codes "page") given ≡ None) × (word_of (codes "compare") given ≡ None)
    × (word_of (codes "format") given ≡ None)
Sets command.Domain given terminals (request.Page source tells_people page) =
    (tells_people ≡ tells given terminals (is_file source)) × (word_of (codes "page") given ≡ Some (string_bytes page))
    × (word_of (codes "compare") given ≡ None) × (word_of (codes "format") given ≡ None)
Sets command.Domain given terminals (request.Compare format old new tells_people) =
    (tells_people ≡ tells given terminals true) × (format ≡ format_of given) × (is_some (word_of (codes "compare") given) ≡ true)
    × (word_of (codes "page") given ≡ None)
Sets command.Eval given terminals (request.Eval tells_people) = tells_people ≡ tells given terminals false
Sets command.Explain given terminals (request.Explain page) = IsPage (explained given) (string_bytes page)
Sets command.Filter given terminals (request.Filter how source) =
    IsTrying given terminals how × (names_file given ≡ true) × (asks_twice given ≡ false)
Sets command.Lint given terminals (request.Lint how sources) = IsLinting given terminals sources.items how
Sets command.List given terminals (request.List size is_code source tells_people) = (size ≡ number_of 32 (codes "size") given)
    × (is_code ≡ is_set (codes "code") given) × (tells_people ≡ tells given terminals (is_file source))
Sets command.Replay given terminals (request.Replay sources) = ⊤
Sets command.Rewrite given terminals (request.Rewrite is_old) = is_old ≡ is_set (codes "old") given
Sets command.Run given terminals (request.Run how sources) = IsRunning given terminals (list_any is_file sources.items) how
Sets command.Test given terminals (request.Test how sources) = how ≡ testing_of given terminals sources.items
Sets _ given terminals _ = ⊥

-- The words behind a command ask for this: it reads what they name, in order, and they set the rest.
pub record AskFor (named : CommandName) (given : List Row) (terminals : Terminals) (asked : Request) : Type 0 where
  pub reads : AreNamed (names_read named given) (sources_of asked)
  pub sets : Sets named given terminals asked

-- The words of `router` tell this.
pub record AskForRouter (given : List Row) (words : RouterWords) : Type 0 where
  pub reads : AreNamed (names_read command.Router given) (filter_sources words.filters.items)
  pub sets : IsRouting given words

-- the words behind a command are refused, though the parser of words accepts them
abbrev pub AreRefused : CommandName → List Row → Type 0
AreRefused command.Check given = number_of 32 (codes "size") given ≡ None
AreRefused command.Diff given = number_of 32 (codes "size") given ≡ None
AreRefused command.Domain given = (pages_a_comparison given ≡ true) ⊎ (formats_no_comparison given ≡ true)
AreRefused command.Explain given = page_head (explained given) ≡ None
AreRefused command.Filter given =
    (asks_twice given ≡ true) ⊎ ((number_of 32 (codes "size") given ≡ None) ⊎ (names_file given ≡ false))
AreRefused command.Lint given = number_of 32 (codes "size") given ≡ None
AreRefused command.Router given = HasWrongFilter given
AreRefused command.Run given = HasWrongFilter given
AreRefused _ given = ⊥

-- what the words of a command come to
abbrev pub ComesTo : CommandName → List Row → Terminals → Invocation → Type 0
ComesTo named given terminals (Asked asked) = AskFor named given terminals asked
ComesTo named given terminals Network = named ≡ command.Net
ComesTo named given terminals (Router words) = (named ≡ command.Router) × AskForRouter given words
ComesTo named given terminals (Shown status) = AreRefused named given × (status ≡ 2)

-- What the parser of words met, a command's name and the words behind it, comes to this. It meets no other name, and always one.
abbrev pub MetComesTo : Option (List ℕ × List Row) → Terminals → Invocation → Type 0
MetComesTo None terminals words = words ≡ Shown 2
MetComesTo (Some met) terminals words =
    MatchOption (command_of met.0) (words ≡ Shown 2) (λ named. ComesTo named met.1 terminals words)

-- words that ask for standard input more than once are refused
abbrev pub once : Invocation → Invocation
once words = if nat_lt 1 (readings words) then Shown 2 else words

-- The parser of words accepts the words of a command line, of which the first is the program's name, and met this.
pub record Meets (line : List (List ℕ)) (met : Option (List ℕ × List Row)) : Type 0 where
  pub choices : Choices
  pub are_choices : AreChoices choices
  pub accepted : fault_of (program choices) line ≡ []
  pub is_met : met ≡ subcommand_of (program choices) line

-- It does not, and this is one of the kinds of error that the first mistake has.
pub record Shows (line : List (List ℕ)) (shown : ErrorKind) : Type 0 where
  pub choices : Choices
  pub are_choices : AreChoices choices
  pub among : IsAmong shown (fault_of (program choices) line)

-- what the parser of words makes of the words of a command line
abbrev pub IsParsed : List (List ℕ) → Terminals → Invocation → Type 0
IsParsed line terminals words = ((shown : ErrorKind) × Shows line shown × (words ≡ Shown (status_of shown)))
    ⊎ ((met : Option (List ℕ × List Row)) × (meant : Invocation) × Meets line met × MetComesTo met terminals meant
    × (words ≡ once meant))

-- the words ask for `import`, which is a program of its own
abbrev pub asks_for_import : List (List ℕ) → Bool
asks_for_import line = option_map_or (λ word. bytes_eq word (codes "import")) (slice_get line 1) false

-- what the words of a command line come to: those that ask for `import` are refused, whatever stands behind it
abbrev pub IsMeant : List (List ℕ) → Terminals → Invocation → Type 0
IsMeant line terminals words = ((asks_for_import line ≡ true) × (words ≡ Shown 2))
    ⊎ ((asks_for_import line ≡ false) × IsParsed line terminals words)

-- The words of a command line do not come to anything: memory was refused, or help was to be shown and was not taken.
abbrev pub FailsBy : List (List ℕ) → StreamFault → Type 0
FailsBy line fault = (fault ≡ Memory) ⊎ ((fault ≡ Write) × ((shown : ErrorKind) × Shows line shown × (status_of shown ≡ 0)))
