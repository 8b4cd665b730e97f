-- Which files and which standard input a command reads. (This project's own choice.)
use Rattle.std.specs.Prelude.{◌++◌, ℕ, List, [], ◌∷◌, Option, Some, None, codes, map}
use Rattle.clap.specs.Words.{Row}
use Rattle.command_line.specs.Filters.{file_in}
use Rattle.program_words.specs.Given.{word_of, words_of}
use Rattle.program_words.specs.Sources.{dash, one_name}
use Rattle.command_line.specs.declared.command_names.CommandName.{CommandName}
use Rattle.command_line.specs.declared.command_names.CommandName.TheVariants as command
use Rattle.command_line.specs.declared.filter_words.NamedFile.{NamedFile}
use Rattle.command_line.specs.declared.requests.Request.{Request}
use Rattle.command_line.specs.declared.requests.Request.TheVariants as request
use Rattle.program_words.specs.declared.source.Source.{Source}
use Rattle.program_words.specs.declared.source.Source.TheVariants.{Input}

-- some names; where there are none, standard input
abbrev pub or_input : List (List ℕ) → List (List ℕ)
or_input [] = dash ∷ []
or_input (name ∷ names) = name ∷ names

abbrev pub file : List ℕ
file = codes "file"

-- the files of `--filter NAME=FILE`
abbrev pub filter_names : List Row → List (List ℕ)
filter_names given = map file_in (words_of (codes "filter") given)

-- the domain before a change, where one is named: it is read before the domain after it
abbrev pub compared_names : Option (List ℕ) → List (List ℕ)
compared_names None = []
compared_names (Some name) = name ∷ []

abbrev pub compared : List Row → List (List ℕ)
compared given = compared_names (word_of (codes "compare") given)

-- What the words behind a command name that is read, each file by its name and standard input as `-`, in the order in which it is read.
-- The routes and the code of `eval`, `filter` and `rewrite` stand on standard input. A router reads the filters first, and then what is left
-- of standard input.
abbrev pub names_read : CommandName → List Row → List (List ℕ)
names_read command.Check given = or_input (words_of file given)
names_read command.Diff given = one_name (codes "old") given ∷ one_name (codes "new") given ∷ []
names_read command.Domain given = compared given ++ one_name file given ∷ []
names_read command.Eval given = dash ∷ []
names_read command.Explain given = []
names_read command.Filter given = one_name file given ∷ dash ∷ []
names_read command.Lint given = or_input (words_of file given)
names_read command.List given = one_name file given ∷ []
names_read command.Net given = []
names_read command.Replay given = or_input (words_of file given)
names_read command.Rewrite given = dash ∷ []
names_read command.Router given = filter_names given
names_read command.Run given = filter_names given ++ or_input (words_of file given)
names_read command.Test given = or_input (words_of file given)

-- where the texts of some filters are
abbrev pub filter_sources : List NamedFile → List Source
filter_sources filters = map (λ named. named.source) filters

-- what a request reads, in order
abbrev pub sources_of : Request → List Source
sources_of (request.Check how sources) = sources.items
sources_of (request.Compare format old new is_explained) = old ∷ new ∷ []
sources_of (request.Diff how old new) = old ∷ new ∷ []
sources_of (request.Domain source is_explained) = source ∷ []
sources_of (request.Eval tells_people) = Input ∷ []
sources_of (request.Explain page) = []
sources_of (request.List size is_code source is_explained) = source ∷ []
sources_of (request.Filter how source) = source ∷ Input ∷ []
sources_of (request.Lint how sources) = sources.items
sources_of (request.Page source is_explained page) = source ∷ []
sources_of (request.Replay sources) = sources.items
sources_of (request.Rewrite is_old) = Input ∷ []
sources_of (request.Run how sources) = filter_sources how.filters.items ++ sources.items
sources_of (request.Test how sources) = sources.items
