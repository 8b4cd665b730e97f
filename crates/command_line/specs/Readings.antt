-- How often what the words of a command line ask for reads standard input to its end. (This project's own choice.)
use Rattle.std.specs.Prelude.{ℕ, List, count_by, if◌then◌else◌, max}
use Rattle.program_words.specs.Sources.{is_input}
use Rattle.command_line.specs.Reads.{filter_sources, sources_of}
use Rattle.command_line.specs.declared.requests.Request.{Request}
use Rattle.program_words.specs.declared.source.Source.{Source}
use Rattle.command_line.specs.declared.router_words.RouterWords.{RouterWords}
use Rattle.command_line.specs.declared.words.Invocation.{Invocation}
use Rattle.command_line.specs.declared.words.Invocation.TheVariants.{Asked, Network, Router, Shown}

-- how many of these sources are standard input
abbrev pub inputs_among : List Source → ℕ
inputs_among sources = count_by is_input sources

-- how often a request reads it: as a source of its own, as a filter, or for the lines and routes that stand there
abbrev pub readings_of : Request → ℕ
readings_of request = inputs_among (sources_of request)

-- how often a router reads it: what its filters leave of it, if anything is left, unless it is not started
abbrev pub readings_by_router : RouterWords → ℕ
readings_by_router words =
    let filters = inputs_among (filter_sources words.filters.items) in if words.checks then filters else max 1 filters

-- how often the words read it
abbrev pub readings : Invocation → ℕ
readings (Asked asked) = readings_of asked
readings Network = 0
readings (Router words) = readings_by_router words
readings (Shown status) = 0
