-- Sources of filters that a line has room for. (This project's own choice.)
use Rattle.std.specs.Prelude.{ℕ, ◌*◌, ◌≤◌, List, length}
use Rattle.hex.specs.Hex.{IsBytes}
use Rattle.filter_source.specs.Limits.{source_limit}
use Rattle.operator_cmds.specs.declared.filter.FilterSource.{FilterSource}
use Rattle.operator_cmds.specs.declared.filter.FilterSource.TheVariants as source
use Rattle.domain_cmds.specs.CommandView.{CommandView, Domain, Prefix, Load, Code, Link, Use, Anew, Mark, Json, Ask}

-- a text is within the limit of a source
abbrev pub IsShortText : List ℕ → Type 0
IsShortText text = length text ≤ source_limit

-- so are the digits of these bytes
abbrev pub IsShortCode : List ℕ → Type 0
IsShortCode bytes = IsBytes bytes × (2 * length bytes ≤ source_limit)

abbrev pub IsShortSource : FilterSource → Type 0
IsShortSource (source.Text text) = IsShortText text.now
IsShortSource (source.File bytes) = IsShortCode bytes.now

-- the source of a command, if it has one
abbrev pub IsShort : CommandView → Type 0
IsShort (Load name text) = IsShortText text
IsShort (Code name bytes) = IsShortCode bytes
IsShort (Domain size) = Unit {0}
IsShort (Prefix node bits) = Unit {0}
IsShort (Link linked u w) = Unit {0}
IsShort (Use way u w name) = Unit {0}
IsShort (Anew u) = Unit {0}
IsShort Mark = Unit {0}
IsShort Json = Unit {0}
IsShort (Ask question) = Unit {0}
