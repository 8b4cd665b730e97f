-- What stands in a text where a condition is asked. (This project's own choice.)
use Rattle.std.specs.Prelude.{ℕ, ◌==◌, Bool, true, false, if◌then◌else◌, List, Option, Some, slice_get}
use Rattle.std.specs.Option.{option_map}
use Rattle.filter_lint.specs.declared.site.Site.{Site}
use Rattle.filter_lint.specs.declared.site.Site.TheVariants as site

-- by its first byte: a label begins with a digit
abbrev pub site_of : ℕ → Site
site_of byte =
    if byte == 105 then site.If else if byte == 38 then site.And else if byte == 124 then site.Or else if byte == 99 then site.Case
    else site.Label

abbrev pub site_at : List ℕ → ℕ → Option Site
site_at text at = option_map site_of (slice_get text at)

-- the word `if`
abbrev pub is_if : Option Site → Bool
is_if (Some site.If) = true
is_if place = false

abbrev pub is_if_at : List ℕ → ℕ → Bool
is_if_at text at = is_if (site_at text at)
