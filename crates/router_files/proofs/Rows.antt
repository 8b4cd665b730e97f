-- Worked rows: what lines of a router's file say.
use Rattle.std.proofs.Common.{◌≡◌, Some, None, Ok, Err, refl}
use Rattle.std.specs.Prelude.{codes}
use Rattle.prefix_patterns.specs.Number.{decimal_value}
use Rattle.prefix_patterns.specs.Reading.{number_in}
use Rattle.router_files.specs.Files.{words_read}
use Rattle.router_files.specs.Options.{option_in}
use Rattle.router_files.specs.Said.{Given, Named, Number, Text}
use Rattle.router_files.specs.Words.{words_in}
use Rattle.router_files.specs.declared.options.RouterOption.TheVariants as option
use Rattle.router_files.specs.declared.said.LineFault.TheVariants as fault

number : words_read (codes "etc/") (words_in (codes "  hold 9 # seconds")) ≡ Ok (Some (option.Hold, Number 9))
unfolding option_in number_in decimal_value
number = refl

alone : words_read (codes "etc/") (words_in (codes "stay")) ≡ Ok (Some (option.Stay, Given))
unfolding option_in
alone = refl

routes : words_read (codes "etc/") (words_in (codes "routes feed")) ≡ Ok (Some (option.Routes, Text (codes "etc/feed")))
unfolding option_in
routes = refl

comment : words_read (codes "etc/") (words_in (codes " # stay")) ≡ Ok None
comment = refl

link : words_read (codes "etc/") (words_in (codes "link 1 in /run/out")) ≡ Ok (Some (option.Link, Text (codes "1=etc/in,/run/out")))
unfolding option_in number_in decimal_value
link = refl

filter : words_read (codes "etc/") (words_in (codes "filter near near.filter")) ≡ Ok (Some (option.Filter, Named (codes "near") (codes "etc/near.filter")))
unfolding option_in
filter = refl

used : words_read (codes "etc/") (words_in (codes "import 1 near")) ≡ Ok (Some (option.Import, Text (codes "1=near")))
unfolding option_in number_in decimal_value
used = refl

unknown : words_read (codes "etc/") (words_in (codes "hodl 9")) ≡ Err fault.Unknown
unfolding option_in
unknown = refl

form : words_read (codes "etc/") (words_in (codes "link 1 in")) ≡ Err (fault.Form option.Link)
unfolding option_in
form = refl
