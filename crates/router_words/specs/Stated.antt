-- Which line of a router's file says an option. (This project's own choice.)
use Rattle.std.specs.Prelude.{ℕ, Bool, List, [], Option, filter, map, slice_get}
use Rattle.std.specs.Str.{bytes_eq}
use Rattle.router_files.specs.Files.{StatementView, statement_of}
use Rattle.router_files.specs.Options.{name_of}
use Rattle.router_files.specs.declared.options.RouterOption.{RouterOption}
use Rattle.router_words.specs.declared.stated.Origin.{Origin}

-- the file that says options of a router: its name, and what its lines say
pub record OriginView : Type 0 where
  pub name : List ℕ
  pub statements : List StatementView

abbrev pub origin_of : Origin → OriginView
origin_of origin = record { name = origin.name.now; statements = map statement_of origin.statements.now }

-- where there is none, no line says any
abbrev pub no_file : OriginView
no_file = record { name = []; statements = [] }

-- a line says an option
abbrev pub is_of : RouterOption → StatementView → Bool
is_of option statement = bytes_eq (name_of statement.option) (name_of option)

-- the lines that do, in order
abbrev pub stated : RouterOption → List StatementView → List StatementView
stated option statements = filter (is_of option) statements

-- the line that says an option, before which so many others say it too
abbrev pub nth_stated : RouterOption → ℕ → List StatementView → Option StatementView
nth_stated option at statements = slice_get (stated option statements) at
